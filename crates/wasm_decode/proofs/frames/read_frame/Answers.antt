use Rattle.wasm_decode.proofs.FrameLemmas.{no_contents}
use Rattle.wasm_decode.proofs.frames.read_frame.Goals as goal

pub returns-in_err-start : goal.returns-in_err-start
returns-in_err-start c = rw c.from_residual.ensures (no_contents c.args.bytes.now c.args.last c.args.at c.requires c.in_err-start.ensures)
