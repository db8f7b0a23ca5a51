use Rattle.wasm_types.specs.Numbers.{SpellsU32}
use Rattle.text_laws.proofs.ModuleLemmas.{none_whole}
use Rattle.wasm_decode.proofs.contents.read_start.Goals as goal

pub returns-in_err-func : goal.returns-in_err-func
returns-in_err-func c = rw c.from_residual.ensures (λ n p. none_whole SpellsU32 c.args.text.now n c.in_err-func.ensures p)
