use Rattle.std.specs.Prelude.{slice_range}
use Rattle.wasm_decode.proofs.PartLemmas.{name_none, name_bad}
use Rattle.wasm_decode.proofs.sections.read_name.Goals as goal

pub returns-in_err-start : goal.returns-in_err-start
returns-in_err-start c = rw c.from_residual.ensures (name_none c.args.bytes.now c.args.at c.in_err-start.ensures)

pub returns-then-not-is_text : goal.returns-then-not-is_text
returns-then-not-is_text c = name_bad c.args.bytes.now c.args.at c.in_ok-start.end (slice_range c.args.bytes.now c.in_ok-start.start c.in_ok-start.end)
    c.in_ok-start.ensures.0
    (λ h. let t = c.is_text.ensures.1 h in let f = c.if-not-is_text.true in absurd cc)
