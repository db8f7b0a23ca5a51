use Rattle.wasm_decode.specs.Contents.{Keeps}
use Rattle.wasm_decode.proofs.EntryLemmas.{passed}
use Rattle.wasm_decode.proofs.ContentsLemmas.{whole_short, whole_stops}
use Rattle.wasm_decode.proofs.contents.keep.Goals as goal

pub returns-in_err-entries : goal.returns-in_err-entries
returns-in_err-entries g c = passed (Keeps g.E.Production.spelled g.E.Production.shallow c.args.text.now c.args.list.now) c.from_residual.result
    c.in_err-entries.field-0.0 c.from_residual.ensures.1
    (whole_stops g.E.Production.spelled g.E.Production.shallow c.args.text.now c.args.list.now c.in_err-entries.field-0.0 c.in_err-entries.ensures)

pub returns-then-end-text : goal.returns-then-end-text
returns-then-end-text g c = whole_short g.E.Production.spelled g.E.Production.shallow c.args.text.now c.in_ok-entries.end c.in_ok-entries.entries
    g.met.E.Production.once c.in_ok-entries.ensures c.if-end-text.true
