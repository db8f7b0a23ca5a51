use Rattle.std.specs.Prelude.{slice_range}
use Rattle.wasm_types.specs.Parts.{Within}
use Rattle.wasm_decode.specs.Entries.{ReadsEntry}
use Rattle.wasm_decode.proofs.EntryLemmas.{passed}
use Rattle.wasm_decode.proofs.PartLemmas.{framed_none, framed_short, framed_stops}
use Rattle.wasm_decode.proofs.list.FramedProduction.read.Goals as goal

pub returns-in_default : goal.returns-in_default
returns-in_default g c = framed_none g.E.Production.spelled c.args.bytes.now c.args.at c.in_default.ensures

pub returns-in_err-entry : goal.returns-in_err-entry
returns-in_err-entry g c = passed (ReadsEntry (Within g.E.Production.spelled) g.E.Production.shallow c.args.bytes.now c.args.at) c.from_residual.result
    c.in_err-entry.field-0.0 c.from_residual.ensures.1
    (framed_stops g.E.Production.spelled g.E.Production.shallow c.args.bytes.now c.args.at c.in-Some.end (slice_range c.args.bytes.now c.in-Some.start
    c.in-Some.end) c.in_err-entry.field-0.0 c.in-Some.ensures.0 c.in_err-entry.ensures)

pub returns-then-last-part : goal.returns-then-last-part
returns-then-last-part g c = framed_short g.E.Production.spelled g.E.Production.shallow c.args.bytes.now c.args.at c.in-Some.end c.in_ok-entry.last
    (slice_range c.args.bytes.now c.in-Some.start c.in-Some.end) c.in_ok-entry.entry
    g.met.E.Production.once c.in-Some.ensures.0 c.in_ok-entry.ensures c.if-last-part.true
