use Rattle.wasm_types.specs.Parts.{Both}
use Rattle.wasm_decode.specs.Entries.{ReadsEntry}
use Rattle.wasm_decode.proofs.EntryLemmas.{passed}
use Rattle.wasm_decode.proofs.PartLemmas.{both_read, both_stops}
use Rattle.wasm_decode.proofs.production.Tuple2Production.read.Goals as goal

pub returns-in_err-second : goal.returns-in_err-second
returns-in_err-second g c = passed (ReadsEntry (Both g.A.Production.spelled g.B.Production.spelled) (λ v. g.A.Production.shallow v.0 × g.B.Production.shallow
    v.1) c.args.bytes.now c.args.at)
    c.from_residual-in_err-second.result c.in_err-second.field-0.0 c.from_residual-in_err-second.ensures.1
    (both_stops g.A.Production.spelled g.A.Production.shallow g.B.Production.spelled g.B.Production.shallow c.args.bytes.now c.args.at c.in_ok-first.middle
    c.in_ok-first.first c.in_err-second.field-0.0
    g.met.A.Production.once c.in_ok-first.ensures c.in_err-second.ensures)

pub returns : goal.returns
returns g c = rw c.both.ensures (both_read g.A.Production.spelled g.A.Production.shallow g.B.Production.spelled g.B.Production.shallow c.args.bytes.now
    c.args.at c.in_ok-first.middle c.in_ok-second.end
    c.in_ok-first.first c.in_ok-second.second c.in_ok-first.ensures c.in_ok-second.ensures)
