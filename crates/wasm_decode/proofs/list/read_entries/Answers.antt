use Rattle.std.proofs.Common.{arith}
use Rattle.wasm_decode.specs.Entries.{ReadsEntries}
use Rattle.wasm_decode.proofs.EntryLemmas.{passed, goes_on, goes_back, ends, stops}
use Rattle.wasm_decode.proofs.list.read_entries.Goals as goal

pub returns-in_err-entry : goal.returns-in_err-entry
returns-in_err-entry g c = passed (ReadsEntries g.E.Production.spelled g.E.Production.shallow c.args.bytes.now c.args.at) c.from_residual.result
    c.in_err-entry.field-0.0 c.from_residual.ensures.1
    (stops g.E.Production.spelled g.E.Production.shallow c.args.bytes.now c.args.at c.in-Some.place c.loop-k.place c.in-Some.count c.loop-k.k
    c.in_err-entry.field-0.0
    c.in-Some.ensures c.loop-k-test.true c.loop-k.invariant.back c.in_err-entry.ensures)

pub loop-k-preserved : goal.loop-k-preserved
loop-k-preserved g c = record {
  so_far = goes_on g.E.Production.spelled g.E.Production.shallow c.args.bytes.now c.in-Some.place c.loop-k.place c.in_ok-entry.next c.loop-k.k
      c.loop-k.entries c.add.new.self c.in_ok-entry.entry
      c.in_ok-entry.ensures.0 c.loop-k.invariant.so_far c.in_ok-entry.ensures.1 c.in_ok-entry.ensures.2 c.in_ok-add.ensures;
  back = goes_back g.E.Production.spelled c.args.bytes.now c.in-Some.place c.loop-k.place c.in_ok-entry.next c.loop-k.k c.in-Some.count
      c.in_ok-entry.ensures.0 g.met.E.Production.once c.loop-k-test.true c.in_ok-entry.ensures.1 c.loop-k.invariant.back;
}

pub returns : goal.returns
returns g c = ends g.E.Production.spelled g.E.Production.shallow c.args.bytes.now c.args.at c.in-Some.place c.loop-k.place c.in-Some.count c.loop-k.k
    c.loop-k.entries
    c.in-Some.ensures (omega arith) c.loop-k.invariant.so_far
