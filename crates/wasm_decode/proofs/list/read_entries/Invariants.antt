use Rattle.std.proofs.Common.{◌-◌}
use Rattle.wasm_types.specs.Standing.{NoneStands}
use Rattle.wasm_types.specs.Parts.{EachOf}
use Rattle.wasm_decode.proofs.EntryLemmas.{SoFar}
use Rattle.wasm_decode.proofs.list.read_entries.Given as goal

abbrev pub invariant-loop-k : goal.invariant-loop-k
invariant-loop-k g l = record {
  so_far : SoFar g.E.Production.spelled g.E.Production.shallow l.bytes l.initial.place l.place l.k l.entries;
  back : NoneStands (EachOf g.E.Production.spelled (l.count - l.k)) l.bytes l.place → NoneStands (EachOf g.E.Production.spelled l.count) l.bytes
      l.initial.place;
}
