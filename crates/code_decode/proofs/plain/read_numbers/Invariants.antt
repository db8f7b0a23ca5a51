use Rattle.std.proofs.Common.{◌-◌}
use Rattle.wasm_types.specs.Numbers.{SpellsU32}
use Rattle.wasm_types.specs.Standing.{Stands, NoneStands}
use Rattle.wasm_types.specs.Parts.{EachOf}
use Rattle.code_decode.proofs.plain.read_numbers.Given as goal

abbrev pub invariant-loop-k : goal.invariant-loop-k
invariant-loop-k l = record {
  so_far : Stands (EachOf SpellsU32 l._k) l.bytes l.initial.place l.place l.numbers;
  back : NoneStands (EachOf SpellsU32 (l.count - l._k)) l.bytes l.place → NoneStands (EachOf SpellsU32 l.count) l.bytes l.initial.place;
}
