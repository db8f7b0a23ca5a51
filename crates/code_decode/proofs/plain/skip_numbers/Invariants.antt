use Rattle.std.proofs.Common.{◌-◌, List, ℕ}
use Rattle.wasm_types.specs.Numbers.{SpellsU32}
use Rattle.wasm_types.specs.Standing.{Stands, NoneStands}
use Rattle.wasm_types.specs.Parts.{EachOf}
use Rattle.code_decode.proofs.plain.skip_numbers.Given as goal

abbrev pub invariant-loop-k : goal.invariant-loop-k
invariant-loop-k l = record {
  so_far : (xs : List ℕ) × Stands (EachOf SpellsU32 l._k) l.bytes l.initial.place l.place xs;
  back : NoneStands (EachOf SpellsU32 (l.count - l._k)) l.bytes l.place → NoneStands (EachOf SpellsU32 l.count) l.bytes l.initial.place;
}
