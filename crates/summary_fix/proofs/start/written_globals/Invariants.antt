use Rattle.std.proofs.Common.{◌≡◌, ◌↔◌, ℕ, ◌<◌, length}
use Rattle.wasm_types.specs.declared.place.Loc.TheVariants.{Global}
use Rattle.worklist.specs.Search.{IsMarked}
use Rattle.flow_domain.specs.Reach.{MayWrite}
use Rattle.summary_fix.proofs.start.written_globals.Given as goal

abbrev pub invariant-loop-global : goal.invariant-loop-global
invariant-loop-global l = record {
  long : length l.marks.items ≡ l.global;
  exact : (k : ℕ) → k < l.global → IsMarked l.marks.items k ↔ MayWrite l.m l.func (Global k);
}
