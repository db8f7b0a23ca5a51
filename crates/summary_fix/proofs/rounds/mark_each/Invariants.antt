use Rattle.std.proofs.Common.{◌⊎◌, ℕ, take}
use Rattle.std.specs.List.{Contains}
use Rattle.worklist.specs.Search.{IsMarked}
use Rattle.summary_fix.proofs.rounds.mark_each.Given as goal

abbrev pub invariant-loop-func : goal.invariant-loop-func
invariant-loop-func l = record {
  kept : (f : ℕ) → IsMarked l.initial.marks f → IsMarked l.marks f;
  only : (f : ℕ) → IsMarked l.marks f → IsMarked l.initial.marks f ⊎ IsMarked l.wanted f;
  all : (f : ℕ) → Contains (take l.func-index l.funcs) f → IsMarked l.wanted f → IsMarked l.marks f;
}
