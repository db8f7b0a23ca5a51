use Rattle.std.proofs.Common.{◌↔◌, ◌<◌, ◌⊎◌, ℕ, length, take}
use Rattle.std.specs.List.{Contains}
use Rattle.worklist.specs.Search.{IsMarked}
use Rattle.call_graph.proofs.classes.mark_each.Given as goal

abbrev pub invariant-loop-func : goal.invariant-loop-func
invariant-loop-func l = (f : ℕ) → f < length l.marks → IsMarked l.marks f ↔ (IsMarked l.initial.marks f ⊎ Contains (take l.func-index l.funcs) f)
