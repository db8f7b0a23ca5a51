use Rattle.std.proofs.Common.{◌≡◌, ◌↔◌, ◌<◌, ℕ, Some, length}
use Rattle.std.specs.Prelude.{slice_get}
use Rattle.worklist.specs.Lists.{Has}
use Rattle.call_graph.proofs.edges.members_of.Given as goal

abbrev pub invariant-loop-func : goal.invariant-loop-func
invariant-loop-func l = record {
  count : length l.lists.items ≡ l.classes.count;
  exact : (c f : ℕ) → Has l.lists.items c f ↔ ((f < l.func) × (slice_get l.classes.by_func.items f ≡ Some (Some c)));
}
