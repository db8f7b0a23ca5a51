use Rattle.std.proofs.Common.{◌≡◌, ℕ, length}
use Rattle.worklist.specs.Lists.{Has}
use Rattle.call_graph.proofs.edges.empty_lists.Given as goal

abbrev pub invariant-loop-node : goal.invariant-loop-node
invariant-loop-node l = record {
  count : length l.lists.items ≡ l._node;
  none : (x y : ℕ) → Has l.lists.items x y → ⊥;
}
