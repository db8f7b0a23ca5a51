use Rattle.std.proofs.Common.{◌≡◌, ◌↔◌, ℕ, length, take}
use Rattle.std.specs.List.{Contains}
use Rattle.worklist.specs.Lists.{Has}
use Rattle.call_graph.specs.Edges.{edge_along}
use Rattle.call_graph.proofs.edges.lists_of.Given as goal

abbrev pub invariant-loop-edge : goal.invariant-loop-edge
invariant-loop-edge l = record {
  count : length l.next.items ≡ l.count;
  exact : (x y : ℕ) → Has l.next.items x y ↔ Contains (take l.edge-index l.edges) (edge_along l.way (record { from = x; to = y }));
}
