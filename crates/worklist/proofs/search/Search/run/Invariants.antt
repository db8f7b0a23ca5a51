use Rattle.std.proofs.Common.{◌≡◌, length}
use Rattle.std.specs.List.{Contains}
use Rattle.worklist.specs.Search.{Lists, work_left}
use Rattle.worklist.proofs.Searching.{Searching}
use Rattle.worklist.proofs.search.Search.run.Given as goal

abbrev pub invariant-loop-node : goal.invariant-loop-node
invariant-loop-node g l = record {
  length_is : length l.self.marks.items ≡ g.G.Graph.node_count l.graph;
  searching : Searching (Contains l.roots) (g.G.Graph.leads l.graph) l.self.marks.items l.self.waiting.items;
  lists : Lists l.self.marks.items l.self.met.items;
}

abbrev pub decreases-loop-node : goal.decreases-loop-node
decreases-loop-node g l = work_left l.self.marks.items l.self.waiting.items
