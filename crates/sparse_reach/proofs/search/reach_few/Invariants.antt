use Rattle.std.proofs.Common.{◌≤◌, length}
use Rattle.std.specs.List.{Contains}
use Rattle.worklist.specs.Search.{work_left}
use Rattle.worklist.proofs.Searching.{Searching}
use Rattle.sparse_reach.specs.Flags.{flags}
use Rattle.sparse_reach.proofs.search.reach_few.Given as goal

abbrev pub invariant-loop-node : goal.invariant-loop-node
invariant-loop-node g l = record {
  enough : g.G.Graph.node_count l.graph ≤ length (flags l.search.marks.words);
  searching : Searching (Contains l.roots) (g.G.Graph.leads l.graph) (flags l.search.marks.words) l.search.waiting.items;
}

abbrev pub decreases-loop-node : goal.decreases-loop-node
decreases-loop-node g l = work_left (flags l.search.marks.words) l.search.waiting.items
