use Rattle.std.proofs.Common.{◌≡◌, [], take}
use Rattle.sparse_reach.specs.Met.{AreStarts}
use Rattle.sparse_reach.proofs.met.Met.begin.Given as goal

abbrev pub invariant-loop-root : goal.invariant-loop-root
invariant-loop-root l = record {
  none : l.met.edges.items ≡ [];
  starts : AreStarts (take l.root-index l.roots) l.met.nodes.keys l.met.waiting.items l.met.starts.items;
}
