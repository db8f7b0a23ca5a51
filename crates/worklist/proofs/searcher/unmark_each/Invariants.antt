use Rattle.std.proofs.Common.{take}
use Rattle.worklist.proofs.Listing.{Unmarked}
use Rattle.worklist.proofs.searcher.unmark_each.Given as goal

abbrev pub invariant-loop-node : goal.invariant-loop-node
invariant-loop-node l = Unmarked l.initial.marks l.marks (take l.node-index l.nodes)
