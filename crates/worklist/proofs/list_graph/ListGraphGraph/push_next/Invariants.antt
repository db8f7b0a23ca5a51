use Rattle.std.proofs.Common.{take}
use Rattle.std.specs.List.{Contains}
use Rattle.worklist.specs.Gains.{Gains}
use Rattle.worklist.proofs.list_graph.ListGraphGraph.push_next.Given as goal

abbrev pub invariant-loop-other : goal.invariant-loop-other
invariant-loop-other l = Gains (Contains (take l.other-index l.other-items)) l.initial.next.items l.next.items
