use Rattle.std.proofs.Common.{take}
use Rattle.worklist.specs.Gains.{Gains}
use Rattle.slice_closure.specs.Items.{Numbered}
use Rattle.slice_closure.specs.Next.{FromEach, Joins}
use Rattle.slice_closure.proofs.search.Closing.push_nodes.Given as goal

abbrev pub invariant-loop-node : goal.invariant-loop-node
invariant-loop-node l = Gains (Numbered l.self.numbering.nodes (FromEach (take l.node-index l.nodes) (Joins l.self.tables))) l.initial.next.items l.next.items
