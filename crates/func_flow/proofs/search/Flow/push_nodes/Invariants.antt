use Rattle.std.proofs.Common.{take}
use Rattle.worklist.specs.Gains.{Gains}
use Rattle.func_flow.specs.Items.{Numbered}
use Rattle.func_flow.specs.Next.{FromEach, Joins}
use Rattle.func_flow.proofs.search.Flow.push_nodes.Given as goal

abbrev pub invariant-loop-node : goal.invariant-loop-node
invariant-loop-node l = Gains (Numbered l.self.tables.numbering (FromEach (take l.node-index l.nodes) Joins)) l.initial.next.items l.next.items
