use Rattle.worklist.specs.Gains.{Gains}
use Rattle.func_flow.specs.Items.{Numbered}
use Rattle.func_flow.specs.Next.{FromBelow, PickedAt}
use Rattle.func_flow.proofs.search.Flow.push_picked.Given as goal

abbrev pub invariant-loop-index : goal.invariant-loop-index
invariant-loop-index l = Gains (Numbered l.self.tables.numbering (FromBelow l.index (PickedAt l.places l.picks))) l.initial.next.items l.next.items
