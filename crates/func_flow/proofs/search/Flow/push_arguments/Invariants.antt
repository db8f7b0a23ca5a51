use Rattle.worklist.specs.Gains.{Gains}
use Rattle.func_flow.specs.Items.{Numbered}
use Rattle.func_flow.specs.Next.{FromBelow, ArgumentAt}
use Rattle.called_rows.specs.Whom.{output_of}
use Rattle.func_flow.proofs.search.Flow.push_arguments.Given as goal

abbrev pub invariant-loop-index : goal.invariant-loop-index
invariant-loop-index l =
    Gains (Numbered l.self.tables.numbering (FromBelow l.index (ArgumentAt l.self.tables l.places (output_of l.made) l.whom))) l.initial.next.items
    l.next.items
