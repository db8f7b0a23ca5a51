use Rattle.worklist.specs.Gains.{Gains}
use Rattle.called_rows.specs.Whom.{output_of}
use Rattle.slice_closure.specs.Items.{Numbered}
use Rattle.slice_closure.specs.Next.{FromBelow, InputAt}
use Rattle.slice_closure.proofs.search.Closing.push_inputs.Given as goal

abbrev pub invariant-loop-index : goal.invariant-loop-index
invariant-loop-index l =
    Gains (Numbered l.self.numbering.nodes (FromBelow l.index (InputAt l.self.tables l.pos.0 (output_of l.made) l.whom))) l.initial.next.items l.next.items
