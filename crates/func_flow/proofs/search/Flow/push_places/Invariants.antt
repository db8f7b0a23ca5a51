use Rattle.worklist.specs.Gains.{Gains}
use Rattle.func_flow.specs.Items.{Numbered}
use Rattle.func_flow.specs.Next.{FromBelow, PlaceAt}
use Rattle.called_rows.specs.Whom.{output_of}
use Rattle.func_flow.proofs.search.Flow.push_places.Given as goal

abbrev pub invariant-loop-index : goal.invariant-loop-index
invariant-loop-index l =
    Gains (Numbered l.self.tables.numbering (FromBelow l.index (PlaceAt l.self.tables l.pos.0 (output_of l.made) l.whom))) l.initial.next.items l.next.items
