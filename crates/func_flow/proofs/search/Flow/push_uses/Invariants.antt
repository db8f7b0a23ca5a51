use Rattle.std.proofs.Common.{take}
use Rattle.worklist.specs.Gains.{Gains}
use Rattle.func_flow.specs.Items.{Numbered}
use Rattle.func_flow.specs.Next.{FromEach, Use}
use Rattle.called_rows.specs.Whom.{output_of}
use Rattle.func_flow.proofs.search.Flow.push_uses.Given as goal

abbrev pub invariant-loop-one : goal.invariant-loop-one
invariant-loop-one l =
    Gains (Numbered l.self.tables.numbering (FromEach (take l.one-index l.one-items) (Use l.pos.0 (output_of l.made)))) l.initial.next.items l.next.items
