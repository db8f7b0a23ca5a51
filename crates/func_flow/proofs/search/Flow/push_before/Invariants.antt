use Rattle.std.proofs.Common.{take}
use Rattle.worklist.specs.Gains.{Gains}
use Rattle.func_flow.specs.Items.{Numbered}
use Rattle.func_flow.specs.Next.{FromEach}
use Rattle.func_flow.specs.Runs.{Arrives}
use Rattle.func_flow.proofs.search.Flow.push_before.Given as goal

abbrev pub invariant-loop-earlier : goal.invariant-loop-earlier
invariant-loop-earlier l = Gains (Numbered l.self.tables.numbering (FromEach (take l.earlier-index l.earlier-items)
    (Arrives l.self.tables l.self.runs.now l.loc))) l.initial.next.items l.next.items
