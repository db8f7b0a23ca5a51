use Rattle.std.proofs.Common.{take}
use Rattle.worklist.specs.Gains.{Gains}
use Rattle.slice_closure.specs.Items.{Numbered}
use Rattle.slice_closure.specs.Next.{FromEach}
use Rattle.slice_closure.specs.Runs.{Lands}
use Rattle.slice_closure.proofs.search.Closing.push_ways.Given as goal

abbrev pub invariant-loop-earlier : goal.invariant-loop-earlier
invariant-loop-earlier l = Gains (Numbered l.self.numbering.nodes (FromEach (take l.earlier-index l.earlier-items)
    (Lands l.self.tables l.loc))) l.initial.next.items l.next.items
