use Rattle.std.proofs.Common.{take}
use Rattle.worklist.specs.Gains.{Gains}
use Rattle.slice_closure.specs.Items.{Numbered}
use Rattle.slice_closure.specs.Next.{FromEach, Maker}
use Rattle.slice_closure.proofs.search.Closing.push_makers.Given as goal

abbrev pub invariant-loop-place : goal.invariant-loop-place
invariant-loop-place l = Gains (Numbered l.self.numbering.nodes (FromEach (take l.place-index l.places) (Maker l.self.tables))) l.initial.next.items l.next.items
