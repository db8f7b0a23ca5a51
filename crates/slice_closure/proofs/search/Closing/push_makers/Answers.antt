use Rattle.slice_closure.specs.Next.{Maker}
use Rattle.slice_closure.proofs.Pushes.{each_more}
use Rattle.slice_closure.proofs.search.Closing.push_makers.Goals as goal

pub loop-place-preserved : goal.loop-place-preserved
loop-place-preserved c =
    each_more c.args.self.now.numbering.nodes (Maker c.args.self.now.tables) c.args.places.now
    c.loop-place.place-index _ c.args.next.now.items c.loop-place.next.items c.push_value.new.next.items
    c.loop-place-test.true c.loop-place.invariant c.in_ok-push_value.ensures
