use Rattle.slice_closure.specs.Flow.{ways_to}
use Rattle.slice_closure.specs.Runs.{Lands}
use Rattle.slice_closure.proofs.Pushes.{each_more, each_all, way_below}
use Rattle.slice_closure.proofs.search.Closing.push_ways.Goals as goal

pub push_earlier-requires-clause-node : goal.push_earlier-requires-clause-node
push_earlier-requires-clause-node c =
    let all = way_below c.args.self.now.numbering.nodes c.args.self.now.numbering.locs c.args.self.now.tables c.args.self.now.fits c.args.point
    c.before-earlier-items.result.now c.before-earlier-items.ensures in
    all c.loop-earlier.earlier-index _ c.loop-earlier-test.true

pub loop-earlier-preserved : goal.loop-earlier-preserved
loop-earlier-preserved c =
    each_more c.args.self.now.numbering.nodes (Lands c.args.self.now.tables c.args.loc) c.before-earlier-items.result.now c.loop-earlier.earlier-index _
    c.args.next.now.items c.loop-earlier.next.items c.push_earlier.new.next.items
    c.loop-earlier-test.true c.loop-earlier.invariant c.in_ok-push_earlier.ensures

pub returns : goal.returns
returns c =
    each_all c.args.self.now.numbering.nodes (Lands c.args.self.now.tables c.args.loc) c.before-earlier-items.result.now
    (ways_to c.args.self.now.tables.flow.now.before.items c.args.point) c.loop-earlier.earlier-index c.args.next.now.items c.loop-earlier.next.items
    c.loop-earlier-test.false c.before-earlier-items.ensures c.loop-earlier.invariant
