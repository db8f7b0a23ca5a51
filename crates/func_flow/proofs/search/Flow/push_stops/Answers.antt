use Rattle.func_flow.specs.Next.{Stop}
use Rattle.func_flow.proofs.RootLemmas.{adds_each, adds_all}
use Rattle.func_flow.proofs.search.Flow.push_stops.Goals as goal

pub loop-point-preserved : goal.loop-point-preserved
loop-point-preserved c =
    adds_each c.args.self.now.tables.numbering (Stop c.args.self.now.tables) c.points-point-items.result.now c.loop-point.point-index _ c.args.roots.now.items
    c.loop-point.roots.items c.push_stop.new.roots.items c.loop-point-test.true c.loop-point.invariant c.in_ok-push_stop.ensures

pub returns : goal.returns
returns c =
    adds_all c.args.self.now.tables.numbering (Stop c.args.self.now.tables) c.points-point-items.result.now c.args.self.now.tables.cfg.now.points
    c.loop-point.point-index c.args.roots.now.items c.loop-point.roots.items c.loop-point-test.false c.points-point-items.ensures c.loop-point.invariant
