use Rattle.single_entry.specs.Climbs.{stays}
use Rattle.single_entry.proofs.Climbing.{climbs_on, steps_end}
use Rattle.single_entry.proofs.skips.Skips.climb.Goals as goal

pub loop-next-init : goal.loop-next-init
loop-next-init c = stays

pub loop-next-preserved : goal.loop-next-preserved
loop-next-preserved c =
    climbs_on c.args.self.now c.args.writers.now c.args.point c.loop-next.top c.in-Some.next c.loop-next.invariant c.in-Some.ensures.climbs

pub returns : goal.returns
returns c = steps_end c.args.self.now c.args.writers.now c.args.point c.loop-next.top c.step.result c.loop-next.invariant c.step.ensures c.in_default.is
