use Rattle.block_cfg.specs.Graph.{number}
use Rattle.single_entry.specs.Climbs.{Climbs}
use Rattle.single_entry.proofs.skips.Skips.climb.Given as goal

abbrev pub invariant-loop-next : goal.invariant-loop-next
invariant-loop-next l = Climbs l.self l.writers l.fn.point l.top

abbrev pub decreases-loop-next : goal.decreases-loop-next
decreases-loop-next l = number l.top
