use Rattle.std.proofs.Common.{take}
use Rattle.single_entry.specs.Regions.{NoneIn}
use Rattle.single_entry.proofs.near.some_inside.Given as goal

abbrev pub invariant-loop-point : goal.invariant-loop-point
invariant-loop-point l = NoneIn l.first l.last (take l.point-index l.points)
