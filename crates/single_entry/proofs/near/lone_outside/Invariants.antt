use Rattle.std.proofs.Common.{take}
use Rattle.single_entry.proofs.Entering.{AllInOr}
use Rattle.single_entry.proofs.near.lone_outside.Given as goal

abbrev pub invariant-loop-point : goal.invariant-loop-point
invariant-loop-point l = AllInOr l.first l.last (take l.point-index l.points) l.lone
