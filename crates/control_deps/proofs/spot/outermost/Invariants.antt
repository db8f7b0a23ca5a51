use Rattle.std.proofs.Common.{◌≡◌, drop}
use Rattle.control_deps.specs.Spots.{greatest}
use Rattle.control_deps.proofs.spot.outermost.Given as goal

abbrev pub invariant-loop-next : goal.invariant-loop-next
invariant-loop-next l = greatest l.label (drop l.next-index l.some) ≡ greatest l.other l.some
