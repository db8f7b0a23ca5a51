use Rattle.std.proofs.Common.{◌≡◌, ◌+◌, ◌*◌, None, replicate}
use Rattle.flow_domain.specs.KeptSets.{holds}
use Rattle.stack_repair.specs.Told.{noted_to}
use Rattle.stack_repair.proofs.plan.taken_kinds.Given as goal

abbrev pub invariant-loop : goal.invariant-loop
invariant-loop l = l.kinds.items ≡ replicate l.counter None

abbrev pub invariant-loop-at : goal.invariant-loop-at
invariant-loop-at l = l.kinds.items ≡ noted_to (holds l.kept) l.names l.at (replicate (2 * l.count + 1) None)
