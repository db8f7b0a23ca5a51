use Rattle.std.proofs.Common.{◌≡◌, drop}
use Rattle.flow_domain.specs.KeptSets.{holds}
use Rattle.stack_repair.specs.Told.{any_kept_end}
use Rattle.stack_repair.proofs.plan.any_kept_end.Given as goal

abbrev pub invariant-loop-taker : goal.invariant-loop-taker
invariant-loop-taker l = any_kept_end (holds l.kept) l.takers ≡ any_kept_end (holds l.kept) (drop l.taker-index l.takers)
