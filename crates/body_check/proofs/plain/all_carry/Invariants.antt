use Rattle.std.proofs.Common.{◌≡◌, All, Some, reverse, take}
use Rattle.std.specs.List.{slice_get}
use Rattle.body_check.proofs.plain.all_carry.Given as goal

abbrev pub invariant-loop-other : goal.invariant-loop-other
invariant-loop-other l = All (λ k. slice_get (reverse l.labels) k ≡ Some l.kind) (take l.other-index l.some)
