use Rattle.std.proofs.Common.{◌≡◌, ◌+◌, ◌≤◌, drop}
use Rattle.stack_repair.specs.Told.{count_present, told}
use Rattle.stack_repair.proofs.plan.Plan.count_present.Given as goal

abbrev pub invariant-loop-place : goal.invariant-loop-place
invariant-loop-place l = record {
  counted : l.count + count_present (told l.self) (drop l.place-index l.places) ≡ count_present (told l.self) l.places;
  few : l.count ≤ l.place-index;
}
