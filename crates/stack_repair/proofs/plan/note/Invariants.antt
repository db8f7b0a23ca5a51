use Rattle.std.proofs.Common.{◌≡◌, drop}
use Rattle.stack_repair.specs.Told.{noted}
use Rattle.stack_repair.proofs.plan.note.Given as goal

abbrev pub invariant-loop-place : goal.invariant-loop-place
invariant-loop-place l = noted l.kinds.items (drop l.place-index l.places) ≡ noted l.initial.kinds.items l.places
