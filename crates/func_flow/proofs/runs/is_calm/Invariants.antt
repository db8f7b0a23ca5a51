use Rattle.std.proofs.Common.{◌≡◌, ◌<◌, ℕ, None, slice_get}
use Rattle.func_flow.specs.Steps.{whom_of}
use Rattle.func_flow.proofs.runs.is_calm.Given as goal

abbrev pub invariant-loop-step : goal.invariant-loop-step
invariant-loop-step l = (p : ℕ) → p < l.step-index → whom_of (slice_get l.steps p) ≡ None
