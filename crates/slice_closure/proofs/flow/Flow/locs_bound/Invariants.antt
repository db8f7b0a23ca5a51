use Rattle.std.proofs.Common.{ℕ, ◌+◌, ◌^◌, ◌<◌, ◌≤◌}
use Rattle.std.specs.Prelude.{slice_get}
use Rattle.slice_closure.specs.Flow.{AsksBelow, touch_at}
use Rattle.slice_closure.proofs.flow.Flow.locs_bound.Given as goal

abbrev pub invariant-loop-spot : goal.invariant-loop-spot
invariant-loop-spot l = record {
  below : (p : ℕ) → p < l.spot-index → AsksBelow l.bound (touch_at (slice_get l.spot-items p));
  small : l.bound ≤ 2 ^ 33 + 3;
}
