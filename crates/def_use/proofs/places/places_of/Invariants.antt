use Rattle.std.proofs.Common.{◌≡◌, ℕ, ◌<◌, length}
use Rattle.def_use.specs.Places.{point_at, place_of}
use Rattle.def_use.proofs.places.places_of.Given as goal

abbrev pub invariant-loop-place : goal.invariant-loop-place
invariant-loop-place l = record {
  length_is : length l.places.items ≡ length l.cfg.before;
  placed : (k : ℕ) → k < l.place → place_of l.places.items (point_at l.cfg.points k) ≡ k;
}
