-- The last of numbers between two bounds.
use Rattle.std.specs.Prelude.{ℕ, ◌<◌, ◌≤◌, List}
use Rattle.std.specs.List.{Contains}

-- w is the last of those that are below end, and it isn't below begin
pub record IsLastOf (numbers : List ℕ) (begin end w : ℕ) : Type 0 where
  pub there : Contains numbers w
  pub from : begin ≤ w
  pub before : w < end
  pub last : (v : ℕ) → Contains numbers v → v < end → v ≤ w

abbrev pub HasNoneOf : List ℕ → ℕ → ℕ → Type 0
HasNoneOf numbers begin end = (v : ℕ) → Contains numbers v → begin ≤ v → v < end → ⊥
