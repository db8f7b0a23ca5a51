-- When a source or a sink may answer that it failed.
use Rattle.std.specs.Prelude.{ℕ, ◌+◌, ◌-◌, ◌^◌, ◌≤◌, ◌≡◌, min, OnErr, Result, Ok, Err}

-- one more, or the greatest number of 64 bits
abbrev pub next_count : ℕ → ℕ
next_count n = min (n + 1) (2 ^ 64 - 1)

-- A count of faults rose: it is greater than it was, or it stands at the greatest number that it can show.
abbrev pub Rose : ℕ → ℕ → Type 0
Rose before now = next_count before ≤ now

-- The count of faults doesn't fall, and it rose where the call failed.
pub record HasCause {T E : Type 0} (before now : ℕ) (result : Result T E) : Type 0 where
  pub later : before ≤ now
  pub failed : OnErr result (Rose before now)

-- The count goes up by one where the call failed, and stays where it didn't.
abbrev pub CountsFailure : {T E : Type 0} → ℕ → ℕ → Result T E → Type 0
CountsFailure before now (Ok _) = now ≡ before
CountsFailure before now (Err _) = now ≡ next_count before
