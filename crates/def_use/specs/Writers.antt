-- The positions that write each location, in rows by the number of the location.
use Rattle.std.specs.Prelude.{◌≡◌, ℕ, ◌+◌, ◌*◌, ◌≤◌, ◌⊎◌, List, [], Vec, Option, Some, None, slice_get}
use Rattle.std.specs.Global.{Global}
use Rattle.std.specs.List.{All, AllPairs, Contains}
use Rattle.wasm_types.specs.declared.place.Loc.{Loc}
use Rattle.wasm_types.specs.declared.place.Loc.TheVariants as loc

abbrev pub loc_number : Loc → ℕ
loc_number loc.Mem = 0
loc_number loc.Size = 1
loc_number loc.Host = 2
loc_number (loc.Local k) = 2 * k + 3
loc_number (loc.Global k) = 2 * k + 4

abbrev pub items_of : Option (Vec ℕ Global) → List ℕ
items_of None = []
items_of (Some row) = row.items

-- a row, empty where there are not so many
abbrev pub row_at : List (Vec ℕ Global) → ℕ → List ℕ
row_at rows n = items_of (slice_get rows n)

abbrev pub writers_of : List (Vec ℕ Global) → Loc → List ℕ
writers_of rows x = row_at rows (loc_number x)

-- where P holds, the position is added at the end
pub record RowAdds (at : ℕ) (P : Type 0) (old new : List ℕ) : Type 0 where
  pub kept : (v : ℕ) → Contains old v → Contains new v
  pub all : P → Contains new at
  pub only : (v : ℕ) → Contains new v → Contains old v ⊎ ((v ≡ at) × P)
  pub rising : AllPairs (λ a b. a ≤ b) old → All (λ v. v ≤ at) old → AllPairs (λ a b. a ≤ b) new × All (λ v. v ≤ at) new
