-- Which branches leave a block, loop or if, or the body, or go to its label; and the last of them.
use Rattle.std.specs.Prelude.{◌≡◌, ℕ, suc, ◌+◌, ◌≤◌, ◌<◌, ◌⊎◌, Bool, true, false, List, length, Option, Some, None, IfSome, slice_get, slice_index_or}
use Rattle.std.specs.Prelude.{if◌then◌else◌}
use Rattle.wasm_types.specs.declared.module.Pos.{Pos}
use Rattle.control_deps.specs.declared.spot.Form.TheVariants as form
use Rattle.control_deps.specs.declared.spot.Spot.{Spot}
use Rattle.control_deps.specs.declared.deciders.Row.{Row}
use Rattle.control_deps.specs.Chain.{is_loop}

-- the number of the body, and of the block, loop or if at a position
abbrev pub number : Option Pos → ℕ
number None = 0
number (Some b) = b.0 + 1

-- of these blocks, loops and ifs, and the body, from the first one outwards, one up to the label is this one
pub data Passes (nest : List Spot) : Option Pos → ℕ → Option Pos → Type 0 where
  here : {first : Option Pos} {label : ℕ} → Passes nest first label first
  outward : {one : Option Pos} {label : ℕ} (b : Pos) (spot : Spot) → slice_get nest b.0 ≡ Some spot → Passes nest spot.around label one
      → Passes nest (Some b) (suc label) one

-- a live branch leaves the block, loop or if, or the body, or goes to its label
pub record Leaves (nest : List Spot) (one : Option Pos) (p : ℕ) : Type 0 where
  pub spot : Spot
  pub label : ℕ
  pub at : slice_get nest p ≡ Some spot
  pub live : spot.live ≡ true
  pub branches : spot.form ≡ form.Branch label
  pub passes : Passes nest spot.around label one

-- the last below k that has the property, or none where none has
abbrev pub IsLast : (ℕ → Type 0) → ℕ → Option Pos → Type 0
IsLast P k None = (p : ℕ) → p < k → P p → ⊥
IsLast P k (Some last) = (last.0 < k) × (P last.0 × ((p : ℕ) → p < k → P p → p ≤ last.0))

-- a table by number
abbrev pub exit_of : List (Option Pos) → Option Pos → Option Pos
exit_of exits one = slice_index_or exits (number one) None

-- for the body, and each block, loop or if, the last branch below k that leaves it
pub record AreExits (nest : List Spot) (k : ℕ) (exits : List (Option Pos)) : Type 0 where
  pub long : length exits ≡ length nest + 1
  pub is : (one : Option Pos) → IfSome one (λ b. b.0 < length nest) → IsLast (Leaves nest one) k (exit_of exits one)

-- a branch is written down for all that it leaves, and nothing else changes
pub record Marks (nest : List Spot) (first : Option Pos) (label : ℕ) (branch : Pos) (old new : List (Option Pos)) : Type 0 where
  pub long : length new ≡ length old
  pub all : (one : Option Pos) → Passes nest first label one → exit_of new one ≡ Some branch
  pub only : (k : ℕ) → (slice_index_or new k None ≡ slice_index_or old k None) ⊎ ((one : Option Pos) × (Passes nest first label one × (number one ≡ k)))

-- so it is where a live branch is at the position
pub record Sees (nest : List Spot) (at : Pos) (spot : Spot) (old new : List (Option Pos)) : Type 0 where
  pub marks : (label : ℕ) → spot.live ≡ true → spot.form ≡ form.Branch label → Marks nest spot.around label at old new
  pub same : ((label : ℕ) → spot.live ≡ true → spot.form ≡ form.Branch label → ⊥) → new ≡ old

abbrev pub loops_at : Option Spot → Bool
loops_at None = false
loops_at (Some spot) = is_loop spot.form

-- what is directly around, where it is a loop
abbrev pub loop_around : List Spot → Option Pos → Option Pos
loop_around nest None = None
loop_around nest (Some b) = if loops_at (slice_get nest b.0) then Some b else None

-- what is kept of a position: the last branch before it that leaves what is directly around it, and that where it is a loop; nothing of a dead one
abbrev pub row_of : List Spot → List (Option Pos) → Spot → Row
row_of nest exits spot =
    if spot.live then record { earlier = exit_of exits spot.around; inside = loop_around nest spot.around } else record { earlier = None; inside = None }

-- the positions below k have their rows
pub record AreRows (nest : List Spot) (k : ℕ) (rows : List Row) : Type 0 where
  pub long : length rows ≡ k
  pub is : (p : ℕ) (spot : Spot) → p < k → slice_get nest p ≡ Some spot
      → (exits : List (Option Pos)) × (AreExits nest p exits × (slice_get rows p ≡ Some (row_of nest exits spot)))
