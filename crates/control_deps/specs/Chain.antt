-- The labels around a position, by what is kept of the positions, and what a branch to one of them decides about.
use Rattle.std.specs.Prelude.{◌≡◌, ℕ, zero, suc, ◌+◌, ◌≤◌, ◌<◌, ◌⊎◌, ◌&&◌, Bool, true, false, List, [], ◌∷◌, length, Option, Some, None, slice_get}
use Rattle.wasm_types.specs.declared.module.Pos.{Pos}
use Rattle.wasm_types.specs.declared.place.Node.{Node}
use Rattle.wasm_types.specs.declared.place.Node.TheVariants as node
use Rattle.wasm_types.specs.Nodes.{Join}
use Rattle.wasm_types.specs.Labels.{Label}
use Rattle.control_deps.specs.declared.spot.Form.{Form}
use Rattle.control_deps.specs.declared.spot.Form.TheVariants as form
use Rattle.control_deps.specs.declared.spot.Spot.{Spot}

-- a block, loop or if
abbrev pub holds : Form → Bool
holds form.Block = true
holds form.Loop = true
holds form.If = true
holds _ = false

abbrev pub is_loop : Form → Bool
is_loop form.Loop = true
is_loop _ = false

abbrev pub live_at : Option Spot → Bool
live_at None = false
live_at (Some spot) = spot.live

abbrev pub joins_at : Option Spot → Bool
joins_at None = false
joins_at (Some spot) = holds spot.form && spot.live

-- a node at a position from a on that is below b
abbrev pub StandsWithin : List Spot → ℕ → ℕ → Node → Type 0
StandsWithin nest a b (node.At p) = (live_at (slice_get nest p.0) ≡ true) × ((a ≤ p.0) × (p.0 < b))
StandsWithin nest a b (node.Join p) = (joins_at (slice_get nest p.0) ≡ true) × ((a ≤ p.0) × (p.0 < b))
StandsWithin nest a b node.Exit = ⊥

-- a label is that of the block, loop or if at b
pub record IsLabelAt (b : ℕ) (spot : Spot) (L : Label) : Type 0 where
  pub loop : L.loop ≡ is_loop spot.form
  pub start : L.start ≡ b + 1
  pub stop : L.stop ≡ spot.stop
  pub join : L.join ≡ Join b

-- a label is that of the body
pub record IsOutermost (nest : List Spot) (L : Label) : Type 0 where
  pub loop : L.loop ≡ false
  pub stop : L.stop ≡ length nest
  pub join : L.join ≡ node.Exit

-- the labels are those of what is around, from the innermost to the body
abbrev pub IsChain : List Spot → Option Pos → List Label → Type 0
IsChain nest around [] = ⊥
IsChain nest None (L ∷ []) = IsOutermost nest L
IsChain nest None (L ∷ M ∷ ctx) = ⊥
IsChain nest (Some b) (L ∷ ctx) = (spot : Spot) × ((slice_get nest b.0 ≡ Some spot) × (IsLabelAt b.0 spot L × IsChain nest spot.around ctx))

-- a node is the join of a label, or is inside it where it is a loop's
abbrev pub IsOfLabel : List Spot → Label → Node → Type 0
IsOfLabel nest L n = (L.join ≡ n) ⊎ ((L.loop ≡ true) × StandsWithin nest L.start L.stop n)

-- A branch with what stands behind it from `after` on decides about a node, where its outermost target is this label.
abbrev pub Decides : List Spot → ℕ → List Label → ℕ → Node → Type 0
Decides nest after [] l n = ⊥
Decides nest after (L ∷ ctx) zero n = IsOfLabel nest L n ⊎ StandsWithin nest after L.stop n
Decides nest after (L ∷ ctx) (suc l) n = IsOfLabel nest L n ⊎ Decides nest after ctx l n
