-- Regions of a body that are entered through one point (docs/ANALYSES.md, "Entries").
use Rattle.std.specs.Prelude.{◌≡◌, ℕ, ◌<◌, ◌≤◌, ◌⊎◌, Some, slice_get}
use Rattle.std.specs.List.{Contains}
use Rattle.wasm_types.specs.declared.place.Node.{Node}
use Rattle.wasm_types.specs.Nodes.{At}
use Rattle.wasm_types.specs.Sites.{Sites}
use Rattle.block_cfg.specs.Graph.{Graph, number, row_of}
use Rattle.block_cfg.specs.Points.{IsGraphOf}
use Rattle.single_entry.specs.declared.entry.Entry.{Entry}

-- it is the graph of some sites
abbrev pub IsGraph : Graph → Type 0
IsGraph g = (S : Sites) × ((start : Node) × IsGraphOf S start g)

-- the numbers between two
abbrev pub IsIn : ℕ → ℕ → Node → Type 0
IsIn first last n = (first ≤ number n) × (number n ≤ last)

-- A region, of the points whose numbers lie between two: the body doesn't begin there, and what leads there stands there too, but for one point.
pub record IsEntered (g : Graph) (first last : ℕ) (from : Node) : Type 0 where
  pub begins : (n : Node) → slice_get g.points 0 ≡ Some n → IsIn first last n → ⊥
  pub through : (n a : Node) → IsIn first last n → Contains (row_of g.before n) a → IsIn first last a ⊎ (a ≡ from)

-- a way from that point to another, inside the region
pub data Inner (g : Graph) (first last : ℕ) (from : Node) : Node → Type 0 where
  enters : {n : Node} → IsIn first last n → Contains (row_of g.before n) from → Inner g first last from n
  goes : {n : Node} → (m : Node) → Inner g first last from m → IsIn first last n → Contains (row_of g.before n) m → Inner g first last from n

-- An entry of point n: n stands in a region that is entered through one point, from which a way leads to n, and all positions of the region, and that
-- point where it is one, lie between `low` and `high`.
pub record IsEntry (g : Graph) (n : Node) (e : Entry) : Type 0 where
  pub from : Node
  pub first : ℕ
  pub last : ℕ
  pub is : number from ≡ e.through
  pub falls : e.through < number n
  pub stands : IsIn first last n
  pub entered : IsEntered g first last from
  pub inner : Inner g first last from n
  pub covers : (p : ℕ) → IsIn first last (At p) → (e.low ≤ p) × (p ≤ e.high)
  pub covers_from : (p : ℕ) → from ≡ At p → (e.low ≤ p) × (p ≤ e.high)
