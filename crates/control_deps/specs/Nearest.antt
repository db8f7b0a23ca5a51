-- The nearest deciders of the nodes of a body, from which all others are found.
use Rattle.std.specs.Prelude.{◌≡◌, ◌⊎◌, ℕ, Bool, List, Option, Some, None, slice_get}
use Rattle.wasm_types.specs.declared.module.Body.{Body}
use Rattle.wasm_types.specs.declared.module.ValType.{ValType}
use Rattle.wasm_types.specs.declared.module.Pos.{Pos}
use Rattle.wasm_types.specs.declared.place.Node.{Node}
use Rattle.wasm_types.specs.declared.place.Node.TheVariants as node
use Rattle.wasm_types.specs.Actions.{Callees}
use Rattle.wasm_types.specs.Code.{Code, code_of}
use Rattle.wasm_types.specs.Marked.{marked}
use Rattle.wasm_types.specs.Nodes.{At, Join}
use Rattle.wasm_types.specs.Shadow.{InShadow}
use Rattle.wasm_types.specs.Sites.{IfHead, IsSite, Site, Sites, body_sites}
use Rattle.control_deps.specs.declared.spot.Spot.{Spot}
use Rattle.control_deps.specs.declared.deciders.Nearest.{Nearest}
use Rattle.control_deps.specs.declared.deciders.Row.{Row}
use Rattle.control_deps.specs.Leaving.{exit_of}
use Rattle.control_deps.specs.Nest.{IsAround, IsNestOf}

-- where one goes on from a node: to its nearest deciders, from a position to what is directly around it, and from a join to what it is the end of
pub data Onward (c : Code) (near : Node → Nearest) : Node → Node → Type 0 where
  earlier : {n : Node} (p : Pos) → (near n).earlier ≡ Some p → Onward c near n (At p.0)
  latest : {n : Node} (p : Pos) → (near n).latest ≡ Some p → Onward c near n (At p.0)
  around : {q : ℕ} (b : Pos) → IsAround c q (Some b) → Onward c near (At q) (At b.0)
  own_join : {b : ℕ} → Onward c near (Join b) (At b)

-- what is found from a node so
pub data Finds (c : Code) (near : Node → Nearest) (n : Node) : Node → Type 0 where
  itself : Finds c near n n
  onward : {k : Node} (m : Node) → Finds c near n m → Onward c near m k → Finds c near n k

-- p is a nearest decider
abbrev pub IsNearest : Nearest → ℕ → Type 0
IsNearest near p = (near.earlier ≡ Some (record { 0 = p })) ⊎ (near.latest ≡ Some (record { 0 = p }))

-- a live if stands at p
abbrev pub IsIf : Sites → ℕ → Type 0
IsIf S p = (kind : Option ValType) × ((s : Site) × (IsSite S p s × (s.head ≡ IfHead kind)))

-- The last step of a search from n that finds p as what decides about n: to a nearest decider, or on from what an if holds, or is the end of.
pub record FoundFrom (S : Sites) (c : Code) (near : Node → Nearest) (n : Node) (p : ℕ) : Type 0 where
  pub last : Node
  pub finds : Finds c near n last
  pub step : IsNearest (near last) p ⊎ (Onward c near last (At p) × IsIf S p)

-- Each nearest decider has the node in its shadow, and whatever has the node in its shadow is found from the node, in a step at least: a branch back to a loop
-- around it has itself in its shadow.
pub record AreNearestAt (S : Sites) (c : Code) (near : Node → Nearest) : Type 0 where
  pub earlier : (n : Node) (p : Pos) → (near n).earlier ≡ Some p → InShadow S p.0 n
  pub latest : (n : Node) (p : Pos) → (near n).latest ≡ Some p → InShadow S p.0 n
  pub all : (p : ℕ) (n : Node) → InShadow S p n → Finds c near n (At p)
  pub found : (p : ℕ) (n : Node) → InShadow S p n → FoundFrom S c near n p

-- a row for each position, and for the body, and each block, loop or if, the last branch that leaves it
pub record Table : Type 0 where
  pub rows : List Row
  pub exits : List (Option Pos)

abbrev pub latest_in : List (Option Pos) → Option Pos → Option Pos
latest_in exits None = None
latest_in exits (Some loop) = exit_of exits (Some loop)

abbrev pub nearest_of_row : List (Option Pos) → Option Row → Nearest
nearest_of_row exits None = record { earlier = None; latest = None }
nearest_of_row exits (Some row) = record { earlier = row.earlier; latest = latest_in exits row.inside }

-- what a table tells of a node
abbrev pub nearest_in : Table → Node → Nearest
nearest_in table (node.At p) = nearest_of_row table.exits (slice_get table.rows p.0)
nearest_in table (node.Join b) = record { earlier = None; latest = exit_of table.exits (Some b) }
nearest_in table node.Exit = record { earlier = None; latest = exit_of table.exits None }

-- The table tells the nearest deciders, of each body that this is the nesting of, whatever the functions called are, however many results the body has, and
-- whatever is watched.
abbrev pub AreNearest : List Spot → Table → Type 0
AreNearest nest table =
    (body : Body) → IsNestOf body nest → (cs : Callees) (t : ℕ) (w : ℕ → Bool) → AreNearestAt (body_sites cs t (marked w 0 (code_of body.code)))
    (code_of body.code) (nearest_in table)
