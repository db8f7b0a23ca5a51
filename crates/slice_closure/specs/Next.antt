-- Where a search for a kept set goes on (docs/ANALYSES.md, "The kept set"): each rule of the kept set leads from what is kept to what it keeps, and a location
-- that is needed at a point is needed at the points before, back to what writes it.
use Rattle.std.specs.Prelude.{◌≡◌, ℕ, ◌+◌, ◌*◌, ◌≤◌, ◌⊎◌, ◌<◌, List, Option, Some, None, length, slice_get}
use Rattle.std.specs.List.{All, Contains}
use Rattle.wasm_types.specs.declared.module.Pos.{Pos}
use Rattle.wasm_types.specs.declared.place.Loc.{Loc}
use Rattle.wasm_types.specs.declared.place.Loc.TheVariants.{Mem, Size}
use Rattle.wasm_types.specs.declared.place.Node.{Node}
use Rattle.wasm_types.specs.declared.place.Node.TheVariants as node
use Rattle.wasm_types.specs.Code.{code_of}
use Rattle.wasm_types.specs.Nodes.{At}
use Rattle.wasm_types.specs.Reaching.{Writes}
use Rattle.block_cfg.specs.Graph.{number}
use Rattle.stack_names.specs.declared.place.Place.{Place}
use Rattle.stack_names.specs.Named.{operands_in, of_node}
use Rattle.control_deps.specs.Nest.{IsAround, IsNestOf}
use Rattle.control_deps.specs.Nearest.{nearest_in}
use Rattle.flow_domain.specs.Rows.{Output, Ret, Final, Done}
use Rattle.called_rows.specs.declared.instrs.Whom.{Whom}
use Rattle.called_rows.specs.Called.{globals_in, RowIn, TakesIn, WritesBy}
use Rattle.called_rows.specs.Locs.{loc_number as outer_number, IsLoc}
use Rattle.slice_closure.specs.declared.spot.Came.TheVariants.{After}
use Rattle.slice_closure.specs.declared.spot.Spot.{Spot}
use Rattle.slice_closure.specs.declared.spot.Touch.{Touch}
use Rattle.slice_closure.specs.declared.spot.Touch.TheVariants as touch
use Rattle.slice_closure.specs.declared.tables.Tables.{Tables}
use Rattle.slice_closure.specs.Flow.{AsksBelow, written_by, whom_in_touch, touch_at, taken_is, came_to, ways_to}
use Rattle.slice_closure.specs.declared.items.Item.{Item}
use Rattle.slice_closure.specs.declared.items.Item.TheVariants.{Keeps, Value, Written, Needs}
use Rattle.slice_closure.specs.Takens.{of_taken}

-- one of the elements leads there
abbrev pub FromEach : {A : Type 0} → List A → (A → Item → Type 0) → Item → Type 0
FromEach {A} list Q j = (x : A) × (Contains list x × Q x j)

-- one of the numbers below n leads there
abbrev pub FromBelow : ℕ → (ℕ → Item → Type 0) → Item → Type 0
FromBelow n Q j = (k : ℕ) × ((k < n) × Q k j)

abbrev pub spot_in : Tables → ℕ → Option Spot
spot_in t p = slice_get t.flow.now.spots.items p

-- whom a node calls
abbrev pub whom_in : Tables → Node → Option Whom
whom_in t (node.At p) = whom_in_touch (touch_at (spot_in t p.0))
whom_in t _ = None

-- that the value of a node is needed: of one that calls nothing, that it is kept
abbrev pub value_by : Option Whom → Node → Item
value_by None n = Keeps n
value_by (Some w) n = Value n

abbrev pub value_item : Tables → Node → Item
value_item t n = value_by (whom_in t n) n

abbrev pub Maker : Tables → Place → Item → Type 0
Maker t place j = j ≡ value_item t place.maker

-- ---- from what is needed of a call: what the row of whom it calls has

abbrev pub operands_at : Tables → ℕ → List Place
operands_at t p = operands_in t.names.now.positions p

-- operand k, the deepest being 0
abbrev pub ArgumentAt : Tables → List Place → Output → Whom → ℕ → Item → Type 0
ArgumentAt t places o w k j = TakesIn t.called w o (length places) k × ((place : Place) × ((slice_get places k ≡ Some place) × Maker t place j))

-- the location of number i, which is no local
abbrev pub InputAt : Tables → ℕ → Output → Whom → ℕ → Item → Type 0
InputAt t p o w i j = (x : Loc) × (IsLoc (globals_in t.called) 0 x × ((outer_number (globals_in t.called) x ≡ i) × (RowIn t.called w o x × (j ≡ Needs x (At p)))))

abbrev pub ByRow : Tables → ℕ → Output → Whom → Item → Type 0
ByRow t p o w j = FromBelow (length (operands_at t p)) (ArgumentAt t (operands_at t p) o w) j ⊎ FromBelow (globals_in t.called + 3) (InputAt t p o w) j

-- of an output of a node that is no completion
abbrev pub ForOutput : Tables → Output → Node → Option Whom → Item → Type 0
ForOutput t o (node.At p) (Some w) j = ByRow t p.0 o w j
ForOutput t o _ _ j = ⊥

-- ---- from a kept node

-- the operands that the instruction at a position takes
abbrev pub taken_places : Tables → ℕ → List Place
taken_places t p = of_taken (taken_is (spot_in t p)) (operands_at t p)

-- the locations that position p reads or checks, by what it touches
abbrev pub Asks : Touch → ℕ → Item → Type 0
Asks touch.Nothing p j = ⊥
Asks (touch.Reads x) p j = j ≡ Needs x (At p)
Asks (touch.Writes x) p j = ⊥
Asks (touch.Changes x) p j = j ≡ Needs x (At p)
Asks touch.Loads p j = (j ≡ Needs Mem (At p)) ⊎ (j ≡ Needs Size (At p))
Asks touch.Stores p j = (j ≡ Needs Mem (At p)) ⊎ (j ≡ Needs Size (At p))
Asks (touch.Calls w) p j = ⊥

-- what is directly around a position, by the nesting of the body
abbrev pub IsHolder : Tables → ℕ → Pos → Type 0
IsHolder t p b = IsNestOf t.body.now t.nest.now → IsAround (code_of t.body.now.code) p (Some b)

abbrev pub Holder : Tables → ℕ → Item → Type 0
Holder t p j = (b : Pos) × (IsHolder t p b × (j ≡ Keeps (At b.0)))

abbrev pub Joins : Tables → Node → Item → Type 0
Joins t m j = j ≡ value_item t m

-- by what stands at a position: a call needs what the row for its completion has
abbrev pub Uses : Tables → ℕ → Option Whom → Item → Type 0
Uses t p None j = FromEach (taken_places t p) (Maker t) j ⊎ Asks (touch_at (spot_in t p)) p j
Uses t p (Some w) j = ByRow t p Done w j

abbrev pub NextAt : Tables → Node → Item → Type 0
NextAt t (node.At p) j = Uses t p.0 (whom_in t (node.At p)) j ⊎ Holder t p.0 j
NextAt t (node.Join b) j = j ≡ Keeps (At b.0)
NextAt t node.Exit j = ⊥

-- a decider
abbrev pub Decider : Option Pos → Item → Type 0
Decider decider j = (p : Pos) × ((decider ≡ Some p) × (j ≡ Keeps (At p.0)))

-- the nearest deciders of a node
abbrev pub NextDecider : Tables → Node → Item → Type 0
NextDecider t n j = let near = nearest_in t.deciders.now n in Decider near.earlier j ⊎ Decider near.latest j

-- ---- from a location that is needed at a point

-- what positions write
abbrev pub WritesAs : Tables → ℕ → Option Whom → Loc → Type 0
WritesAs t p None x = written_by (touch_at (spot_in t p)) ≡ Some x
WritesAs t p (Some w) x = WritesBy t.called w x

abbrev pub Touched : Tables → ℕ → Loc → Type 0
Touched t p x = WritesAs t p (whom_in t (At p)) x

-- that what a node writes to a location is needed: of one that calls nothing, that it is kept
abbrev pub written_by_item : Option Whom → Loc → Node → Item
written_by_item None x n = Keeps n
written_by_item (Some w) x n = Written x n

abbrev pub written_item : Tables → Loc → Node → Item
written_item t x n = written_by_item (whom_in t n) x n

-- on to a point before it: to what that writes, and else to the location there
abbrev pub Passes : Tables → Loc → Node → Item → Type 0
Passes t x b j = (Writes (Touched t) x b × (j ≡ written_item t x b)) ⊎ ((Writes (Touched t) x b → ⊥) × (j ≡ Needs x b))

-- point b leads to point a: as the walk came there, or by a branch or an end
abbrev pub Arrives : Tables → Node → Node → Type 0
Arrives t a b = came_to t.flow.now.spots.items a ≡ After b

abbrev pub IsBefore : Tables → Node → Node → Type 0
IsBefore t a b = Arrives t a b ⊎ Contains (ways_to t.flow.now.before.items a) b

-- ---- from an item

-- where the search begins: the value of the watched position, and the makers of all its operands
abbrev pub First : Tables → Pos → Item → Type 0
First t at j = (j ≡ value_item t (At at.0)) ⊎ FromEach (operands_at t at.0) (Maker t) j

abbrev pub Next : Tables → Item → Item → Type 0
Next t (Keeps n) j = NextAt t n j ⊎ (FromEach (of_node t.names.now.joined n) (Joins t) j ⊎ NextDecider t n j)
Next t (Value n) j = (j ≡ Keeps n) ⊎ ForOutput t Ret n (whom_in t n) j
Next t (Written x n) j = (j ≡ Keeps n) ⊎ ForOutput t (Final x) n (whom_in t n) j
Next t (Needs x a) j = (b : Node) × (IsBefore t a b × Passes t x b j)

-- nodes in the tables have numbers below N, and locations below L
pub record Fits (N L : ℕ) (t : Tables) : Type 0 where
  pub operands : (p : ℕ) → All (λ (place : Place). number place.maker < N) (operands_in t.names.now.positions p)
  pub joined : (n : Node) → All (λ (m : Node). number m < N) (of_node t.names.now.joined n)
  pub before : (n m : Node) → IsBefore t n m → number m < N
  pub uses : (p : ℕ) → AsksBelow L (touch_at (spot_in t p))
  pub inputs : 2 * globals_in t.called + 3 ≤ L
  pub earlier : (n : Node) (p : Pos) → (nearest_in t.deciders.now n).earlier ≡ Some p → number (At p.0) < N
  pub latest : (n : Node) (p : Pos) → (nearest_in t.deciders.now n).latest ≡ Some p → number (At p.0) < N
  pub nested : ∥ IsNestOf t.body.now t.nest.now ∥₁
