-- Where a search of a body goes on (docs/ANALYSES.md, "Rows"): each rule of what an output leads to leads from what is met to what it depends on, and a
-- location that is needed at a point is needed at the points before, back to what writes it.
use Rattle.std.specs.Prelude.{◌≡◌, ◌≤◌, ℕ, ◌+◌, ◌⊎◌, ◌||◌, ◌<◌, List, reverse, Bool, true, false, Option, Some, None, length, slice_get}
use Rattle.std.specs.Prelude.{slice_index_or}
use Rattle.std.specs.List.{All, Contains}
use Rattle.wasm_types.specs.declared.module.Pos.{Pos}
use Rattle.wasm_types.specs.declared.place.Loc.{Loc}
use Rattle.wasm_types.specs.declared.place.Node.{Node}
use Rattle.wasm_types.specs.declared.place.Node.TheVariants as node
use Rattle.wasm_types.specs.Code.{code_of}
use Rattle.wasm_types.specs.Nodes.{At}
use Rattle.wasm_types.specs.Reaching.{Writes}
use Rattle.wasm_types.specs.Takers.{is_among}
use Rattle.block_cfg.specs.Graph.{number, row_of}
use Rattle.stack_names.specs.declared.place.Place.{Place}
use Rattle.stack_names.specs.Named.{operands_in, of_node}
use Rattle.control_deps.specs.Nest.{IsAround, IsNestOf}
use Rattle.control_deps.specs.Nearest.{nearest_in}
use Rattle.flow_domain.specs.declared.loc_table.LocUse.{LocUse}
use Rattle.flow_domain.specs.LocTables.{row_in, WritesIn}
use Rattle.flow_domain.specs.Rows.{Output, Ret, Final, Done}
use Rattle.called_rows.specs.Called.{ChecksBy, RowIn, TakesIn, WritesBy}
use Rattle.func_flow.specs.declared.items.Item.{Item}
use Rattle.func_flow.specs.declared.items.Item.TheVariants.{Value, Completion, Decider, Decided, Written, Needed}
use Rattle.func_flow.specs.declared.steps.Picks.{Picks}
use Rattle.func_flow.specs.declared.steps.Step.{Step}
use Rattle.called_rows.specs.declared.instrs.Whom.{Whom}
use Rattle.func_flow.specs.declared.tables.Tables.{Tables}
use Rattle.func_flow.specs.Items.{loc_number, IsLoc}
use Rattle.func_flow.specs.Steps.{IsPicked, whom_of, makes_of, traps_of, decides_of, stops_of, arms_of}

-- one of the elements leads there
abbrev pub FromEach : {A : Type 0} → List A → (A → Item → Type 0) → Item → Type 0
FromEach {A} list Q j = (x : A) × (Contains list x × Q x j)

-- one of the numbers below n leads there
abbrev pub FromBelow : ℕ → (ℕ → Item → Type 0) → Item → Type 0
FromBelow n Q j = (k : ℕ) × ((k < n) × Q k j)

-- whom a position calls
abbrev pub whom_at : Tables → ℕ → Option Whom
whom_at t p = whom_of (slice_get t.steps.now p)

abbrev pub WritesAs : Tables → ℕ → Option Whom → Loc → Type 0
WritesAs t p None x = WritesIn t.locs.now p x
WritesAs t p (Some w) x = WritesBy t.called w x

-- what a position writes
abbrev pub WrittenAt : Tables → ℕ → Loc → Type 0
WrittenAt t p x = WritesAs t p (whom_at t p) x

-- ---- from what a node makes

abbrev pub operands_at : Tables → ℕ → List Place
operands_at t p = operands_in t.names.now.positions p

-- operand k, counted from the top, where it is picked
abbrev pub PickedAt : List Place → Picks → ℕ → Item → Type 0
PickedAt places picks k j = IsPicked picks k × ((place : Place) × ((slice_get (reverse places) k ≡ Some place) × (j ≡ Value place.maker)))

abbrev pub Picked : List Place → Picks → Item → Type 0
Picked places picks j = FromBelow (length places) (PickedAt places picks) j

-- the operands that an output of a position depends on where it calls nothing
abbrev pub picks_for : Output → Option Step → Picks
picks_for Done step = traps_of step
picks_for _ step = makes_of step

-- an output of a position depends on a location so
abbrev pub uses_for : Output → LocUse → Bool
uses_for Done u = u.checks
uses_for _ u = u.reads

abbrev pub Use : ℕ → Output → LocUse → Item → Type 0
Use p o u j = (uses_for o u ≡ true) × (j ≡ Needed u.loc (At p))

-- operand k of a call, the deepest being 0
abbrev pub ArgumentAt : Tables → List Place → Output → Whom → ℕ → Item → Type 0
ArgumentAt t places o w k j =
    TakesIn t.called w o (length places) k × ((place : Place) × ((slice_get places k ≡ Some place) × (j ≡ Value place.maker)))

-- the location of number i, at a call
abbrev pub PlaceAt : Tables → ℕ → Output → Whom → ℕ → Item → Type 0
PlaceAt t p o w i j =
    (x : Loc) × (IsLoc t.numbering.globals t.numbering.locals x × ((loc_number t.numbering.globals x ≡ i)
    × ((RowIn t.called w o x ⊎ ChecksBy t.called w o x) × (j ≡ Needed x (At p)))))

-- by what stands at a position, and whom that calls
abbrev pub ByStep : Tables → ℕ → Output → Option Step → Option Whom → Item → Type 0
ByStep t p o st None j = Picked (operands_at t p) (picks_for o st) j ⊎ FromEach (row_in (slice_get t.locs.now p)) (Use p o) j
ByStep t p o st (Some w) j =
    FromBelow (length (operands_at t p)) (ArgumentAt t (operands_at t p) o w) j ⊎ FromBelow (t.numbering.globals + 3) (PlaceAt t p o w) j

abbrev pub AtNode : Tables → Output → Node → Item → Type 0
AtNode t o (node.At p) j = ByStep t p.0 o (slice_get t.steps.now p.0) (whom_at t p.0) j
AtNode t o _ j = ⊥

abbrev pub Makes : Tables → Output → Node → Item → Type 0
Makes t o n j = AtNode t o n j ⊎ (j ≡ Decided n)

abbrev pub Joins : Node → Item → Type 0
Joins m j = j ≡ Value m

-- ---- from what decides

abbrev pub Condition : Tables → Node → Item → Type 0
Condition t (node.At p) j = Picked (operands_at t p.0) (decides_of (slice_get t.steps.now p.0)) j
Condition t _ j = ⊥

-- what is directly around a position, by the nesting of the body
abbrev pub IsHolder : Tables → ℕ → Pos → Type 0
IsHolder t p b = IsNestOf t.body.now t.nest.now → IsAround (code_of t.body.now.code) p (Some b)

-- an if decides about what it holds
abbrev pub holder_item : Bool → Node → Item
holder_item true n = Decider n
holder_item false n = Decided n

abbrev pub holder_at : Tables → Pos → Item
holder_at t b = holder_item (arms_of (slice_get t.steps.now b.0)) (At b.0)

abbrev pub Outward : Tables → Node → Item → Type 0
Outward t (node.At p) j = (b : Pos) × (IsHolder t p.0 b × (j ≡ holder_at t b))
Outward t (node.Join b) j = j ≡ holder_at t b
Outward t node.Exit j = ⊥

abbrev pub DeciderOf : Option Pos → Item → Type 0
DeciderOf decider j = (p : Pos) × ((decider ≡ Some p) × (j ≡ Decider (At p.0)))

abbrev pub NextDecided : Tables → Node → Item → Type 0
NextDecided t n j = let near = nearest_in t.deciders.now n in DeciderOf near.earlier j ⊎ (DeciderOf near.latest j ⊎ Outward t n j)

-- ---- from a location that is needed at a point

-- on to a point before it: to what that writes there, and else to the location there
abbrev pub Passes : Tables → Loc → Node → Item → Type 0
Passes t x b j = (Writes (WrittenAt t) x b × (j ≡ Written x b)) ⊎ ((Writes (WrittenAt t) x b → ⊥) × (j ≡ Needed x b))

-- ---- from an item

abbrev pub Next : Tables → Item → Item → Type 0
Next t (Value n) j = Makes t Ret n j ⊎ FromEach (of_node t.names.now.joined n) Joins j
Next t (Completion n) j = Makes t Done n j
Next t (Written x n) j = Makes t (Final x) n j
Next t (Decider n) j = Condition t n j ⊎ (j ≡ Decided n)
Next t (Decided n) j = NextDecided t n j
Next t (Needed x a) j = Contains t.cfg.now.points a × FromEach (row_of t.cfg.now.before a) (Passes t x) j

-- ---- where the search begins

-- a position leads back to itself or to one before it: only a branch to a loop does
abbrev pub LeadsBack : Tables → ℕ → Type 0
LeadsBack t p = (q : Pos) × (Contains (row_of t.cfg.now.next (At p)) (At q.0) × (q.0 ≤ p))

-- where the run may stop, or go round for ever
abbrev pub Stop : Tables → Node → Item → Type 0
Stop t (node.At p) j = ((stops_of (slice_get t.steps.now p.0) ≡ true) × (j ≡ Completion (At p.0))) ⊎ (LeadsBack t p.0 × (j ≡ Decider (At p.0)))
Stop t _ j = ⊥

-- by the number of a row: completion, the results, and a location at the end
abbrev pub FirstFinal : Tables → ℕ → ℕ → Item → Type 0
FirstFinal t label i j =
    (label ≡ i + 2) × ((x : Loc) × (IsLoc t.numbering.globals t.numbering.locals x × ((loc_number t.numbering.globals x ≡ i) × (j ≡ Needed x node.Exit))))

abbrev pub First : Tables → ℕ → Item → Type 0
First t label j =
    ((label ≡ 1) × (j ≡ Value node.Exit)) ⊎ (FromBelow (t.numbering.globals + 3) (FirstFinal t label) j ⊎ ((label ≡ 0) × FromEach t.cfg.now.points (Stop t) j))

-- nodes and locations in the tables are those that have numbers
pub record Fits (t : Tables) : Type 0 where
  pub operands : (p : ℕ) → All (λ (place : Place). number place.maker < t.numbering.nodes) (operands_in t.names.now.positions p)
  pub joined : (n : Node) → All (λ (m : Node). number m < t.numbering.nodes) (of_node t.names.now.joined n)
  pub before : (n : Node) → All (λ (m : Node). number m < t.numbering.nodes) (row_of t.cfg.now.before n)
  pub points : All (λ (m : Node). number m < t.numbering.nodes) t.cfg.now.points
  pub uses : (p : ℕ) → All (λ (u : LocUse). (u.reads || u.checks) ≡ true → IsLoc t.numbering.globals t.numbering.locals u.loc) (row_in (slice_get t.locs.now p))
  pub earlier : (n : Node) (p : Pos) → (nearest_in t.deciders.now n).earlier ≡ Some p → number (At p.0) < t.numbering.nodes
  pub latest : (n : Node) (p : Pos) → (nearest_in t.deciders.now n).latest ≡ Some p → number (At p.0) < t.numbering.nodes
  pub nested : ∥ IsNestOf t.body.now t.nest.now ∥₁

-- by the number of a node, below N, whether it is among the points
pub record AreMarked (points : List Node) (N : ℕ) (marks : List Bool) : Type 0 where
  pub length_is : length marks ≡ N
  pub marked : (n : Node) → number n < N → slice_index_or marks (number n) false ≡ is_among n points
