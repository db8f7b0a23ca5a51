-- What one walk over a body finds: what each position touches and takes, and what leads to each point (docs/ANALYSES.md, "Locations", "Points").
use Rattle.std.specs.Prelude.{◌≡◌, ◌↔◌, ℕ, ◌+◌, ◌<◌, List, [], ◌∷◌, ◌++◌, Vec, Option, Some, None, length, map, slice_get, if◌then◌else◌}
use Rattle.std.specs.Global.{Global}
use Rattle.std.specs.List.{All, Contains}
use Rattle.wasm_types.specs.declared.instr.Instr.{Instr}
use Rattle.wasm_types.specs.declared.instr.Instr as instr
use Rattle.wasm_types.specs.declared.place.Loc.{Loc}
use Rattle.wasm_types.specs.declared.place.Loc.TheVariants as loc
use Rattle.wasm_types.specs.declared.place.Node.{Node}
use Rattle.wasm_types.specs.declared.place.Node.TheVariants as node
use Rattle.wasm_types.specs.declared.place.Node.TheVariants.{Exit}
use Rattle.wasm_types.specs.Actions.{Action, Get, Set, Tee, GetGlobal, SetGlobal, Read, Write, Pages, Grow, Copy, Fill, Form, Plain, CallOf, CallBy, form_of}
use Rattle.wasm_types.specs.Code.{Code, done, one, block, repeat, branch, count}
use Rattle.wasm_types.specs.Nodes.{At, Join}
use Rattle.wasm_types.specs.Sites.{Head, DoHead}
use Rattle.block_cfg.specs.Graph.{number}
use Rattle.block_cfg.specs.Walk.{goes_on, target_of}
use Rattle.flow_domain.specs.declared.loc_table.LocUse.{LocUse}
use Rattle.flow_domain.specs.LocRows.{reading, checking, writing, changing}
use Rattle.called_rows.specs.declared.instrs.Whom.{Whom}
use Rattle.called_rows.specs.declared.instrs.Whom.TheVariants.{Own, Through}
use Rattle.slice_closure.specs.declared.spot.Touch.{Touch}
use Rattle.slice_closure.specs.declared.spot.Touch.TheVariants as touch
use Rattle.slice_closure.specs.declared.spot.Taken.{Taken}
use Rattle.slice_closure.specs.declared.spot.Taken.TheVariants as taken
use Rattle.slice_closure.specs.declared.spot.Came.{Came}
use Rattle.slice_closure.specs.declared.spot.Came.TheVariants.{Never, First, After}
use Rattle.slice_closure.specs.declared.spot.Spot.{Spot}
use Rattle.slice_closure.specs.declared.walk.Trail.{Trail}
use Rattle.slice_closure.specs.Items.{loc_number}
use Rattle.slice_closure.specs.Takens.{taken_by, taken_at}

-- ---- locations

-- what an instruction touches so
abbrev pub uses_in : Touch → List LocUse
uses_in touch.Nothing = []
uses_in (touch.Reads x) = reading x ∷ []
uses_in (touch.Writes x) = writing x ∷ []
uses_in (touch.Changes x) = changing x ∷ []
uses_in touch.Loads = reading loc.Mem ∷ checking loc.Size ∷ []
uses_in touch.Stores = changing loc.Mem ∷ checking loc.Size ∷ []
uses_in (touch.Calls w) = []

-- the locations that it reads or checks, and that their numbers are below a bound
abbrev pub asked_in : Touch → List Loc
asked_in (touch.Reads x) = x ∷ []
asked_in (touch.Changes x) = x ∷ []
asked_in touch.Loads = loc.Mem ∷ loc.Size ∷ []
asked_in touch.Stores = loc.Mem ∷ loc.Size ∷ []
asked_in _ = []

abbrev pub AsksBelow : ℕ → Touch → Type 0
AsksBelow bound t = All (λ x. loc_number x < bound) (asked_in t)

abbrev pub written_by : Touch → Option Loc
written_by (touch.Writes x) = Some x
written_by (touch.Changes x) = Some x
written_by touch.Stores = Some loc.Mem
written_by _ = None

abbrev pub touch_in : Action → Touch
touch_in (Get k) = touch.Reads (loc.Local k)
touch_in (Set k) = touch.Writes (loc.Local k)
touch_in (Tee k) = touch.Writes (loc.Local k)
touch_in (GetGlobal k) = touch.Reads (loc.Global k)
touch_in (SetGlobal k) = touch.Writes (loc.Global k)
touch_in (Read access signed) = touch.Loads
touch_in (Write access) = touch.Stores
touch_in Pages = touch.Reads loc.Size
touch_in Grow = touch.Changes loc.Size
touch_in Copy = touch.Stores
touch_in Fill = touch.Stores
touch_in _ = touch.Nothing

-- what a call touches depends on whom it calls
abbrev pub touch_by : Form → Touch
touch_by (Plain a) = touch_in a
touch_by (CallOf f) = touch.Calls (Own f)
touch_by (CallBy k) = touch.Calls (Through k)
touch_by _ = touch.Nothing

abbrev pub whom_in_touch : Touch → Option Whom
whom_in_touch (touch.Calls w) = Some w
whom_in_touch _ = None

abbrev pub touch_of : Instr → Touch
touch_of op = touch_by (form_of op)

-- ---- how the walk comes to what is next

-- from here on, where it came here at all
abbrev pub through : Came → Node → Came
through Never n = Never
through First n = After n
through (After m) n = After n

abbrev pub onward : Came → Instr → ℕ → Came
onward came i p = if goes_on i then through came (At p) else Never

-- at the end of a sequence at p
abbrev pub came_at : Came → Code → ℕ → Came
came_at came done p = came
came_at came (one i rest) p = came_at (onward came i p) rest (p + 1)
came_at came (block kind inner rest) p = came_at (through came (Join p)) rest (p + 1 + count inner)
came_at came (repeat kind inner rest) p = came_at (through came (Join p)) rest (p + 1 + count inner)
came_at came (branch kind x y rest) p = came_at (through came (Join p)) rest (p + 1 + count x + count y)

-- ---- positions

abbrev pub holder : Came → Spot
holder came = record { came = came; touch = touch.Nothing; taken = taken.All }

-- the same of an if
abbrev pub fork : Came → Spot
fork came = record { came = came; touch = touch.Nothing; taken = taken.Test }

abbrev pub spots_in : Came → Code → ℕ → List Spot
spots_in came done p = []
spots_in came (one i rest) p = record { came = came; touch = touch_of i; taken = taken_by i } ∷ spots_in (onward came i p) rest (p + 1)
spots_in came (block kind inner rest) p =
    holder came ∷ (spots_in (through came (At p)) inner (p + 1) ++ spots_in (through came (Join p)) rest (p + 1 + count inner))
spots_in came (repeat kind inner rest) p =
    holder came ∷ (spots_in (through came (At p)) inner (p + 1) ++ spots_in (through came (Join p)) rest (p + 1 + count inner))
spots_in came (branch kind x y rest) p =
    fork came ∷ (spots_in (through came (At p)) x (p + 1) ++ (spots_in (through came (At p)) y (p + 1 + count x) ++ spots_in (through came (Join p)) rest (p + 1 + count x + count y)))

-- ---- what instructions take and touch, and the same of what stands at a position

abbrev pub Doing : Type 0
Doing = Taken × Touch

abbrev pub does_by : Instr → Doing
does_by op = (taken_by op, touch_of op)

abbrev pub touched_at : Head → Touch
touched_at (DoHead op) = touch_of op
touched_at _ = touch.Nothing

abbrev pub does_at : Head → Doing
does_at h = (taken_at h, touched_at h)

-- by position
abbrev pub doings : Code → List Doing
doings done = []
doings (one op rest) = does_by op ∷ doings rest
doings (block kind inner rest) = (taken.All, touch.Nothing) ∷ (doings inner ++ doings rest)
doings (repeat kind inner rest) = (taken.All, touch.Nothing) ∷ (doings inner ++ doings rest)
doings (branch kind x y rest) = (taken.Test, touch.Nothing) ∷ (doings x ++ (doings y ++ doings rest))

-- ---- ways: to a point, and from one that leads there

abbrev pub Way : Type 0
Way = Node × Node

abbrev pub lead : Came → Node → List Way
lead (After n) k = (k, n) ∷ []
lead _ k = []

-- the targets of a branch at p
abbrev pub leaves : List Node → Instr → ℕ → List Way
leaves labels (instr.Br l) p = (target_of labels l, At p) ∷ []
leaves labels (instr.BrIf l) p = (target_of labels l, At p) ∷ []
leaves labels (instr.BrTable some other) p = (target_of labels other, At p) ∷ map (λ l. (target_of labels l, At p)) some
leaves labels instr.Return p = (Exit, At p) ∷ []
leaves labels i p = []

abbrev pub where_came : Came → List Way → List Way
where_came Never ways = []
where_came _ ways = ways

-- by branches and by the ends of blocks, within these labels
abbrev pub ways_in : List Node → Came → Code → ℕ → List Way
ways_in labels came done p = []
ways_in labels came (one i rest) p = where_came came (leaves labels i p) ++ ways_in labels (onward came i p) rest (p + 1)
ways_in labels came (block kind inner rest) p =
    let in_block = through came (At p) in
    (ways_in (Join p ∷ labels) in_block inner (p + 1) ++ lead (came_at in_block inner (p + 1)) (Join p)) ++ ways_in labels (through came (Join p)) rest (p + 1 + count inner)
ways_in labels came (repeat kind inner rest) p =
    let in_loop = through came (At p) in
    (ways_in (At p ∷ labels) in_loop inner (p + 1) ++ lead (came_at in_loop inner (p + 1)) (Join p)) ++ ways_in labels (through came (Join p)) rest (p + 1 + count inner)
ways_in labels came (branch kind x y rest) p =
    let in_arm = through came (At p) in let f = p + 1 + count x in
    (ways_in (Join p ∷ labels) in_arm x (p + 1) ++ lead (came_at in_arm x (p + 1)) (Join p))
    ++ ((ways_in (Join p ∷ labels) in_arm y f ++ lead (came_at in_arm y f) (Join p)) ++ ways_in labels (through came (Join p)) rest (f + count y))

-- those of a body
abbrev pub ways_of : Code → List Way
ways_of c = ways_in (Exit ∷ []) First c 0 ++ lead (came_at First c 0) Exit

-- ---- the walk

-- a walk over a sequence adds what it finds
pub record Walks (labels : List Node) (came : Came) (c : Code) (old new : Trail) (end : Came) : Type 0 where
  pub spots : new.spots.items ≡ old.spots.items ++ spots_in came c (length old.spots.items)
  pub ways : new.ways.items ≡ old.ways.items ++ ways_in labels came c (length old.spots.items)
  pub came_is : end ≡ came_at came c (length old.spots.items)

-- the same of what a block, a loop or an arm holds, the end of which leads to a point
pub record WalksInner (labels : List Node) (came : Came) (c : Code) (k : Node) (old new : Trail) : Type 0 where
  pub spots : new.spots.items ≡ old.spots.items ++ spots_in came c (length old.spots.items)
  pub ways : new.ways.items ≡ old.ways.items ++ (ways_in labels came c (length old.spots.items) ++ lead (came_at came c (length old.spots.items)) k)

-- how the walk comes to what is there
abbrev pub came_of : Option Spot → Came
came_of None = Never
came_of (Some spot) = spot.came

-- how it comes to a point
abbrev pub came_to : List Spot → Node → Came
came_to spots (node.At p) = came_of (slice_get spots p.0)
came_to spots _ = Never

-- the points that lead to a point by branches and ends, by its number
abbrev pub items_of : Option (Vec Node Global) → List Node
items_of None = []
items_of (Some row) = row.items

abbrev pub ways_to : List (Vec Node Global) → Node → List Node
ways_to rows n = items_of (slice_get rows (number n))

-- the rows have each of these ways, and no other
abbrev pub AreRows : List Way → List (Vec Node Global) → Type 0
AreRows ways rows = (b a : Node) → Contains (ways_to rows b) a ↔ Contains ways (b, a)

-- what a position touches and takes
abbrev pub touch_at : Option Spot → Touch
touch_at None = touch.Nothing
touch_at (Some spot) = spot.touch

abbrev pub taken_is : Option Spot → Option Taken
taken_is None = None
taken_is (Some spot) = Some spot.taken
