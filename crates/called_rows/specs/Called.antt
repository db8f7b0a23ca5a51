-- What tables say of whom a call calls.
use Rattle.std.specs.Prelude.{ℕ, ◌^◌, ◌<◌, ◌⊎◌, List, Option, Some, None, slice_get}
use Rattle.wasm_types.specs.declared.place.Loc.{Loc}
use Rattle.wasm_types.specs.declared.place.Loc.TheVariants.{Local}
use Rattle.flow_domain.specs.Rows.{Output, Done}
use Rattle.flow_domain.specs.Summaries.{HasInput, TableRows}
use Rattle.call_graph.specs.Edges.{class_in}
use Rattle.call_graph.specs.Graph.{TellsLoc}
use Rattle.called_rows.specs.declared.callees.Called.{Called}
use Rattle.called_rows.specs.declared.classes.Targets.{Targets}
use Rattle.called_rows.specs.declared.instrs.Whom.{Whom}
use Rattle.called_rows.specs.declared.instrs.Whom.TheVariants.{Own, Through}
use Rattle.called_rows.specs.Locs.{IsMarkedAt}
use Rattle.called_rows.specs.Whom.{IsLast}

abbrev pub globals_in : Called → ℕ
globals_in c = c.targets.now.globals

abbrev pub at_class : List Targets → Option ℕ → Option Targets
at_class all (Some c) = slice_get all c
at_class all None = None

-- what is known of those that a type number may find
abbrev pub targets_at : Called → ℕ → Option Targets
targets_at c k = at_class c.targets.now.by_class.items (class_in (slice_get c.graph.now.classes.by_type.items k))

abbrev pub RowOfTargets : Option Targets → Output → Loc → Type 0
RowOfTargets (Some u) o x = HasInput u.rows o x
RowOfTargets None o x = ⊥

abbrev pub TargetsWrite : ℕ → Option Targets → Loc → Type 0
TargetsWrite globals (Some u) x = IsMarkedAt globals u.writes.items x
TargetsWrite globals None x = ⊥

abbrev pub TargetsTouch : ℕ → Option Targets → Loc → Type 0
TargetsTouch globals (Some u) x = IsMarkedAt globals u.touches.items x
TargetsTouch globals None x = ⊥

-- the row of whom a call calls
abbrev pub RowIn : Called → Whom → Output → Loc → Type 0
RowIn c (Own f) o x = TableRows c.rows.now f o x
RowIn c (Through k) o x = RowOfTargets (targets_at c k) o x

-- an output of a call depends on operand k, of n, the deepest being 0
abbrev pub TakesIn : Called → Whom → Output → ℕ → ℕ → Type 0
TakesIn c w o n k = ((k < 2 ^ 32) × RowIn c w o (Local k)) ⊎ IsLast w n k

-- what a call writes
abbrev pub WritesBy : Called → Whom → Loc → Type 0
WritesBy c (Own f) x = TellsLoc c.graph.now.writes f x
WritesBy c (Through k) x = TargetsWrite (globals_in c) (targets_at c k) x

-- what decides whether a call itself stops
abbrev pub ChecksBy : Called → Whom → Output → Loc → Type 0
ChecksBy c (Through k) Done x = TargetsTouch (globals_in c) (targets_at c k) x
ChecksBy c _ o x = ⊥
