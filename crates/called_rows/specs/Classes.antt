-- What the functions of a class do, taken together.
use Rattle.std.specs.Prelude.{◌≡◌, ◌≢◌, ◌↔◌, ◌⊎◌, ℕ, ◌+◌, List, Some, length, slice_get}
use Rattle.wasm_types.specs.declared.module.FuncType.{FuncType}
use Rattle.wasm_types.specs.declared.module.Module.{Module}
use Rattle.wasm_types.specs.declared.place.Loc.{Loc}
use Rattle.wasm_types.specs.Spaces.{globals_of, type_of_func}
use Rattle.body_check.specs.Numbered.{Describes}
use Rattle.flow_domain.specs.declared.summary.Summary.{Summary}
use Rattle.flow_domain.specs.declared.summary_table.SummaryTable.{SummaryTable}
use Rattle.flow_domain.specs.Reach.{MayWrite}
use Rattle.flow_domain.specs.Rows.{Output}
use Rattle.flow_domain.specs.Summaries.{HasInput, IsShape, TableRows}
use Rattle.flow_domain.specs.Touch.{MayTouch}
use Rattle.call_graph.specs.declared.calls.CallGraph.{CallGraph}
use Rattle.call_graph.specs.Tells.{HasClass}
use Rattle.called_rows.specs.declared.classes.Targets.{Targets}
use Rattle.called_rows.specs.declared.classes.TargetTable.{TargetTable}
use Rattle.called_rows.specs.Funcs.{MarksOf}

-- one of the functions of a class has it
abbrev pub AnyIn : CallGraph → ℕ → (ℕ → Type 0) → Type 0
AnyIn g c P = (f : ℕ) × (HasClass g.classes f c × P f)

-- they are what the functions of a class do, whose rows have the shape that their type gives
pub record AreTogether (m : Module) (g : CallGraph) (t : SummaryTable) (c : ℕ) (u : Targets) : Type 0 where
  pub shape : (f : ℕ) (F : FuncType) → HasClass g.classes f c → type_of_func m f ≡ Some F → IsShape (length (globals_of m)) (length F.params) u.rows
  pub rows : (o : Output) (x : Loc) → HasInput u.rows o x ↔ AnyIn g c (λ f. TableRows t f o x)
  pub writes_long : length u.writes.items ≡ length (globals_of m) + 3
  pub touches_long : length u.touches.items ≡ length (globals_of m) + 3
  pub writes : MarksOf (length (globals_of m)) u.writes.items (λ x. AnyIn g c (λ f. MayWrite m f x))
  pub touches : MarksOf (length (globals_of m)) u.touches.items (λ x. AnyIn g c (λ f. MayTouch m f x))

pub record AreClasses (m : Module) (g : CallGraph) (t : SummaryTable) (all : List Targets) : Type 0 where
  pub long : length all ≡ g.classes.count
  pub each : (c : ℕ) (u : Targets) → slice_get all c ≡ Some u → AreTogether m g t c u

pub record IsTargetTable (m : Module) (g : CallGraph) (t : SummaryTable) (T : TargetTable) : Type 0 where
  pub globals : T.globals ≡ length (globals_of m)
  pub spaces : Describes T.spaces m
  pub classes : AreClasses m g t T.by_class.items

-- there is such a class, and rows of its shape
abbrev pub FitsAt : List Targets → ℕ → Summary → Type 0
FitsAt all c s = (u : Targets) × ((slice_get all c ≡ Some u) × IsShape u.rows.globals u.rows.params s)

-- the class has all these rows
abbrev pub HasAll : List Targets → ℕ → Summary → Type 0
HasAll all c s = (u : Targets) → slice_get all c ≡ Some u → (o : Output) (x : Loc) → HasInput s o x → HasInput u.rows o x

-- rows of a function are taken where it has a class
abbrev pub TakesRows : CallGraph → TargetTable → ℕ → Summary → Type 0
TakesRows g T f s = (c : ℕ) → HasClass g.classes f c → FitsAt T.by_class.items c s

-- a class has its old rows and these, and nothing else is changed
pub record IsGrown (s : Summary) (old new : Targets) : Type 0 where
  pub shape : IsShape old.rows.globals old.rows.params new.rows
  pub rows : (o : Output) (x : Loc) → HasInput new.rows o x ↔ (HasInput old.rows o x ⊎ HasInput s o x)
  pub writes : new.writes ≡ old.writes
  pub touches : new.touches ≡ old.touches

pub record IsMergedAt (c : ℕ) (s : Summary) (old new : List Targets) : Type 0 where
  pub long : length new ≡ length old
  pub here : (u v : Targets) → slice_get old c ≡ Some u → slice_get new c ≡ Some v → IsGrown s u v
  pub others : (d : ℕ) → d ≢ c → slice_get new d ≡ slice_get old d
