-- What the rows of a module's functions leave out has no influence (docs/ANALYSES.md, "Rows").
use Rattle.std.specs.Prelude.{◌≡◌, ◌↔◌, ℕ, ◌≤◌, List, Bool, true, false, length, Some}
use Rattle.wasm_types.specs.declared.module.Value.{Value}
use Rattle.wasm_types.specs.declared.module.Module.{Module}
use Rattle.wasm_types.specs.declared.place.Loc.{Loc}
use Rattle.wasm_types.specs.declared.run.Event.{Event}
use Rattle.wasm_types.specs.declared.module.FuncType.{FuncType}
use Rattle.wasm_types.specs.Hosts.{IsFunction}
use Rattle.wasm_types.specs.Spaces.{globals_of, import_count, type_of_func}
use Rattle.wasm_types.specs.Subset.{HasNoFloat}
use Rattle.wasm_types.specs.Validity.{IsValid}
use Rattle.wasm_meaning.specs.Equality.{EqAt}
use Rattle.wasm_meaning.specs.Fits.{Fits}
use Rattle.wasm_meaning.specs.Invoke.{Returns}
use Rattle.wasm_meaning.specs.State.{State}
use Rattle.flow_domain.specs.Bounds.{Cover, bounds}
use Rattle.flow_domain.specs.Reach.{CallsFunc, Reached, WritesExact}
use Rattle.flow_domain.specs.Rows.{Output, Done, IsInput, AnyRound}
use Rattle.flow_domain.specs.Summaries.{IsKnown, TableRows}
use Rattle.flow_domain.specs.Touch.{IsExact}
use Rattle.flow_domain.specs.declared.summary_table.SummaryTable.{SummaryTable}
use Rattle.flow_laws.specs.Soundness.{AgreeAt, Omits, ReturnsAlike, entry}

-- two starts of a function with so many parameters that differ only in inputs in J. The table and the cap are no inputs
pub record StartsDiffer (m : Module) (params : ℕ) (J : Loc → Bool) (args args' : List Value) (s s' : State) : Type 0 where
  pub long : length args ≡ params
  pub long' : length args' ≡ params
  pub fits : Fits m s
  pub table : s'.table ≡ s.table
  pub cap : s'.cap ≡ s.cap
  pub equal : (x : Loc) → IsInput params x → J x ≡ false → EqAt x (entry args s) (entry args' s')

-- Invocations of function f, with so many parameters, that both return, from starts that differ only in inputs in J, agree on output o. Which positions are
-- watched (i, i') and how many turns they take at most (n, n') doesn't matter.
abbrev pub TwoAgree : Module → ℕ → ℕ → Output → (Loc → Bool) → Type 0
TwoAgree m f params o J =
    (args args' : List Value) (s s' : State) → StartsDiffer m params J args args' s s' → (i i' n n' : ℕ) (results results' : List Value)
    (final final' : State) (events events' : List Event) → Returns m f i args s n results final events
    → Returns m f i' args' s' n' results' final' events' → AgreeAt o results results' final final'

-- where an invocation of function f, with so many parameters, returns, one whose start differs only in inputs in J returns too, after as many turns
abbrev pub BothReturn : Module → ℕ → ℕ → (Loc → Bool) → Type 0
BothReturn m f params J =
    (args args' : List Value) (s s' : State) → StartsDiffer m params J args args' s s' → (i n : ℕ) (results : List Value) (final : State) (events : List Event)
    → Returns m f i args s n results final events → ReturnsAlike m f i args' s' n s final

-- ---- by the rounds of rows

-- So it is in a valid module without floats, for each function, imported ones too, and for what no round leads the output to.
abbrev pub RoundsAgree : Type 0
RoundsAgree =
    (m : Module) (W : Cover) → IsValid m → HasNoFloat m → WritesExact m W → (f : ℕ) (t : FuncType) → type_of_func m f ≡ Some t → (o : Output)
    (J : Loc → Bool) → Omits (bounds m W) f o J → TwoAgree m f (length t.params) o J

abbrev pub RoundsReturn : Type 0
RoundsReturn =
    (m : Module) (W : Cover) → IsValid m → HasNoFloat m → WritesExact m W → (f : ℕ) (t : FuncType) → type_of_func m f ≡ Some t → (J : Loc → Bool)
    → Omits (bounds m W) f Done J → BothReturn m f (length t.params) J

-- ---- by a table

-- what callees write and touch, exactly
abbrev pub HasExactCover : Module → Type 0
HasExactCover m = (W : Cover) × IsExact m W

-- the table has just the rows of any round, of each output that has rows there
abbrev pub IsLeastTable : Module → SummaryTable → Type 0
IsLeastTable m t =
    (W : Cover) → IsExact m W → (f : ℕ) (o : Output) (x : Loc) → IsKnown (length (globals_of m)) o → TableRows t f o x ↔ AnyRound (bounds m W) f o x

-- calls lead from a function to another, and to itself only where they come back
abbrev pub CallsLead : Module → ℕ → ℕ → Type 0
CallsLead m root f = (g : ℕ) × (CallsFunc m root g × Reached m g f)

-- the same of the functions that calls lead to from one of them
abbrev pub IsLeastFrom : Module → ℕ → SummaryTable → Type 0
IsLeastFrom m root t =
    (W : Cover) → IsExact m W → (f : ℕ) (o : Output) (x : Loc) → IsFunction m f → CallsLead m root f → IsKnown (length (globals_of m)) o
    → TableRows t f o x ↔ AnyRound (bounds m W) f o x

-- an own function that has rows is led to
abbrev pub HasLedRows : Module → ℕ → SummaryTable → Type 0
HasLedRows m root t = (f : ℕ) (o : Output) (x : Loc) → import_count m ≤ f → TableRows t f o x → CallsLead m root f

-- no input in J is in the row of output o of function f
abbrev pub LeavesOut : SummaryTable → ℕ → Output → (Loc → Bool) → Type 0
LeavesOut t f o J = (x : Loc) → J x ≡ true → TableRows t f o x → ⊥

abbrev pub TableAgrees : Module → SummaryTable → Type 0
TableAgrees m t =
    (f : ℕ) (kind : FuncType) → type_of_func m f ≡ Some kind → (o : Output) (J : Loc → Bool) → IsKnown (length (globals_of m)) o → LeavesOut t f o J
    → TwoAgree m f (length kind.params) o J

abbrev pub TableReturns : Module → SummaryTable → Type 0
TableReturns m t =
    (f : ℕ) (kind : FuncType) → type_of_func m f ≡ Some kind → (J : Loc → Bool) → LeavesOut t f Done J → BothReturn m f (length kind.params) J
