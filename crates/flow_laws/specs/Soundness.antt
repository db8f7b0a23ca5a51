-- The table of rows is sound.
use Rattle.std.specs.Prelude.{◌≡◌, ℕ, ◌+◌, List, [], Bool, true, false, Some, length}
use Rattle.wasm_types.specs.declared.module.Value.{Value}
use Rattle.wasm_types.specs.declared.module.Module.{Module}
use Rattle.wasm_meaning.specs.State.{State, Store}
use Rattle.wasm_meaning.specs.Fits.{Fits}
use Rattle.wasm_types.specs.declared.place.Loc.{Loc}
use Rattle.wasm_meaning.specs.Equality.{EqAt}
use Rattle.flow_domain.specs.Bounds.{Cover, Bounds, bounds}
use Rattle.wasm_types.specs.Locations.{is_outer}
use Rattle.wasm_types.specs.declared.run.Event.{Event}
use Rattle.wasm_types.specs.Funcs.{Func, func_of}
use Rattle.wasm_meaning.specs.Invoke.{Returns}
use Rattle.flow_domain.specs.Rows.{Output, Ret, Final, Done, IsInput, Dep}
use Rattle.flow_laws.specs.Calls.{ModuleOk}

-- where an invocation begins: its inputs are the locations of this store
abbrev pub entry : List Value → State → Store
entry args s = record { locals = args; state = s }

-- two starts of function F that differ only in inputs in J. The table and the cap are no inputs
pub record DifferOnly (m : Module) (F : Func) (J : Loc → Bool) (args args' : List Value) (s s' : State) : Type 0 where
  pub long : length args ≡ F.params
  pub long' : length args' ≡ F.params
  pub fits : Fits m s
  pub table : s'.table ≡ s.table
  pub cap : s'.cap ≡ s.cap
  pub equal : (x : Loc) → IsInput F.params x → J x ≡ false → EqAt x (entry args s) (entry args' s')

-- no round leads output o of function f to an input in J
abbrev pub Omits : Bounds → ℕ → Output → (Loc → Bool) → Type 0
Omits B f o J = (x : Loc) → J x ≡ true → (n : ℕ) → Dep B n f o x → ⊥

-- two ends of an invocation agree on an output
abbrev pub AgreeAt : Output → List Value → List Value → State → State → Type 0
AgreeAt Ret results results' s s' = results' ≡ results
AgreeAt (Final x) results results' s s' = is_outer x ≡ true → EqAt x (entry [] s) (entry [] s')
AgreeAt Done results results' s s' = Unit {0}

-- Two invocations whose starts differ only in inputs that no round leads an output to, and that both return, agree on the output.
abbrev pub RowsSound : Type 0
RowsSound =
    (m : Module) (W : Cover) → ModuleOk (bounds m W) → (f : ℕ) (F : Func) → func_of m f ≡ Some F
    → (o : Output) (J : Loc → Bool) → Omits (bounds m W) f o J
    → (args args' : List Value) (s s' : State) → DifferOnly m F J args args' s s'
    → (i i' n n' : ℕ) (results results' : List Value) (final final' : State) (events events' : List Event) → Returns m f i args s n results final events
    → Returns m f i' args' s' n' results' final' events'
    → AgreeAt o results results' final final'

-- the function returns after no more than n turns, and after as many as from the other start
pub record ReturnsAlike (m : Module) (f i : ℕ) (args : List Value) (s : State) (n : ℕ) (other_start other_final : State) : Type 0 where
  pub results : List Value
  pub final : State
  pub events : List Event
  pub returns : Returns m f i args s n results final events
  pub turns : final.turns + other_start.turns ≡ other_final.turns + s.turns

-- Where an invocation returns, one whose start differs only in inputs that no round leads completion to returns too, after as many turns.
abbrev pub DoneSound : Type 0
DoneSound =
    (m : Module) (W : Cover) → ModuleOk (bounds m W) → (f : ℕ) (F : Func) → func_of m f ≡ Some F
    → (J : Loc → Bool) → Omits (bounds m W) f Done J
    → (args args' : List Value) (s s' : State) → DifferOnly m F J args args' s s'
    → (i n : ℕ) (results : List Value) (final : State) (events : List Event) → Returns m f i args s n results final events
    → ReturnsAlike m f i args' s' n s final
