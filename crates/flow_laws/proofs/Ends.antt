-- The two laws, of invocations in which nothing is watched.
use Rattle.wasm_meaning.specs.Run.{Run}
use Rattle.wasm_meaning.specs.Effects.{fixed}
use Rattle.std.proofs.Common.{◌≡◌, ℕ, ◌+◌, List, Bool, Some}
use Rattle.wasm_types.specs.declared.module.Value.{Value}
use Rattle.wasm_types.specs.declared.module.Module.{Module}
use Rattle.wasm_meaning.specs.State.{State}
use Rattle.wasm_types.specs.declared.place.Loc.{Loc}
use Rattle.flow_domain.specs.Bounds.{Cover, bounds}
use Rattle.wasm_types.specs.Funcs.{Func, func_of, unwatched}
use Rattle.wasm_meaning.specs.Invoke.{activation, nested}
use Rattle.flow_laws.proofs.Following.{IsReturn}
use Rattle.flow_domain.specs.Rows.{Output, Done}
use Rattle.flow_laws.specs.Calls.{ModuleOk}
use Rattle.flow_laws.specs.Soundness.{DifferOnly, Omits, AgreeAt}

-- the activation that an invocation of an own function is
abbrev pub own_run : Module → ℕ → (ℕ → Bool) → Func → List Value → State → Run
own_run m depth watched F args s = activation (fixed m s) (nested (fixed m s) depth) watched F args s

-- Invoked with these arguments in this state, where so many turns may nest, function f returns these results, the top first, in this final state.
pub record OwnEnds (m : Module) (f : ℕ) (args : List Value) (s : State) (depth : ℕ) (results : List Value) (final : State) : Type 0 where
  pub func : Func
  pub is : func_of m f ≡ Some func
  pub returns : IsReturn (own_run m depth unwatched func args s).outcome
  pub gives : (own_run m depth unwatched func args s).there.stack ≡ results
  pub ends : (own_run m depth unwatched func args s).there.store.state ≡ final

-- Two invocations whose starts differ only in inputs that no round leads an output to, and that both return, agree on the output.
abbrev pub RowsEnd : Type 0
RowsEnd =
    (m : Module) (W : Cover) → ModuleOk (bounds m W) → (f : ℕ) (F : Func) → func_of m f ≡ Some F
    → (o : Output) (J : Loc → Bool) → Omits (bounds m W) f o J
    → (args args' : List Value) (s s' : State) → DifferOnly m F J args args' s s'
    → (depth depth' : ℕ) (results results' : List Value) (final final' : State) → OwnEnds m f args s depth results final → OwnEnds m f args' s' depth'
    results' final'
    → AgreeAt o results results' final final'

-- the function returns, where as many turns may nest, after as many turns
pub record EndsToo (m : Module) (f : ℕ) (args : List Value) (s : State) (depth : ℕ) (before after : State) : Type 0 where
  pub results : List Value
  pub final : State
  pub returns : OwnEnds m f args s depth results final
  pub turns : final.turns + before.turns ≡ after.turns + s.turns

-- Where an invocation returns, one whose start differs only in inputs that no round leads completion to returns too, after as many turns.
abbrev pub DoneEnd : Type 0
DoneEnd =
    (m : Module) (W : Cover) → ModuleOk (bounds m W) → (f : ℕ) (F : Func) → func_of m f ≡ Some F
    → (J : Loc → Bool) → Omits (bounds m W) f Done J
    → (args args' : List Value) (s s' : State) → DifferOnly m F J args args' s s'
    → (depth : ℕ) (results : List Value) (final : State) → OwnEnds m f args s depth results final
    → EndsToo m f args' s' depth s final
