-- The slice of a function, by any closed sets, and what is proved of it.
use Rattle.std.specs.Prelude.{◌≡◌, ℕ, ◌≤◌, List, [], ◌∷◌, Bool, Some, slice_get}
use Rattle.wasm_types.specs.declared.module.ValType.{ValType}
use Rattle.wasm_types.specs.declared.module.FuncType.{FuncType}
use Rattle.wasm_types.specs.declared.module.Value.{Value}
use Rattle.wasm_types.specs.declared.module.Body.{Body}
use Rattle.wasm_types.specs.declared.module.Export.{Export}
use Rattle.wasm_types.specs.declared.module.Module.{Module}
use Rattle.wasm_types.specs.declared.place.Node.{Node}
use Rattle.wasm_types.specs.declared.run.Event.{Event}
use Rattle.wasm_types.specs.Code.{list_of}
use Rattle.wasm_types.specs.Marked.{Marked, unmarked, watched_at}
use Rattle.wasm_types.specs.Spaces.{IsOwnFunc, HasBody}
use Rattle.wasm_types.specs.Validity.{IsValid}
use Rattle.wasm_types.specs.Actions.{Callees, callees}
use Rattle.wasm_types.specs.Sites.{Site, IsSite}
use Rattle.wasm_meaning.specs.State.{State}
use Rattle.wasm_meaning.specs.Fits.{Fits}
use Rattle.wasm_meaning.specs.Invoke.{Returns}
use Rattle.wasm_meaning.specs.Appended.{appended, AreFunctions}
use Rattle.flow_domain.specs.Bounds.{Cover, bounds}
use Rattle.flow_domain.specs.Cut.{cut_body}
use Rattle.flow_domain.specs.Presence.{HoldsNeeded}
use Rattle.flow_domain.specs.Rows.{RowOf, AnyRound}
use Rattle.flow_domain.specs.Sliced.{result_type, func_count, watched_once, sites_at, ends_at}
use Rattle.flow_laws.specs.Calls.{ModuleOk}
use Rattle.flow_laws.specs.Cutting.{IsKept}

-- the cut of a body of this type, watched at position i, and the body that it makes
abbrev pub cut_at : Callees → (K P : Node → Bool) → (Node → ValType) → FuncType → Body → ℕ → Marked
cut_at cs K P T t b i = cut_body cs K P T (result_type t) (watched_once b i)

abbrev pub cut_to : Marked → Body → Body
cut_to c b = record b { code = list_of (unmarked c) }

-- `new` is m with a function appended, and exports of functions: of own function f's type and locals, and with the cut of its body at the live position i,
-- by sets that are closed. Position `at` of it is where position i of f went.
pub record IsSliceOf (m : Module) (W : Cover) (f i : ℕ) (new : Module) (at : ℕ) : Type 0 where
  pub type : ℕ
  pub own : IsOwnFunc m f type
  pub kind : FuncType
  pub kind_is : slice_get m.types type ≡ Some kind
  pub body : Body
  pub has_body : HasBody m f body
  pub site : Site
  pub live : IsSite (sites_at (callees m) kind body i) i site
  pub kept : Node → Bool
  pub makers : Node → Bool
  pub present : Node → Bool
  pub types : Node → ValType
  pub rules : IsKept (bounds m W) (RowOf m (AnyRound (bounds m W))) (sites_at (callees m) kind body i) (ends_at (callees m) kind body i) kept makers
  pub holds : HoldsNeeded (callees m) (sites_at (callees m) kind body i) (ends_at (callees m) kind body i) kept present
  pub exports : List Export
  pub only : AreFunctions exports
  pub is : new ≡ appended m (type ∷ []) (cut_to (cut_at (callees m) kept present types kind body i) body ∷ []) exports
  pub at_is : at ≡ watched_at (cut_at (callees m) kept present types kind body i)

-- the function returns, after no more turns than a final state tells, with these events
pub record ReturnsToo (m : Module) (f i : ℕ) (args : List Value) (s : State) (n : ℕ) (before : State) (events : List Event) : Type 0 where
  pub results : List Value
  pub final : State
  pub returns : Returns m f i args s n results final events
  pub turns : final.turns ≤ before.turns

-- Whenever a function of a valid module returns, its slice returns from the same start, after no more turns and with the same events.
abbrev pub SliceReturns : Type 0
SliceReturns =
    (m : Module) (W : Cover) → IsValid m → ModuleOk (bounds m W) → (f i : ℕ) (new : Module) (at : ℕ) → IsSliceOf m W f i new at
    → (args : List Value) (s : State) → Fits m s
    → (n : ℕ) (results : List Value) (final : State) (events : List Event) → Returns m f i args s n results final events
    → ReturnsToo new (func_count m) at args s n final events
