-- What is known of calls: what the cover of a module tells, and what the laws of rows say of them.
use Rattle.flow_domain.specs.Sliced.{watched_code}
use Rattle.wasm_types.specs.declared.module.Body.{Body}
use Rattle.std.specs.Prelude.{◌≡◌, ℕ, ◌+◌, ◌≤◌, List, [], ◌∷◌, reverse, Bool, true, false, Some, length, slice_get}
use Rattle.wasm_types.specs.declared.module.Value.{Value}
use Rattle.wasm_types.specs.declared.module.FuncType.{FuncType}
use Rattle.wasm_types.specs.declared.module.Module.{Module}
use Rattle.wasm_types.specs.declared.instr.Instr.{Instr}
use Rattle.wasm_types.specs.declared.place.Loc.{Loc}
use Rattle.wasm_types.specs.Spaces.{HasBody, type_of_func}
use Rattle.wasm_types.specs.Actions.{callees, Callee, Own, Through}
use Rattle.wasm_types.specs.Locations.{is_outer}
use Rattle.wasm_types.specs.Hosts.{HostFunc, host_of, host_writes, MayStand}
use Rattle.wasm_types.specs.Funcs.{unwatched, Func, func_of, text}
use Rattle.wasm_meaning.specs.State.{Store}
use Rattle.wasm_meaning.specs.Equality.{EqAt}
use Rattle.wasm_meaning.specs.Effects.{Fixed, Effect, Gives, Calls}
use Rattle.wasm_meaning.specs.Run.{turned}
use Rattle.flow_domain.specs.Bounds.{Bounds, writes}
use Rattle.flow_domain.specs.Heights.{Shaped}
use Rattle.flow_domain.specs.Rows.{Output, Ret, Final, Done, Rows, Target}

-- each entry of the table that isn't empty may stand there
abbrev pub TableFits : Fixed → Type 0
TableFits Z = (i f : ℕ) → slice_get Z.table i ≡ Some (Some f) → MayStand Z.m f

-- function f, whose body an instruction stands in, is known to write what it writes
abbrev pub OpOk : Bounds → ℕ → Instr → Type 0
OpOk B f op = (x : Loc) → writes B op x ≡ true → is_outer x ≡ true → B.cover.writes (Own f) x ≡ true

abbrev pub AnyInstr : Instr → Type 0
AnyInstr op = Unit {0}

-- heights are kept in each own function's body
abbrev pub HasHeights : Module → Type 0
HasHeights m =
    (f : ℕ) (t : FuncType) (b : Body) → type_of_func m f ≡ Some t → HasBody m f b → Shaped (callees m) AnyInstr (length t.results ∷ []) (length t.results)
    (watched_code unwatched b) 0

-- heights are kept in each body, and the cover's sets hold what functions and targets write, and no locals
pub record ModuleOk (B : Bounds) : Type 0 where
  pub shaped : (f : ℕ) (F : Func) → func_of B.m f ≡ Some F → Shaped (callees B.m) (OpOk B f) (F.results ∷ []) F.results (text F) 0
  pub small : (f : ℕ) (F : Func) → func_of B.m f ≡ Some F → F.results ≤ 1
  pub hosts : (f : ℕ) (H : HostFunc) → host_of B.m f ≡ Some H → (x : Loc) → host_writes H x ≡ true → B.cover.writes (Own f) x ≡ true
  pub targets : (t n f : ℕ) → Target B.m t f → (x : Loc) → B.cover.writes (Own f) x ≡ true → B.cover.writes (Through t n) x ≡ true
  pub outer : (g : Callee) (x : Loc) → B.cover.writes g x ≡ true → is_outer x ≡ true

-- two ends of an invocation agree on an output
abbrev pub AgreeOn : Output → Effect → Effect → Type 0
AgreeOn Ret e e' = e'.results ≡ e.results
AgreeOn (Final x) e e' = is_outer x ≡ true → EqAt x e.store e'.store
AgreeOn Done e e' = Unit {0}

-- the store in which a callee begins, before its own locals: a turn was taken, and the arguments, the first one first, are the first locals
abbrev pub begun : List Value → Store → Store
begun vs s = record { locals = reverse vs; state = (turned s).state }

-- two starts are equal on each input of a row
abbrev pub SameOn : (Loc → Type 0) → List Value → List Value → Store → Store → Type 0
SameOn row vs vs' st st' = (x : Loc) → row x → EqAt x (begun vs st) (begun vs' st')

-- two invocations that return agree on each output on whose row they began equal
abbrev pub TwoLaw : Rows → Module → Calls → Type 0
TwoLaw R m c =
    (f : ℕ) (t : FuncType) → type_of_func m f ≡ Some t → (o : Output) (vs vs' : List Value) → length vs ≡ length t.params → length vs' ≡ length t.params
    → (st st' : Store) (e e' : Effect) → SameOn (R f o) vs vs' st st' → c f vs st ≡ Gives e → c f vs' st' ≡ Gives e' → AgreeOn o e e'

-- what a call does at all
pub record CallDoes (W : Loc → Bool) (r : ℕ) (st : Store) (e : Effect) : Type 0 where
  pub left : length e.results ≡ r
  pub frame : (x : Loc) → W x ≡ false → EqAt x st e.store
  pub turns : st.state.turns ≤ e.store.state.turns

abbrev pub DoesLaw : Bounds → Calls → Type 0
DoesLaw B c =
    (f : ℕ) (t : FuncType) → type_of_func B.m f ≡ Some t → (vs : List Value) (st : Store) (e : Effect) → c f vs st ≡ Gives e
    → CallDoes (B.cover.writes (Own f)) (length t.results) st e

-- where a call returns from one start, it returns from a start that is equal on its row for Done, after as many turns
pub record CallComes (c : Calls) (f : ℕ) (vs' : List Value) (st st' : Store) (e : Effect) : Type 0 where
  pub other : Effect
  pub is : c f vs' st' ≡ Gives other
  pub turns : other.store.state.turns + st.state.turns ≡ e.store.state.turns + st'.state.turns

abbrev pub DoneLaw : Rows → Module → Calls → Type 0
DoneLaw R m c =
    (f : ℕ) (t : FuncType) → type_of_func m f ≡ Some t → (vs vs' : List Value) → length vs ≡ length t.params → length vs' ≡ length t.params → (st st' : Store)
    (e : Effect) → SameOn (R f Done) vs vs' st st' → c f vs st ≡ Gives e → CallComes c f vs' st st' e
