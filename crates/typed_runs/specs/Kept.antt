-- Runs keep types (docs/MEANING.md, "Outcomes").
use Rattle.std.specs.Prelude.{◌≡◌, ◌≤◌, ℕ, List, [], ◌∷◌, ◌++◌, Bool, Some, length, map, slice_get, reverse}
use Rattle.wasm_types.specs.declared.module.ValType.{ValType}
use Rattle.wasm_types.specs.declared.module.Value.{Value}
use Rattle.wasm_types.specs.declared.module.FuncType.{FuncType}
use Rattle.wasm_types.specs.declared.module.Module.{Module}
use Rattle.wasm_types.specs.declared.instr.Instr.{Instr}
use Rattle.wasm_types.specs.declared.run.Event.{Event}
use Rattle.wasm_types.specs.Code.{Code}
use Rattle.wasm_types.specs.Marked.{marked}
use Rattle.wasm_types.specs.Plain.{immediates}
use Rattle.wasm_types.specs.Spaces.{type_of_func}
use Rattle.wasm_types.specs.Typing.{Context, Types}
use Rattle.wasm_types.specs.Validity.{Leads, IsValid}
use Rattle.wasm_types.specs.WellFormed.{ProperImmediates, ProperCode}
use Rattle.wasm_types.specs.Subset.{HasNoFloat}
use Rattle.wasm_types.specs.Actions.{callees, takes, leaves}
use Rattle.wasm_meaning.specs.State.{State, Store, HostCall}
use Rattle.wasm_meaning.specs.Fits.{Fits, HaveTypes}
use Rattle.wasm_meaning.specs.Stops.{Stop, Trap, Spent, Stuck}
use Rattle.wasm_meaning.specs.Effects.{fixed, Answer, Gives, Stops, Calls, effect}
use Rattle.wasm_meaning.specs.Run.{Here, Outcome, Normal, Branch, Stopped, Run, run}
use Rattle.wasm_meaning.specs.Invoke.{calls, nested, invocation, Ending, Returned, Trapped, Ends}

-- ---- what is kept

-- A state that a run from z can come to: it fits the module; the table, the cap and the host are z's; no call of the host is forgotten, and no turn is
-- given back.
pub record StateKept (m : Module) (z s : State) : Type 0 where
  pub fits : Fits m s
  pub table : s.table ≡ z.table
  pub cap : s.cap ≡ z.cap
  pub host : s.host ≡ z.host
  pub host_calls : (more : List HostCall) × (s.host_calls ≡ z.host_calls ++ more)
  pub turns : z.turns ≤ s.turns

-- with locals of these types
pub record StoreKept (m : Module) (z : State) (types : List ValType) (s : Store) : Type 0 where
  pub locals : HaveTypes s.locals types
  pub state : StateKept m z s.state

-- A stop is a trap, or that too many turns nest.
abbrev pub HasCause : Stop → Type 0
HasCause (Trap reason) = Unit {0}
HasCause Spent = Unit {0}
HasCause Stuck = ⊥

-- how a sequence ends that leads to the types result, of the labels' types: with values of these types, or those of the label that it branches to
abbrev pub EndKept : List (List ValType) → List ValType → Outcome → List Value → Type 0
EndKept labels result Normal vs = HaveTypes vs result
EndKept labels result (Branch l) vs = (t : List ValType) × (slice_get labels l ≡ Some t) × HaveTypes vs t
EndKept labels result (Stopped why) vs = HasCause why

pub record RunKept (m : Module) (z : State) (types : List ValType) (labels : List (List ValType)) (result : List ValType) (r : Run) : Type 0 where
  pub ends : EndKept labels result r.outcome r.there.stack
  pub store : StoreKept m z types r.there.store

-- what an instruction or a call answers
abbrev pub AnswerKept : Module → State → List ValType → List ValType → Answer → Type 0
AnswerKept m z locals results (Gives e) = HaveTypes e.results results × StoreKept m z locals e.store
AnswerKept m z locals results (Stops why s) = HasCause why × StateKept m z s

-- calls of the functions of the module keep types
abbrev pub CallsKept : Module → State → Calls → Type 0
CallsKept m z c =
    (f : ℕ) (F : FuncType) → type_of_func m f ≡ Some F
    → (vs : List Value) (types : List ValType) (s : Store) → HaveTypes vs (reverse F.params) → StoreKept m z types s → AnswerKept m z types (reverse F.results) (c f vs s)

-- the results have these types
abbrev pub EndingKept : List ValType → Ending → Type 0
EndingKept result (Returned results) = HaveTypes results result
EndingKept result (Trapped reason) = Unit {0}

-- ---- the laws

-- where code stands whose locals and result have these types
abbrev pub standing : Module → List ValType → List ValType → Context
standing m types result = record { inside = m; locals = types; result = result }

-- An instruction that goes on to the next one takes as many operands and leaves as many results as its type says, and on operands of the types that it
-- takes it gives results of those that it leaves, or stops with a cause, if calls keep types.
abbrev pub InstructionsKeepTypes : Type 0
InstructionsKeepTypes =
    (m : Module) (z : State) (c : Calls) → CallsKept m z c → (types result : List ValType) (op : Instr) (t l : List ValType)
    → ProperImmediates (immediates op) → Types (standing m types result) op t l
    → (takes (callees m) op ≡ length t)
    × (leaves (callees m) op ≡ length l)
    × ((vs : List Value) → HaveTypes vs t → (s : Store) → StoreKept m z types s → AnswerKept m z types l (effect (fixed m z) c op vs s))

-- A typed sequence, of the labels' types, the outermost of which is the function's result, keeps types, however many turns may nest.
abbrev pub SequencesKeepTypes : Type 0
SequencesKeepTypes =
    (m : Module) → IsValid m → HasNoFloat m → (z : State) (depth : ℕ) (types result : List ValType) (outer : List (List ValType))
    → (code : Code) (watched : ℕ → Bool) (p : ℕ) (from to : List ValType)
    → ProperCode code → Leads (standing m types result) (outer ++ result ∷ []) code from to
    → (h : Here) → HaveTypes h.stack from → StoreKept m z types h.store
    → RunKept m z types (outer ++ result ∷ []) to (run (fixed m z) (nested (fixed m z) depth) (map length (outer ++ result ∷ [])) (marked watched p code) h)

-- A call of any function, own or imported, keeps types, however many turns may nest.
abbrev pub CallsKeepTypes : Type 0
CallsKeepTypes = (m : Module) → IsValid m → HasNoFloat m → (z : State) (depth : ℕ) → CallsKept m z (calls (fixed m z) (nested (fixed m z) depth))

-- So does an invocation, from a state that fits, on arguments of the function's type.
abbrev pub InvocationsKeepTypes : Type 0
InvocationsKeepTypes =
    (m : Module) → IsValid m → HasNoFloat m → (f : ℕ) (F : FuncType) → type_of_func m f ≡ Some F
    → (s : State) → Fits m s → (args : List Value) → HaveTypes args F.params
    → (depth : ℕ) (watched : ℕ → Bool) → AnswerKept m s [] F.results (invocation m depth watched f args s).answer

-- What it ends with has the types of the function's results, and the final state fits.
abbrev pub EndsKeepTypes : Type 0
EndsKeepTypes =
    (m : Module) → IsValid m → HasNoFloat m → (f : ℕ) (F : FuncType) → type_of_func m f ≡ Some F
    → (s : State) → Fits m s → (args : List Value) → HaveTypes args F.params
    → (i : ℕ) (ending : Ending) (final : State) (events : List Event) → Ends m f i args s ending final events
    → EndingKept F.results ending × StateKept m s final

pub record RunsKeepTypes : Type 0 where
  pub instructions : InstructionsKeepTypes
  pub sequences : SequencesKeepTypes
  pub calls : CallsKeepTypes
  pub invocations : InvocationsKeepTypes
  pub ends : EndsKeepTypes
