-- What the types of an instruction tell of its action.
use Rattle.std.proofs.Common.{◌≡◌, ℕ, suc, List, [], ◌∷◌, map, reverse, Some, option_map, length, slice_get, refl, sym, ap, ◌∙◌, subst}
use Rattle.std.proofs.lemmas.List.{length-reverse}
use Rattle.std.proofs.lemmas.Option.{slice_get-map}
use Rattle.wasm_types.specs.declared.module.ValType.{ValType}
use Rattle.wasm_types.specs.declared.module.ValType.TheVariants.{I32, I64}
use Rattle.wasm_types.specs.declared.module.FuncType.{FuncType}
use Rattle.wasm_types.specs.declared.module.GlobalType.{GlobalType}
use Rattle.wasm_types.specs.declared.module.Module.{Module}
use Rattle.wasm_types.specs.declared.ops.NumOp.{NumOp}
use Rattle.wasm_types.specs.declared.ops.NumOp.TheVariants as num
use Rattle.wasm_types.specs.declared.ops.LoadOp.{LoadOp}
use Rattle.wasm_types.specs.declared.ops.LoadOp.TheVariants as load
use Rattle.wasm_types.specs.declared.instr.Instr.{Instr}
use Rattle.wasm_types.specs.declared.instr.Instr as instr
use Rattle.wasm_types.specs.Plain.{immediates}
use Rattle.wasm_types.specs.WellFormed.{ProperImmediates}
use Rattle.wasm_types.specs.Spaces.{type_of_func, globals_of}
use Rattle.wasm_types.specs.Typing.{Takes, Types, TypesNum, load_type}
use Rattle.wasm_types.specs.Subset.{IsInteger}
use Rattle.wasm_meaning.specs.Fits.{HasType, global_type}
use Rattle.wasm_types.specs.Actions.{callees, Action, Nothing, Const, Number, Discard, Choose, Get, Set, Tee, GetGlobal, SetGlobal, Read, Write, Pages, Grow, Copy, Fill, Own, Through, Task, NoTask, Acts, Asks, own_task, table_task, task_of, operands, takes_in, leaves_in, takes_of, leaves_of}
use Rattle.typed_runs.specs.Kept.{standing}

-- what an action takes and leaves, the top first, in a module, with locals of these types
abbrev pub ActionTypes : Module → List ValType → Action → List ValType → List ValType → Type 0
ActionTypes m types Nothing t l = Takes [] [] t l
ActionTypes m types (Const v) t l = (k : ValType) × HasType v k × Takes [] (k ∷ []) t l
ActionTypes m types (Number op) t l = TypesNum op t l
ActionTypes m types Discard t l = (k : ValType) × Takes (k ∷ []) [] t l
ActionTypes m types Choose t l = (k : ValType) × Takes (I32 ∷ k ∷ k ∷ []) (k ∷ []) t l
ActionTypes m types (Get x) t l = (k : ValType) × (slice_get types x ≡ Some k) × Takes [] (k ∷ []) t l
ActionTypes m types (Set x) t l = (k : ValType) × (slice_get types x ≡ Some k) × Takes (k ∷ []) [] t l
ActionTypes m types (Tee x) t l = (k : ValType) × (slice_get types x ≡ Some k) × Takes (k ∷ []) (k ∷ []) t l
ActionTypes m types (GetGlobal x) t l = (k : ValType) × (slice_get (map global_type (globals_of m)) x ≡ Some k) × Takes [] (k ∷ []) t l
ActionTypes m types (SetGlobal x) t l = (k : ValType) × (slice_get (map global_type (globals_of m)) x ≡ Some k) × Takes (k ∷ []) [] t l
ActionTypes m types (Read access signed) t l = IsInteger access.kind × Takes (I32 ∷ []) (access.kind ∷ []) t l
ActionTypes m types (Write access) t l = Takes (access.kind ∷ I32 ∷ []) [] t l
ActionTypes m types Pages t l = Takes [] (I32 ∷ []) t l
ActionTypes m types Grow t l = Takes (I32 ∷ []) (I32 ∷ []) t l
ActionTypes m types Copy t l = Takes (I32 ∷ I32 ∷ I32 ∷ []) [] t l
ActionTypes m types Fill t l = Takes (I32 ∷ I32 ∷ I32 ∷ []) [] t l

-- what a task takes and leaves
abbrev pub TaskTypes : Module → List ValType → Task → List ValType → List ValType → Type 0
TaskTypes m types NoTask t l = ⊥
TaskTypes m types (Acts a) t l = ActionTypes m types a t l
TaskTypes m types (Asks (Own f) n r) t l =
    (F : FuncType) × (type_of_func m f ≡ Some F) × (n ≡ length F.params) × (r ≡ length F.results) × Takes (reverse F.params) (reverse F.results) t l
TaskTypes m types (Asks (Through k j) n r) t l =
    (F : FuncType) × (slice_get m.types k ≡ Some F) × (n ≡ suc (length F.params)) × (r ≡ length F.results) × Takes (I32 ∷ reverse F.params)
    (reverse F.results) t l

pub global_known : (gs : List GlobalType) (x : ℕ) (g : GlobalType) → slice_get gs x ≡ Some g → slice_get (map global_type gs) x ≡ Some g.kind
global_known gs x g e = slice_get-map global_type gs x ∙ ap (option_map global_type) e

integer_load : (op : LoadOp) → IsInteger (load_type op)
integer_load load.I32 = tt
integer_load load.I32S8 = tt
integer_load load.I32U8 = tt
integer_load load.I32S16 = tt
integer_load load.I32U16 = tt
integer_load _ = tt

-- one line an instruction
pub task_types : (m : Module) (types result : List ValType) (op : Instr) (t l : List ValType) → ProperImmediates (immediates op)
    → Types (standing m types result) op t l → TaskTypes m types (task_of (callees m) op) t l
task_types m types result instr.Nop t l p h = h
task_types m types result instr.Drop t l p h = h
task_types m types result instr.Select t l p h = h
task_types m types result (instr.Call f) t l p (F, at, h) = subst (λ o. TaskTypes m types (own_task f o) t l) (sym at) (F, at, refl, refl, h)
task_types m types result (instr.CallIndirect k) t l p (F, some, at, h) = subst (λ o. TaskTypes m types (table_task k o) t l) (sym at) (F, at, refl, refl, h)
task_types m types result (instr.LocalGet x) t l p h = h
task_types m types result (instr.LocalSet x) t l p h = h
task_types m types result (instr.LocalTee x) t l p h = h
task_types m types result (instr.GlobalGet x) t l p (g, at, h) = (g.kind, global_known (globals_of m) x g at, h)
task_types m types result (instr.GlobalSet x) t l p (g, at, mut, h) = (g.kind, global_known (globals_of m) x g at, h)
task_types m types result (instr.Load op arg) t l p (some, h) = (integer_load op, h)
task_types m types result (instr.Store op arg) t l p (some, h) = h
task_types m types result instr.MemorySize t l p (some, h) = h
task_types m types result instr.MemoryGrow t l p (some, h) = h
task_types m types result (instr.I32Const n) t l p h = (I32, (refl, p), h)
task_types m types result (instr.I64Const n) t l p h = (I64, (refl, p), h)
task_types m types result (instr.Num op) t l p h = h
task_types m types result instr.MemoryCopy t l p (some, h) = h
task_types m types result instr.MemoryFill t l p (some, h) = h
task_types m types result _ t l p h = absurd h

-- ---- how many operands, and how many results

num_takes : (op : NumOp) (t l : List ValType) → TypesNum op t l → operands op ≡ length t
num_takes (num.Eqz w) t l h = sym (ap length h.0)
num_takes (num.Rel w op) t l h = sym (ap length h.0)
num_takes (num.Un w op) t l h = sym (ap length h.0)
num_takes (num.Bin w op) t l h = sym (ap length h.0)
num_takes num.Wrap t l h = sym (ap length h.0)
num_takes num.ExtendS t l h = sym (ap length h.0)
num_takes num.ExtendU t l h = sym (ap length h.0)
num_takes (num.Low op) t l h = sym (ap length h.0)

pub takes_length : (m : Module) (types : List ValType) (a : Action) (t l : List ValType) → ActionTypes m types a t l → takes_in a ≡ length t
takes_length m types Nothing t l h = sym (ap length h.0)
takes_length m types (Const v) t l (k, hv, h) = sym (ap length h.0)
takes_length m types (Number op) t l h = num_takes op t l h
takes_length m types Discard t l (k, h) = sym (ap length h.0)
takes_length m types Choose t l (k, h) = sym (ap length h.0)
takes_length m types (Get x) t l (k, at, h) = sym (ap length h.0)
takes_length m types (Set x) t l (k, at, h) = sym (ap length h.0)
takes_length m types (Tee x) t l (k, at, h) = sym (ap length h.0)
takes_length m types (GetGlobal x) t l (k, at, h) = sym (ap length h.0)
takes_length m types (SetGlobal x) t l (k, at, h) = sym (ap length h.0)
takes_length m types (Read access signed) t l (i, h) = sym (ap length h.0)
takes_length m types (Write access) t l h = sym (ap length h.0)
takes_length m types Pages t l h = sym (ap length h.0)
takes_length m types Grow t l h = sym (ap length h.0)
takes_length m types Copy t l h = sym (ap length h.0)
takes_length m types Fill t l h = sym (ap length h.0)

num_leaves : (op : NumOp) (t l : List ValType) → TypesNum op t l → 1 ≡ length l
num_leaves (num.Eqz w) t l h = sym (ap length h.1)
num_leaves (num.Rel w op) t l h = sym (ap length h.1)
num_leaves (num.Un w op) t l h = sym (ap length h.1)
num_leaves (num.Bin w op) t l h = sym (ap length h.1)
num_leaves num.Wrap t l h = sym (ap length h.1)
num_leaves num.ExtendS t l h = sym (ap length h.1)
num_leaves num.ExtendU t l h = sym (ap length h.1)
num_leaves (num.Low op) t l h = sym (ap length h.1)

pub leaves_length : (m : Module) (types : List ValType) (a : Action) (t l : List ValType) → ActionTypes m types a t l → leaves_in a ≡ length l
leaves_length m types Nothing t l h = sym (ap length h.1)
leaves_length m types (Const v) t l (k, hv, h) = sym (ap length h.1)
leaves_length m types (Number op) t l h = num_leaves op t l h
leaves_length m types Discard t l (k, h) = sym (ap length h.1)
leaves_length m types Choose t l (k, h) = sym (ap length h.1)
leaves_length m types (Get x) t l (k, at, h) = sym (ap length h.1)
leaves_length m types (Set x) t l (k, at, h) = sym (ap length h.1)
leaves_length m types (Tee x) t l (k, at, h) = sym (ap length h.1)
leaves_length m types (GetGlobal x) t l (k, at, h) = sym (ap length h.1)
leaves_length m types (SetGlobal x) t l (k, at, h) = sym (ap length h.1)
leaves_length m types (Read access signed) t l (i, h) = sym (ap length h.1)
leaves_length m types (Write access) t l h = sym (ap length h.1)
leaves_length m types Pages t l h = sym (ap length h.1)
leaves_length m types Grow t l h = sym (ap length h.1)
leaves_length m types Copy t l h = sym (ap length h.1)
leaves_length m types Fill t l h = sym (ap length h.1)

pub task_takes : (m : Module) (types : List ValType) (task : Task) (t l : List ValType) → TaskTypes m types task t l → takes_of task ≡ length t
task_takes m types NoTask t l h = absurd h
task_takes m types (Acts a) t l h = takes_length m types a t l h
task_takes m types (Asks (Own f) n r) t l (F, at, takes, leaves, h) = takes ∙ sym (ap length h.0 ∙ length-reverse F.params)
task_takes m types (Asks (Through k j) n r) t l (F, at, takes, leaves, h) = takes ∙ sym (ap length h.0 ∙ ap suc (length-reverse F.params))

pub task_leaves : (m : Module) (types : List ValType) (task : Task) (t l : List ValType) → TaskTypes m types task t l → leaves_of task ≡ length l
task_leaves m types NoTask t l h = absurd h
task_leaves m types (Acts a) t l h = leaves_length m types a t l h
task_leaves m types (Asks (Own f) n r) t l (F, at, takes, leaves, h) = leaves ∙ sym (ap length h.1 ∙ length-reverse F.results)
task_leaves m types (Asks (Through k j) n r) t l (F, at, takes, leaves, h) = leaves ∙ sym (ap length h.1 ∙ length-reverse F.results)
