-- What an instruction that holds no others takes from the stack and leaves on it, the top first (WebAssembly Core Specification 1.0, section 3.3;
-- docs/VALIDITY.md).
use Rattle.std.specs.Prelude.{◌≡◌, ◌≢◌, ℕ, ◌≤◌, ◌^◌, List, [], ◌∷◌, reverse, Some, slice_get, true}
use Rattle.wasm_types.specs.declared.ops.Width.{Width}
use Rattle.wasm_types.specs.declared.ops.Width.TheVariants.{W32, W64}
use Rattle.wasm_types.specs.declared.ops.LowOp.{LowOp}
use Rattle.wasm_types.specs.declared.ops.LowOp.TheVariants as low
use Rattle.wasm_types.specs.declared.ops.NumOp.{NumOp}
use Rattle.wasm_types.specs.declared.ops.NumOp.TheVariants as num
use Rattle.wasm_types.specs.declared.ops.LoadOp.{LoadOp}
use Rattle.wasm_types.specs.declared.ops.LoadOp.TheVariants as load
use Rattle.wasm_types.specs.declared.ops.StoreOp.{StoreOp}
use Rattle.wasm_types.specs.declared.ops.StoreOp.TheVariants as store
use Rattle.wasm_types.specs.declared.module.ValType.{ValType}
use Rattle.wasm_types.specs.declared.module.ValType.TheVariants.{I32, I64}
use Rattle.wasm_types.specs.declared.module.FuncType.{FuncType}
use Rattle.wasm_types.specs.declared.module.GlobalType.{GlobalType}
use Rattle.wasm_types.specs.declared.module.Module.{Module}
use Rattle.wasm_types.specs.declared.instr.MemArg.{MemArg}
use Rattle.wasm_types.specs.declared.instr.Instr.{Instr, Nop, Drop, Select, Call, CallIndirect, LocalGet, LocalSet, LocalTee, GlobalGet, GlobalSet, Load, Store, MemorySize, MemoryGrow, I32Const, I64Const, Num, MemoryCopy, MemoryFill}
use Rattle.wasm_types.specs.Spaces.{type_of_func, tables_of, mems_of, globals_of}

-- where an instruction stands: the module, the types of the locals, and the function's result
pub record Context : Type 0 where
  pub inside : Module
  pub locals : List ValType
  pub result : List ValType

abbrev pub type_of_width : Width → ValType
type_of_width W32 = I32
type_of_width W64 = I64

-- one reading of what is taken and left
abbrev pub Takes : List ValType → List ValType → List ValType → List ValType → Type 0
Takes takes leaves t l = (t ≡ takes) × (l ≡ leaves)

abbrev pub low_type : LowOp → ValType
low_type low.I32S8 = I32
low_type low.I32S16 = I32
low_type low.I64S8 = I64
low_type low.I64S16 = I64
low_type low.I64S32 = I64

abbrev pub TypesNum : NumOp → List ValType → List ValType → Type 0
TypesNum (num.Eqz w) t l = Takes (type_of_width w ∷ []) (I32 ∷ []) t l
TypesNum (num.Rel w op) t l = Takes (type_of_width w ∷ type_of_width w ∷ []) (I32 ∷ []) t l
TypesNum (num.Un w op) t l = Takes (type_of_width w ∷ []) (type_of_width w ∷ []) t l
TypesNum (num.Bin w op) t l = Takes (type_of_width w ∷ type_of_width w ∷ []) (type_of_width w ∷ []) t l
TypesNum num.Wrap t l = Takes (I64 ∷ []) (I32 ∷ []) t l
TypesNum num.ExtendS t l = Takes (I32 ∷ []) (I64 ∷ []) t l
TypesNum num.ExtendU t l = Takes (I32 ∷ []) (I64 ∷ []) t l
TypesNum (num.Low op) t l = Takes (low_type op ∷ []) (low_type op ∷ []) t l

abbrev pub load_type : LoadOp → ValType
load_type load.I32 = I32
load_type load.I32S8 = I32
load_type load.I32U8 = I32
load_type load.I32S16 = I32
load_type load.I32U16 = I32
load_type _ = I64

-- how many bytes are read
abbrev pub load_bytes : LoadOp → ℕ
load_bytes load.I32 = 4
load_bytes load.I64 = 8
load_bytes load.I32S8 = 1
load_bytes load.I32U8 = 1
load_bytes load.I32S16 = 2
load_bytes load.I32U16 = 2
load_bytes load.I64S8 = 1
load_bytes load.I64U8 = 1
load_bytes load.I64S16 = 2
load_bytes load.I64U16 = 2
load_bytes load.I64S32 = 4
load_bytes load.I64U32 = 4

abbrev pub store_type : StoreOp → ValType
store_type store.I32 = I32
store_type store.I32B8 = I32
store_type store.I32B16 = I32
store_type _ = I64

-- how many bytes are written
abbrev pub store_bytes : StoreOp → ℕ
store_bytes store.I32 = 4
store_bytes store.I64 = 8
store_bytes store.I32B8 = 1
store_bytes store.I32B16 = 2
store_bytes store.I64B8 = 1
store_bytes store.I64B16 = 2
store_bytes store.I64B32 = 4

-- there is a memory, and the alignment is at most the access
abbrev pub CanAccess : Module → MemArg → ℕ → Type 0
CanAccess m arg bytes = (mems_of m ≢ []) × (2 ^ arg.align ≤ bytes)

-- plain instructions and calls
abbrev pub Types : Context → Instr → List ValType → List ValType → Type 0
Types c Nop t l = Takes [] [] t l
Types c Drop t l = (k : ValType) × Takes (k ∷ []) [] t l
Types c Select t l = (k : ValType) × Takes (I32 ∷ k ∷ k ∷ []) (k ∷ []) t l
Types c (Call f) t l = (F : FuncType) × (type_of_func c.inside f ≡ Some F) × Takes (reverse F.params) (reverse F.results) t l
Types c (CallIndirect type) t l = (F : FuncType) × (tables_of c.inside ≢ []) × (slice_get c.inside.types type ≡ Some F) × Takes (I32 ∷ reverse F.params) (reverse F.results) t l
Types c (LocalGet x) t l = (k : ValType) × (slice_get c.locals x ≡ Some k) × Takes [] (k ∷ []) t l
Types c (LocalSet x) t l = (k : ValType) × (slice_get c.locals x ≡ Some k) × Takes (k ∷ []) [] t l
Types c (LocalTee x) t l = (k : ValType) × (slice_get c.locals x ≡ Some k) × Takes (k ∷ []) (k ∷ []) t l
Types c (GlobalGet x) t l = (g : GlobalType) × (slice_get (globals_of c.inside) x ≡ Some g) × Takes [] (g.kind ∷ []) t l
Types c (GlobalSet x) t l = (g : GlobalType) × (slice_get (globals_of c.inside) x ≡ Some g) × (g.mutable ≡ true) × Takes (g.kind ∷ []) [] t l
Types c (Load op arg) t l = CanAccess c.inside arg (load_bytes op) × Takes (I32 ∷ []) (load_type op ∷ []) t l
Types c (Store op arg) t l = CanAccess c.inside arg (store_bytes op) × Takes (store_type op ∷ I32 ∷ []) [] t l
Types c MemorySize t l = (mems_of c.inside ≢ []) × Takes [] (I32 ∷ []) t l
Types c MemoryGrow t l = (mems_of c.inside ≢ []) × Takes (I32 ∷ []) (I32 ∷ []) t l
Types c (I32Const n) t l = Takes [] (I32 ∷ []) t l
Types c (I64Const n) t l = Takes [] (I64 ∷ []) t l
Types c (Num op) t l = TypesNum op t l
Types c MemoryCopy t l = (mems_of c.inside ≢ []) × Takes (I32 ∷ I32 ∷ I32 ∷ []) [] t l
Types c MemoryFill t l = (mems_of c.inside ≢ []) × Takes (I32 ∷ I32 ∷ I32 ∷ []) [] t l
Types c _ t l = ⊥
