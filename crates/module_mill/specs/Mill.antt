-- A large module from a number (docs/FORMAT.md).
use Rattle.std.specs.Prelude.{ℕ, zero, suc, ◌-◌, ◌%◌, ◌==◌, if◌then◌else◌, List, [], ◌∷◌, ◌++◌, replicate, None, true}
use Rattle.wasm_types.specs.declared.module.ValType.TheVariants as type
use Rattle.wasm_types.specs.declared.module.FuncType.{FuncType}
use Rattle.wasm_types.specs.declared.module.GlobalDef.{GlobalDef}
use Rattle.wasm_types.specs.declared.module.Body.{Body}
use Rattle.wasm_types.specs.declared.module.Module.{Module}
use Rattle.wasm_types.specs.declared.ops.Width.TheVariants.{W32}
use Rattle.wasm_types.specs.declared.ops.BinOp.{BinOp}
use Rattle.wasm_types.specs.declared.ops.BinOp.TheVariants as bin
use Rattle.wasm_types.specs.declared.ops.NumOp.TheVariants.{Bin, Eqz}
use Rattle.wasm_types.specs.declared.ops.StoreOp.TheVariants as store
use Rattle.wasm_types.specs.declared.instr.Instr.{Instr, Br, BrIf, Call, LocalGet, LocalSet, GlobalGet, GlobalSet, Store, I32Const, Num}
use Rattle.wasm_types.specs.declared.instr.Instr.TheVariants.{Block, Loop}

-- what stands at the numbers below n
abbrev pub below : {A : Type 0} → (ℕ → A) → ℕ → List A
below f zero = []
below f (suc n) = below f n ++ f n ∷ []

-- every function is `(i32 i32) -> i32`
abbrev pub func_type : FuncType
func_type = record { params = type.I32 ∷ type.I32 ∷ []; results = type.I32 ∷ [] }

-- a mutable i32 global that begins with 0
abbrev pub counter : GlobalDef
counter = record { kind = record { kind = type.I32; mutable = true }; init = I32Const 0 ∷ [] }

abbrev pub binary : BinOp → Instr
binary op = Num (Bin W32 op)

-- global c grows by the first argument
abbrev pub adds : ℕ → List Instr
adds c = GlobalGet c ∷ LocalGet 0 ∷ binary bin.Add ∷ GlobalSet c ∷ []

-- the second argument is stored at the first one, brought below 65,536
abbrev pub stores : List Instr
stores = LocalGet 0 ∷ I32Const 65532 ∷ binary bin.And ∷ LocalGet 1 ∷ Store store.I32 (record { align = 2; offset = 0 }) ∷ []

-- one lap of a loop: local 2 goes down by one, where it isn't 0
abbrev pub lap : List Instr
lap = LocalGet 2 ∷ Num (Eqz W32) ∷ BrIf 1 ∷ LocalGet 2 ∷ I32Const 1 ∷ binary bin.Sub ∷ LocalSet 2 ∷ Br 0 ∷ []

-- local 2 counts down from k
abbrev pub counts : ℕ → List Instr
counts k = I32Const k ∷ LocalSet 2 ∷ Block None (Loop None lap ∷ []) ∷ []

-- what function k does by itself
abbrev pub work : ℕ → List Instr
work k = if k % 3 == 0 then adds (k % 4) else (if k % 3 == 1 then stores else counts k)

-- function j is called with the arguments exchanged, and its result is the first argument from then on
abbrev pub call : ℕ → List Instr
call j = LocalGet 1 ∷ LocalGet 0 ∷ Call j ∷ LocalSet 0 ∷ []

-- function k calls the one before it, where there is one
abbrev pub calls : ℕ → List Instr
calls k = if k == 0 then [] else call (k - 1)

-- it leaves the sum of both arguments
abbrev pub sum : List Instr
sum = LocalGet 0 ∷ LocalGet 1 ∷ binary bin.Add ∷ []

abbrev pub code : ℕ → List Instr
code k = work k ++ calls k ++ sum

-- besides the arguments it has local 2
abbrev pub body : ℕ → Body
body k = record { locals = record { count = 1; kind = type.I32 } ∷ []; code = code k }

-- n functions, a memory of one page and four globals
abbrev pub mill : ℕ → Module
mill n = record {
  types = func_type ∷ [];
  imports = [];
  funcs = replicate n 0;
  tables = [];
  mems = record { min = 1; max = None } ∷ [];
  globals = replicate 4 counter;
  exports = [];
  start = None;
  elems = [];
  bodies = below body n;
  segments = [];
  names = None;
}
