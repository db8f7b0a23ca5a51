-- Instructions as a listing prints them: the name, and the immediates, each after a space (docs/COMMANDS.md, "What a listing prints").
use Rattle.std.specs.Prelude.{ℕ, List, [], ◌∷◌, ◌++◌, Option, Some, None, codes, decimal}
use Rattle.std.specs.Fmt.{signed_decimal}
use Rattle.std.specs.Int.{cast_signed, w32, w64}
use Rattle.wasm_types.specs.declared.module.ValType.{ValType}
use Rattle.wasm_types.specs.declared.module.ValType.TheVariants as type
use Rattle.wasm_types.specs.declared.ops.Width.{Width}
use Rattle.wasm_types.specs.declared.ops.Width.TheVariants.{W32, W64}
use Rattle.wasm_types.specs.declared.ops.UnOp.{UnOp}
use Rattle.wasm_types.specs.declared.ops.UnOp.TheVariants as un
use Rattle.wasm_types.specs.declared.ops.RelOp.{RelOp}
use Rattle.wasm_types.specs.declared.ops.RelOp.TheVariants as rel
use Rattle.wasm_types.specs.declared.ops.BinOp.{BinOp}
use Rattle.wasm_types.specs.declared.ops.BinOp.TheVariants as bin
use Rattle.wasm_types.specs.declared.ops.LowOp.{LowOp}
use Rattle.wasm_types.specs.declared.ops.LowOp.TheVariants as low
use Rattle.wasm_types.specs.declared.ops.NumOp.{NumOp}
use Rattle.wasm_types.specs.declared.ops.NumOp.TheVariants as num
use Rattle.wasm_types.specs.declared.ops.LoadOp.{LoadOp}
use Rattle.wasm_types.specs.declared.ops.LoadOp.TheVariants as load
use Rattle.wasm_types.specs.declared.ops.StoreOp.{StoreOp}
use Rattle.wasm_types.specs.declared.ops.StoreOp.TheVariants as store
use Rattle.wasm_types.specs.declared.instr.Instr.{Instr}
use Rattle.wasm_types.specs.declared.instr.Instr as instr

abbrev pub type_name : ValType → List ℕ
type_name type.I32 = codes "i32"
type_name type.I64 = codes "i64"
type_name type.F32 = codes "f32"
type_name type.F64 = codes "f64"

-- ---- operations on integers

abbrev pub width_prefix : Width → List ℕ
width_prefix W32 = codes "i32."
width_prefix W64 = codes "i64."

abbrev pub unary_name : UnOp → List ℕ
unary_name un.Clz = codes "clz"
unary_name un.Ctz = codes "ctz"
unary_name un.Popcnt = codes "popcnt"

abbrev pub relation_name : RelOp → List ℕ
relation_name rel.Eq = codes "eq"
relation_name rel.Ne = codes "ne"
relation_name rel.LtS = codes "lt_s"
relation_name rel.LtU = codes "lt_u"
relation_name rel.GtS = codes "gt_s"
relation_name rel.GtU = codes "gt_u"
relation_name rel.LeS = codes "le_s"
relation_name rel.LeU = codes "le_u"
relation_name rel.GeS = codes "ge_s"
relation_name rel.GeU = codes "ge_u"

abbrev pub binary_name : BinOp → List ℕ
binary_name bin.Add = codes "add"
binary_name bin.Sub = codes "sub"
binary_name bin.Mul = codes "mul"
binary_name bin.DivS = codes "div_s"
binary_name bin.DivU = codes "div_u"
binary_name bin.RemS = codes "rem_s"
binary_name bin.RemU = codes "rem_u"
binary_name bin.And = codes "and"
binary_name bin.Or = codes "or"
binary_name bin.Xor = codes "xor"
binary_name bin.Shl = codes "shl"
binary_name bin.ShrS = codes "shr_s"
binary_name bin.ShrU = codes "shr_u"
binary_name bin.Rotl = codes "rotl"
binary_name bin.Rotr = codes "rotr"

abbrev pub extension_name : LowOp → List ℕ
extension_name low.I32S8 = codes "i32.extend8_s"
extension_name low.I32S16 = codes "i32.extend16_s"
extension_name low.I64S8 = codes "i64.extend8_s"
extension_name low.I64S16 = codes "i64.extend16_s"
extension_name low.I64S32 = codes "i64.extend32_s"

abbrev pub operation_name : NumOp → List ℕ
operation_name (num.Eqz w) = width_prefix w ++ codes "eqz"
operation_name (num.Rel w op) = width_prefix w ++ relation_name op
operation_name (num.Un w op) = width_prefix w ++ unary_name op
operation_name (num.Bin w op) = width_prefix w ++ binary_name op
operation_name num.Wrap = codes "i32.wrap_i64"
operation_name num.ExtendS = codes "i64.extend_i32_s"
operation_name num.ExtendU = codes "i64.extend_i32_u"
operation_name (num.Low op) = extension_name op

-- ---- loads and stores

abbrev pub load_name : LoadOp → List ℕ
load_name load.I32 = codes "i32.load"
load_name load.I64 = codes "i64.load"
load_name load.I32S8 = codes "i32.load8_s"
load_name load.I32U8 = codes "i32.load8_u"
load_name load.I32S16 = codes "i32.load16_s"
load_name load.I32U16 = codes "i32.load16_u"
load_name load.I64S8 = codes "i64.load8_s"
load_name load.I64U8 = codes "i64.load8_u"
load_name load.I64S16 = codes "i64.load16_s"
load_name load.I64U16 = codes "i64.load16_u"
load_name load.I64S32 = codes "i64.load32_s"
load_name load.I64U32 = codes "i64.load32_u"

abbrev pub store_name : StoreOp → List ℕ
store_name store.I32 = codes "i32.store"
store_name store.I64 = codes "i64.store"
store_name store.I32B8 = codes "i32.store8"
store_name store.I32B16 = codes "i32.store16"
store_name store.I64B8 = codes "i64.store8"
store_name store.I64B16 = codes "i64.store16"
store_name store.I64B32 = codes "i64.store32"

-- ---- instructions

-- a space and a number
abbrev pub number_after : ℕ → List ℕ
number_after n = codes " " ++ decimal n

abbrev pub numbers_after : List ℕ → List ℕ
numbers_after [] = []
numbers_after (n ∷ ns) = number_after n ++ numbers_after ns

-- a block, loop or if, with its type where it has a result
abbrev pub block_text : List ℕ → Option ValType → List ℕ
block_text name None = name
block_text name (Some kind) = name ++ (codes " " ++ type_name kind)

-- An instruction that holds no others. No module that is listed has a float.
abbrev pub instruction_text : Instr → List ℕ
instruction_text instr.Unreachable = codes "unreachable"
instruction_text instr.Nop = codes "nop"
instruction_text instr.Drop = codes "drop"
instruction_text instr.Select = codes "select"
instruction_text instr.Return = codes "return"
instruction_text (instr.Br l) = codes "br" ++ number_after l
instruction_text (instr.BrIf l) = codes "br_if" ++ number_after l
instruction_text (instr.BrTable labels other) = codes "br_table" ++ (numbers_after labels ++ number_after other)
instruction_text (instr.Call f) = codes "call" ++ number_after f
instruction_text (instr.CallIndirect t) = codes "call_indirect" ++ number_after t
instruction_text (instr.LocalGet x) = codes "local.get" ++ number_after x
instruction_text (instr.LocalSet x) = codes "local.set" ++ number_after x
instruction_text (instr.LocalTee x) = codes "local.tee" ++ number_after x
instruction_text (instr.GlobalGet x) = codes "global.get" ++ number_after x
instruction_text (instr.GlobalSet x) = codes "global.set" ++ number_after x
instruction_text (instr.Load op arg) = load_name op ++ (number_after arg.align ++ number_after arg.offset)
instruction_text (instr.Store op arg) = store_name op ++ (number_after arg.align ++ number_after arg.offset)
instruction_text instr.MemorySize = codes "memory.size"
instruction_text instr.MemoryGrow = codes "memory.grow"
instruction_text (instr.I32Const n) = codes "i32.const " ++ signed_decimal (cast_signed w32 n)
instruction_text (instr.I64Const n) = codes "i64.const " ++ signed_decimal (cast_signed w64 n)
instruction_text (instr.Num op) = operation_name op
instruction_text instr.MemoryCopy = codes "memory.copy"
instruction_text instr.MemoryFill = codes "memory.fill"
instruction_text _ = []

-- an instruction without the labels of a table
abbrev pub front_text : Instr → List ℕ
front_text (instr.BrTable labels other) = codes "br_table"
front_text i = instruction_text i
