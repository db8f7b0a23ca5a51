-- The type of what an instruction that goes on to the next one leaves (docs/VALIDITY.md). Where the instruction is not valid the type is any.
use Rattle.std.specs.Prelude.{ℕ, zero, suc, ◌-◌, List, length, Option, Some, None, slice_get}
use Rattle.wasm_types.specs.declared.ops.NumOp.{NumOp}
use Rattle.wasm_types.specs.declared.ops.NumOp.TheVariants as num
use Rattle.wasm_types.specs.declared.module.ValType.{ValType}
use Rattle.wasm_types.specs.declared.module.ValType.TheVariants.{I32, I64}
use Rattle.wasm_types.specs.declared.module.FuncType.{FuncType}
use Rattle.wasm_types.specs.declared.module.GlobalType.{GlobalType}
use Rattle.wasm_types.specs.declared.module.Module.{Module}
use Rattle.wasm_types.specs.declared.instr.Instr.{Instr}
use Rattle.wasm_types.specs.declared.instr.Instr as instr
use Rattle.wasm_types.specs.Spaces.{type_of_func, globals_of}
use Rattle.wasm_types.specs.Typing.{type_of_width, low_type, load_type}
use Rattle.stack_names.specs.declared.place.Place.{Place}

-- what is left where so many values are
abbrev pub left : ℕ → ValType → Option ValType
left zero k = None
left (suc n) k = Some k

abbrev pub kind_or : Option Place → ValType
kind_or None = I32
kind_or (Some pl) = pl.kind

abbrev pub type_or : Option ValType → ValType
type_or None = I32
type_or (Some k) = k

abbrev pub result_or : Option FuncType → ValType
result_or None = I32
result_or (Some F) = type_or (slice_get F.results 0)

abbrev pub value_or : Option GlobalType → ValType
value_or None = I32
value_or (Some g) = g.kind

abbrev pub num_left : NumOp → ValType
num_left (num.Un w op) = type_of_width w
num_left (num.Bin w op) = type_of_width w
num_left num.ExtendS = I64
num_left num.ExtendU = I64
num_left (num.Low op) = low_type op
num_left _ = I32

-- on this stack
abbrev pub left_type : Module → List ValType → Instr → List Place → ValType
left_type m locals instr.Select s = kind_or (slice_get s (length s - 2))
left_type m locals (instr.Call f) s = result_or (type_of_func m f)
left_type m locals (instr.CallIndirect type) s = result_or (slice_get m.types type)
left_type m locals (instr.LocalGet x) s = type_or (slice_get locals x)
left_type m locals (instr.LocalTee x) s = type_or (slice_get locals x)
left_type m locals (instr.GlobalGet x) s = value_or (slice_get (globals_of m) x)
left_type m locals (instr.Load op arg) s = load_type op
left_type m locals (instr.I64Const n) s = I64
left_type m locals (instr.Num op) s = num_left op
left_type m locals _ s = I32
