-- Small modules: i32 alone, and four instructions without blocks.
use Rattle.std.specs.Prelude.{◌≡◌, All}
use Rattle.wasm_types.specs.declared.ops.NumOp.TheVariants.{Bin}
use Rattle.wasm_types.specs.declared.ops.Width.TheVariants.{W32}
use Rattle.wasm_types.specs.declared.ops.BinOp.TheVariants.{Add}
use Rattle.wasm_types.specs.declared.module.ValType.{ValType}
use Rattle.wasm_types.specs.declared.module.ValType.TheVariants.{I32}
use Rattle.wasm_types.specs.declared.module.FuncType.{FuncType}
use Rattle.wasm_types.specs.declared.module.LocalRun.{LocalRun}
use Rattle.wasm_types.specs.declared.module.Body.{Body}
use Rattle.wasm_types.specs.declared.module.Module.{Module}
use Rattle.wasm_types.specs.declared.instr.Instr.{Instr, Drop, LocalGet, I32Const, Num}
use Rattle.wasm_types.specs.Code.{Code, done, one, code_of}

abbrev pub IsI32 : ValType → Type 0
IsI32 t = t ≡ I32

abbrev pub IsSmallInstr : Instr → Type 0
IsSmallInstr Drop = Unit {0}
IsSmallInstr (LocalGet x) = Unit {0}
IsSmallInstr (I32Const n) = Unit {0}
IsSmallInstr (Num (Bin W32 Add)) = Unit {0}
IsSmallInstr _ = ⊥

abbrev pub IsSmallCode : Code → Type 0
IsSmallCode done = Unit {0}
IsSmallCode (one i rest) = IsSmallInstr i × IsSmallCode rest
IsSmallCode _ = ⊥

abbrev pub IsSmallType : FuncType → Type 0
IsSmallType t = All IsI32 t.params × All IsI32 t.results

abbrev pub IsSmallBody : Body → Type 0
IsSmallBody b = All (λ (r : LocalRun). IsI32 r.kind) b.locals × IsSmallCode (code_of b.code)

-- all value types are i32, and the instructions are those four
abbrev pub IsSmall : Module → Type 0
IsSmall m = All IsSmallType m.types × All IsSmallBody m.bodies
