-- A module's own functions, as the meaning and the analyses read them.
use Rattle.std.specs.Prelude.{ℕ, Bool, false, List, Option, Some, None, length}
use Rattle.wasm_types.specs.declared.module.ValType.{ValType}
use Rattle.wasm_types.specs.declared.module.FuncType.{FuncType}
use Rattle.wasm_types.specs.declared.module.Body.{Body}
use Rattle.wasm_types.specs.declared.module.Module.{Module}
use Rattle.wasm_types.specs.Code.{Code, code_of}
use Rattle.wasm_types.specs.Marked.{Marked, marked}
use Rattle.wasm_types.specs.Spaces.{type_of_func, body_of, run_types}

-- an own function: its numbers of parameters and results, the types of its other locals, and its code
pub record Func : Type 0 where
  pub params : ℕ
  pub results : ℕ
  pub locals : List ValType
  pub code : Code

abbrev pub func_from : Option FuncType → Option Body → Option Func
func_from (Some t) (Some b) = Some (record { params = length t.params; results = length t.results; locals = run_types b.locals; code = code_of b.code })
func_from _ _ = None

-- the function of a number, where it is the module's own
abbrev pub func_of : Module → ℕ → Option Func
func_of m f = func_from (type_of_func m f) (body_of m f)

abbrev pub unwatched : ℕ → Bool
unwatched p = false

-- its code, with nothing watched
abbrev pub text : Func → Marked
text F = marked unwatched 0 F.code
