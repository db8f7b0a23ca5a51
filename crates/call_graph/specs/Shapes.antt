-- Function types as lists of numbers: the parameters, a 4, and the results.
use Rattle.std.specs.Prelude.{ℕ, List, ◌∷◌, ◌++◌, map}
use Rattle.wasm_types.specs.declared.module.ValType.{ValType}
use Rattle.wasm_types.specs.declared.module.ValType.TheVariants.{I32, I64, F32, F64}
use Rattle.wasm_types.specs.declared.module.FuncType.{FuncType}

abbrev pub number_of : ValType → ℕ
number_of I32 = 0
number_of I64 = 1
number_of F32 = 2
number_of F64 = 3

abbrev pub shape_of : FuncType → List ℕ
shape_of t = map number_of t.params ++ 4 ∷ map number_of t.results
