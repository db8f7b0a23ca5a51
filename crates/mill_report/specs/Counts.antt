-- How many inputs the rows of a module have, and how many positions its bodies (docs/COMMANDS.md, "What mill tells").
use Rattle.std.specs.Prelude.{ℕ, zero, suc, ◌+◌, Bool, List, Option, Some, None, count_by, sum_by}
use Rattle.wasm_types.specs.declared.module.Body.{Body}
use Rattle.wasm_types.specs.declared.module.FuncType.{FuncType}
use Rattle.wasm_types.specs.declared.module.Module.{Module}
use Rattle.wasm_types.specs.Sizes.{positions}
use Rattle.wasm_types.specs.Spaces.{type_of_func}
use Rattle.flow_domain.specs.declared.summary.Input.{Input}
use Rattle.flow_domain.specs.declared.summary.Output.{Output as Asked}
use Rattle.report_text.specs.SummaryTexts.{inputs_of, outputs_of}

-- how many of these inputs stand in the rows of these outputs together
abbrev pub row_inputs : (Asked → Input → Bool) → List Asked → List Input → ℕ
row_inputs R outputs inputs = sum_by (λ o. count_by (R o) inputs) outputs

-- how many stand in the rows of a function of this type
abbrev pub function_inputs : Module → (Asked → Input → Bool) → Option FuncType → ℕ
function_inputs m R None = 0
function_inputs m R (Some t) = row_inputs R (outputs_of m t) (inputs_of m t)

-- of the first n functions
abbrev pub inputs_below : Module → (ℕ → Asked → Input → Bool) → ℕ → ℕ
inputs_below m R zero = 0
inputs_below m R (suc f) = inputs_below m R f + function_inputs m (R f) (type_of_func m f)

-- the positions of all bodies together
abbrev pub all_positions : Module → ℕ
all_positions m = sum_by (λ (b : Body). positions b.code) m.bodies
