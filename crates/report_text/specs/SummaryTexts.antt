-- The text of summaries (docs/COMMANDS.md, "What a summary prints"), byte by byte.
use Rattle.std.specs.Prelude.{ℕ, zero, suc, ◌+◌, ◌*◌, ◌/◌, ◌%◌, Bool, true, false, if◌then◌else◌, List, [], ◌∷◌, ◌++◌, length, Option, Some, None, codes, decimal, filter, nat_eq, nat_lt, slice_get, slice_index}
use Rattle.std.specs.Int.{bit_at}
use Rattle.wasm_types.specs.declared.module.FuncType.{FuncType}
use Rattle.wasm_types.specs.declared.module.GlobalType.{GlobalType}
use Rattle.wasm_types.specs.declared.module.Module.{Module}
use Rattle.wasm_types.specs.Spaces.{func_types, globals_of, import_count, mems_of, type_of_func}
use Rattle.flow_domain.specs.declared.summary.Input.{Input}
use Rattle.flow_domain.specs.declared.summary.Input.TheVariants as inp
use Rattle.flow_domain.specs.declared.summary.Output.{Output as Asked}
use Rattle.flow_domain.specs.declared.summary.Output.TheVariants as out
use Rattle.flow_domain.specs.declared.summary.Summary.{Summary}
use Rattle.flow_domain.specs.declared.summary_table.SummaryTable.{SummaryTable}
use Rattle.flow_domain.specs.Summaries.{asked, column_number, place_of, row_number, word_count}

-- ---- rows as tests

-- whether the bit at a row and a column is set, where there are both
abbrev pub has_bit : ℕ → List ℕ → Option ℕ → Option ℕ → Bool
has_bit words bits (Some row) (Some column) = nat_eq (bit_at (slice_index bits (row * words + column / 64)) (column % 64)) 1
has_bit words bits _ _ = false

abbrev pub has_input : Summary → Asked → Input → Bool
has_input s o i = has_bit (word_count s.globals s.params) s.bits.items (row_number s.globals (asked o)) (column_number s.globals s.params (place_of i))

-- a function without a summary depends on nothing
abbrev pub rows_of : Option Summary → Asked → Input → Bool
rows_of (Some s) = has_input s
rows_of None = λ o i. false

-- what the rows of a table say: that output o of function f may depend on input i
abbrev pub rows_in : SummaryTable → ℕ → Asked → Input → Bool
rows_in t f = rows_of (slice_get t.rows.items f)

-- ---- lines

abbrev pub input_text : Input → List ℕ
input_text (inp.Param k) = codes "p" ++ decimal k
input_text (inp.Global k) = codes "g" ++ decimal k
input_text inp.Mem = codes "mem"
input_text inp.Size = codes "size"
input_text inp.Host = codes "host"

abbrev pub output_text : Asked → List ℕ
output_text out.Ret = codes "result"
output_text (out.Global k) = codes "g" ++ decimal k
output_text out.Mem = codes "mem"
output_text out.Size = codes "size"
output_text out.Host = codes "host"
output_text out.Done = codes "done"

abbrev pub inputs_after : List Input → List ℕ
inputs_after [] = []
inputs_after (i ∷ is) = codes " " ++ (input_text i ++ inputs_after is)

-- an output of function f, and the inputs of its row
abbrev pub row_line : ℕ → Asked → List Input → List ℕ
row_line f o is = codes "f " ++ (decimal f ++ (codes " " ++ (output_text o ++ (codes " <-" ++ (inputs_after is ++ codes "\n")))))

-- a line for each output, with those of the inputs that it may depend on
abbrev pub row_lines : (Asked → Input → Bool) → ℕ → List Input → List Asked → List ℕ
row_lines R f is [] = []
row_lines R f is (o ∷ os) = row_line f o (filter (R o) is) ++ row_lines R f is os

-- ---- outputs and inputs

abbrev pub only_if : Bool → List Asked → List Asked
only_if test os = if test then os else []

-- the globals that can be set, of those that are numbered from k on
abbrev pub mutable_from : ℕ → List GlobalType → List Asked
mutable_from k [] = []
mutable_from k (g ∷ gs) = only_if g.mutable (out.Global k ∷ []) ++ mutable_from (k + 1) gs

abbrev pub has_some : {A : Type 0} → List A → Bool
has_some [] = false
has_some (x ∷ xs) = true

-- what each function of a module leaves besides its result
abbrev pub common_outputs : Module → List Asked
common_outputs m =
    mutable_from 0 (globals_of m)
    ++ (only_if (has_some (mems_of m)) (out.Mem ∷ out.Size ∷ [])
    ++ (only_if (nat_lt 0 (import_count m)) (out.Host ∷ []) ++ out.Done ∷ []))

abbrev pub outputs_of : Module → FuncType → List Asked
outputs_of m t = only_if (has_some t.results) (out.Ret ∷ []) ++ common_outputs m

-- the first n
abbrev pub numbered : (ℕ → Input) → ℕ → List Input
numbered which zero = []
numbered which (suc n) = numbered which n ++ which n ∷ []

-- what each function of a module begins with besides its parameters
abbrev pub common_inputs : Module → List Input
common_inputs m = numbered inp.Global (length (globals_of m)) ++ inp.Mem ∷ inp.Size ∷ inp.Host ∷ []

abbrev pub inputs_of : Module → FuncType → List Input
inputs_of m t = numbered inp.Param (length t.params) ++ common_inputs m

-- ---- functions

abbrev pub function_lines : Module → (ℕ → Asked → Input → Bool) → ℕ → Option FuncType → List ℕ
function_lines m R f None = []
function_lines m R f (Some t) = row_lines (R f) f (inputs_of m t) (outputs_of m t)

-- of the first n functions
abbrev pub lines_below : Module → (ℕ → Asked → Input → Bool) → ℕ → List ℕ
lines_below m R zero = []
lines_below m R (suc n) = lines_below m R n ++ function_lines m R n (type_of_func m n)

-- the lines of all functions, or of one alone
abbrev pub summary_lines : Module → (ℕ → Asked → Input → Bool) → Option ℕ → List ℕ
summary_lines m R None = lines_below m R (length (func_types m))
summary_lines m R (Some f) = function_lines m R f (type_of_func m f)
