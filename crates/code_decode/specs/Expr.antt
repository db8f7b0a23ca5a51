-- What reading an expression answers.
use Rattle.std.specs.Prelude.{ℕ, ◌≤◌, ◌<◌, List, Result, Ok, Err}
use Rattle.wasm_types.specs.declared.instr.Instr.{Instr}
use Rattle.wasm_types.specs.Code.{code_of, nest}
use Rattle.wasm_types.specs.Standing.{Stands, NoneStands}
use Rattle.wasm_types.specs.Grammar.{SpellsInstrs}
use Rattle.wasm_types.specs.Subset.{most_nesting}
use Rattle.code_decode.specs.declared.expr.CodeRefusal.{CodeRefusal}
use Rattle.code_decode.specs.declared.expr.CodeRefusal.TheVariants as refusal

-- The expression that stands at the place, if one does and nests within the limit. One that nests deeper is told by its end.
abbrev pub ReadsExpr : List ℕ → ℕ → Result (List Instr × ℕ) CodeRefusal → Type 0
ReadsExpr bytes start (Ok found) = Stands SpellsInstrs bytes start found.1 found.0 × (nest (code_of found.0) ≤ most_nesting)
ReadsExpr bytes start (Err refusal.Malformed) = NoneStands SpellsInstrs bytes start
ReadsExpr bytes start (Err (refusal.TooDeep next)) = (is : List Instr) × Stands SpellsInstrs bytes start next is × (most_nesting < nest (code_of is))
ReadsExpr bytes start (Err refusal.Memory) = Unit {0}
