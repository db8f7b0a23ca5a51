-- Rows as tests, and what a module has few of.
use Rattle.std.proofs.Common.{◌≡◌, ℕ, ◌+◌, ◌*◌, ◌/◌, ◌%◌, ◌^◌, ◌<◌, ◌↔◌, List, Option, Some, None, length, refl, sym, ◌∙◌, subst, arith, eq-eqb}
use Rattle.std.specs.Prelude.{IsTrue, slice_get, slice_index}
use Rattle.std.specs.Int.{bit_at}
use Rattle.std.proofs.lemmas.Bool.{eqb-true}
use Rattle.std.proofs.lemmas.Option.{same_Some}
use Rattle.wasm_types.specs.declared.module.Module.{Module}
use Rattle.wasm_types.specs.declared.place.LimitKind.TheVariants as limit
use Rattle.wasm_types.specs.Spaces.{func_types, globals_of}
use Rattle.wasm_types.specs.Subset.{IsSealed}
use Rattle.flow_domain.specs.declared.summary.Input.{Input}
use Rattle.flow_domain.specs.declared.summary.Output.{Output as Asked}
use Rattle.flow_domain.specs.declared.summary.Summary.{Summary}
use Rattle.flow_domain.specs.declared.summary_table.SummaryTable.{SummaryTable}
use Rattle.flow_domain.specs.Summaries.{HasInput, IsSet, TableRows, asked, place_of, row_number, column_number, word_count}
use Rattle.report_text.specs.SummaryTexts.{has_bit, has_input, rows_in, rows_of}

-- ---- rows

is_set : (words : ℕ) (bits : List ℕ) (row column : Option ℕ) → IsTrue (has_bit words bits row column) ↔ IsSet words bits row column
is_set words bits None column = (λ t. cc, λ h. absurd h)
is_set words bits (Some row) None = (λ t. cc, λ h. absurd h)
is_set words bits (Some row) (Some column) =
    let bit : ℕ = bit_at (slice_index bits (row * words + column / 64)) (column % 64) in (λ t. eqb-true bit 1 t, λ h. eq-eqb bit 1 h)

has_exact : (s : Summary) (o : Asked) (i : Input) → IsTrue (has_input s o i) ↔ HasInput s (asked o) (place_of i)
has_exact s o i = is_set (word_count s.globals s.params) s.bits.items (row_number s.globals (asked o)) (column_number s.globals s.params (place_of i))

rows_exact : (f : ℕ) (t : SummaryTable) (o : Asked) (i : Input) (found : Option Summary) → slice_get t.rows.items f ≡ found
    → IsTrue (rows_of found o i) ↔ TableRows t f (asked o) (place_of i)
rows_exact f t o i None is = (λ h. cc, λ (s, (at, h)). let off = sym is ∙ at in cc)
rows_exact f t o i (Some s) is = (
  λ h. (s, (is, (has_exact s o i).0 h)),
  λ (z, (at, h)). (has_exact s o i).1 (subst (λ (y : Summary). HasInput y (asked o) (place_of i)) (same_Some z s (sym at ∙ is)) h),
)

-- the test is true exactly where the table has the rows
pub rows_in_exact : (t : SummaryTable) (f : ℕ) (o : Asked) (i : Input) → IsTrue (rows_in t f o i) ↔ TableRows t f (asked o) (place_of i)
rows_in_exact t f o i = rows_exact f t o i (slice_get t.rows.items f) refl

-- ---- numbers

pub few_functions : (m : Module) → IsSealed m → length (func_types m) < 2 ^ 32
few_functions m sealed = let le = sealed.limits limit.Functions 0 (length (func_types m)) (refl, refl) in omega (arith, le)

pub few_globals : (m : Module) → IsSealed m → length (globals_of m) < 2 ^ 32
few_globals m sealed = let le = sealed.limits limit.Globals 0 (length (globals_of m)) (refl, refl) in omega (arith, le)
