-- A module has one answer to `summary`, and some.
use Rattle.std.proofs.Common.{◌≡◌, ℕ, refl, sym, ap, ◌∙◌}
use Rattle.std.specs.declared.option.Option.{Option}
use Rattle.report_text.specs.SummaryTexts.{summary_lines}
use Rattle.wasm_types.specs.declared.module.Module.{Module}
use Rattle.wasm_types.specs.Subset.{IsSealed}
use Rattle.wassail_top.specs.Answers.{IsSummaryOf, bytes_alone}
use Rattle.wassail_top.specs.Queries.{why_no_summary}
use Rattle.wassail_top.specs.Refusals.{Answer}
use Rattle.wassail_top.specs.RunAnswers.{AnswersUnless}
use Rattle.wassail_top.specs.Summaries.{RowTest}
use Rattle.slice_whole.proofs.NotRefuted.{NotRefuted}
use Rattle.wassail_top.proofs.OneRows.{one_rows}
use Rattle.wassail_top.proofs.OneSlice.{one_unless}
use Rattle.wassail_top.proofs.SomeRows.{some_rows}
use Rattle.wassail_top.proofs.SomeSlice.{some_unless}

one_summary : (m : Module) (only : Option ℕ) (a b : Answer) → IsSummaryOf m only a → IsSummaryOf m only b → a ≡ b
one_summary m only a b p q = p.is ∙ ap (λ (R : RowTest). bytes_alone (summary_lines m R only)) (one_rows m p.rows q.rows p.are q.are) ∙ sym q.is

pub one_summary_answer : (m : Module) (only : Option ℕ) (a b : Answer)
    → AnswersUnless (why_no_summary m only) (IsSummaryOf m only) a → AnswersUnless (why_no_summary m only) (IsSummaryOf m only) b → a ≡ b
one_summary_answer m only = one_unless (why_no_summary m only) (IsSummaryOf m only) (one_summary m only)

some_summary : (m : Module) (only : Option ℕ) → IsSealed m → NotRefuted ((answer : Answer) × IsSummaryOf m only answer)
some_summary m only sealed never =
    some_rows m sealed (λ found. never (bytes_alone (summary_lines m found.0 only), record { rows = found.0; are = found.1; is = refl }))

pub some_summary_answer : (m : Module) (only : Option ℕ) → IsSealed m
    → NotRefuted ((answer : Answer) × AnswersUnless (why_no_summary m only) (IsSummaryOf m only) answer)
some_summary_answer m only sealed = some_unless (why_no_summary m only) (IsSummaryOf m only) (λ none. some_summary m only sealed)
