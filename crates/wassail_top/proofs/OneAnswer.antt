-- Words and the bytes of a source have at most one answer.
use Rattle.std.proofs.Common.{◌≡◌, ◌≤◌, ℕ, List, length, sym, ◌∙◌, subst, inl, inr, None, Some, Err}
use Rattle.std.specs.declared.option.Option.{Option}
use Rattle.report_text.specs.declared.refusal.Refusal.TheVariants as refusal
use Rattle.wasm_types.specs.declared.module.Module.{Module}
use Rattle.text_laws.proofs.ModuleLemmas.{one_module}
use Rattle.module_mill.specs.Mill.{mill}
use Rattle.wasm_decode.specs.Decode.{Decodes}
use Rattle.wasm_validate.specs.Admission.{IsAdmitted, Refuses}
use Rattle.wassail_top.specs.Answers.{Answers, AnswersOrder, AnswersBytes, AnswersModule, AnswersAdmitted, IsReportOf, most_bytes}
use Rattle.wassail_top.specs.Orders.{Order}
use Rattle.wassail_top.specs.Orders.Order.{check, rewrite, list, summary, kept, slice, run, trace}
use Rattle.wassail_top.specs.Refusals.{Answer, why_not_decoded, why_not_admitted}
use Rattle.wassail_top.specs.Queries.{positions_of, why_no_slice, why_not_kept, why_not_milled, why_not_run, why_not_traced}
use Rattle.wassail_top.specs.RunAnswers.{AnswersUnless}
use Rattle.wassail_top.specs.Words.{mill_of, order_of}
use Rattle.wassail_top.proofs.Causes.{one_refused}
use Rattle.wassail_top.proofs.OneAdmission as admission
use Rattle.wassail_top.proofs.OneAdmission.{admitted_not_refused}
use Rattle.wassail_top.proofs.OneDecoding as decoding
use Rattle.wassail_top.proofs.OneDecoding.{decoded_not_refused}
use Rattle.wassail_top.proofs.MillWords.{not_both}
use Rattle.wassail_top.proofs.OneSlice.{one_kept_answer, one_slice_answer}
use Rattle.wassail_top.proofs.Reading.{all_taken, not_long}
use Rattle.wassail_top.proofs.ReportAnswers.{one_milled}
use Rattle.wassail_top.proofs.RunLemmas.{one_run_answer}
use Rattle.wassail_top.proofs.SummaryAnswers.{one_summary_answer}

of_admitted : (order : Order) (m : Module) → IsAdmitted m → (a b : Answer) → AnswersAdmitted order m a → AnswersAdmitted order m b → a ≡ b
of_admitted check m admitted a b p q = p ∙ sym q
of_admitted rewrite m admitted a b p q = p ∙ sym q
of_admitted (list func) m admitted a b p q = p ∙ sym q
of_admitted (summary only) m admitted a b p q = one_summary_answer m only a b p q
of_admitted (kept func at) m admitted a b p q = one_kept_answer m func at (why_not_kept m func at) a b p q
of_admitted (slice func at name) m admitted a b p q = one_slice_answer m func at name admitted (why_no_slice m func at name) a b p q
of_admitted (run func budget args replies) m admitted a b p q = one_run_answer m func (positions_of m func) budget args replies (why_not_run m func args) a b p q
of_admitted (trace func at budget args replies) m admitted a b p q = one_run_answer m func at budget args replies (why_not_traced m func at args) a b p q

of_module : (order : Order) (m : Module) (a b : Answer) → AnswersModule order m a → AnswersModule order m b → a ≡ b
of_module order m a b (inl p) (inl q) = one_refused refusal.Module (Refuses m) why_not_admitted a b (admission.one_end m) p q
of_module order m a b (inl p) (inr q) = absurd (admitted_not_refused m a q.0 p)
of_module order m a b (inr p) (inl q) = absurd (admitted_not_refused m b p.0 q)
of_module order m a b (inr p) (inr q) = of_admitted order m p.0 a b p.1 q.1

of_bytes : (order : Order) (bytes : List ℕ) (a b : Answer) → AnswersBytes order bytes a → AnswersBytes order bytes b → a ≡ b
of_bytes order bytes a b (inl p) (inl q) = one_refused refusal.Module (λ end. Decodes bytes (Err end)) why_not_decoded a b (decoding.one_end bytes) p q
of_bytes order bytes a b (inl p) (inr q) = absurd (decoded_not_refused bytes q.0 a q.1 p)
of_bytes order bytes a b (inr p) (inl q) = absurd (decoded_not_refused bytes p.0 b p.1 q)
of_bytes order bytes a b (inr p) (inr q) =
    of_module order p.0 a b p.2 (subst (λ m. AnswersModule order m b) (sym (one_module bytes p.0 q.0 p.1.0 q.1.0)) q.2)

of_order : (order : Order) (bytes : List ℕ) (x y : Option (List ℕ)) (a b : Answer)
    → AnswersOrder order (Some bytes) x a → AnswersOrder order (Some bytes) y b → a ≡ b
of_order order bytes x y a b (inl p) (inl q) = p.1 ∙ sym q.1
of_order order bytes x y a b (inl p) (inr q) = absurd (not_long bytes x p.0 (subst (λ l. length l ≤ most_bytes) (all_taken bytes y q.0 q.1) q.2))
of_order order bytes x y a b (inr p) (inl q) = absurd (not_long bytes y q.0 (subst (λ l. length l ≤ most_bytes) (all_taken bytes x p.0 p.1) p.2))
of_order order bytes x y a b (inr p) (inr q) =
    let same : p.0 ≡ q.0 = all_taken bytes x p.0 p.1 ∙ sym (all_taken bytes y q.0 q.1) in
    of_bytes order p.0 a b p.3 (subst (λ l. AnswersBytes order l b) (sym same) q.3)

pub one_answer : (words : List (List ℕ)) (bytes : List ℕ) (x y : Option (List ℕ)) (a b : Answer)
    → Answers words (Some bytes) x a → Answers words (Some bytes) y b → a ≡ b
one_answer words bytes x y a b (inl p) (inl q) = p.1 ∙ sym q.1
one_answer words bytes x y a b (inl p) (inr (inl q)) =
    let none : order_of words ≡ None = p.0.0 in let some : order_of words ≡ Some q.0 = q.1 in cc
one_answer words bytes x y a b (inl p) (inr (inr q)) =
    let none : mill_of words ≡ None = p.0.1 in let some : mill_of words ≡ Some q.0 = q.1 in cc
one_answer words bytes x y a b (inr (inl p)) (inl q) =
    let none : order_of words ≡ None = q.0.0 in let some : order_of words ≡ Some p.0 = p.1 in cc
one_answer words bytes x y a b (inr (inr p)) (inl q) =
    let none : mill_of words ≡ None = q.0.1 in let some : mill_of words ≡ Some p.0 = p.1 in cc
one_answer words bytes x y a b (inr (inl p)) (inr (inr q)) = absurd (not_both words p.0 q.0 p.1 q.1)
one_answer words bytes x y a b (inr (inr p)) (inr (inl q)) = absurd (not_both words q.0 p.0 q.1 p.1)
one_answer words bytes x y a b (inr (inr p)) (inr (inr q)) =
    let first : mill_of words ≡ Some p.0 = p.1 in
    let second : mill_of words ≡ Some q.0 = q.1 in
    let same : p.0 ≡ q.0 = cc in
    one_milled p.0 a b p.3 (subst (λ (n : ℕ). AnswersUnless (why_not_milled n) (IsReportOf (mill n)) b) (sym same) q.3)
one_answer words bytes x y a b (inr (inl p)) (inr (inl q)) =
    let first : order_of words ≡ Some p.0 = p.1 in
    let second : order_of words ≡ Some q.0 = q.1 in
    let same : p.0 ≡ q.0 = cc in
    of_order p.0 bytes x y a b p.2 (subst (λ c. AnswersOrder c (Some bytes) y b) (sym same) q.2)
