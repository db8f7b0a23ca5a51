-- A command that refuses no module of a kind has an answer to each, of status 0 or that of the run, where the bytes of the source are known and it didn't
-- fail.
use Rattle.std.proofs.Common.{◌≡◌, ◌≤◌, ℕ, List, length, sym, ap, ◌∙◌, subst, inl, inr, None, Some, Ok}
use Rattle.std.specs.declared.option.Option.{Option}
use Rattle.outside_io.specs.Causes.{Rose}
use Rattle.report_text.specs.Listing.{listing}
use Rattle.wasm_types.specs.declared.module.Module.{Module}
use Rattle.text_laws.proofs.ModuleLemmas.{one_module}
use Rattle.module_mill.specs.Mill.{mill}
use Rattle.wasm_decode.specs.Decode.{Decodes}
use Rattle.wasm_validate.specs.Admission.{IsAdmitted}
use Rattle.wassail_top.specs.Answers.{AnswersOrder, AnswersBytes, AnswersModule, AnswersAdmitted, HasStatus, IsDue, IsKeptAs, IsReportOf, IsSlicedAs, IsSummaryOf, IsTaken, bytes_alone, most_bytes}
use Rattle.wassail_top.specs.Orders.{Order}
use Rattle.wassail_top.specs.Orders.Order.{check, rewrite, list, summary, kept, slice, run, trace}
use Rattle.wassail_top.specs.Refusals.{Answer, unless_refused}
use Rattle.wassail_top.specs.Queries.{positions_of, why_not_milled, why_not_run, why_not_traced}
use Rattle.wassail_top.specs.RunAnswers.{AnswersUnless}
use Rattle.wassail_top.specs.Words.{mill_of, order_of}
use Rattle.wassail_top.proofs.OneAdmission.{admitted_not_refused}
use Rattle.wassail_top.proofs.OneDecoding.{decoded_not_refused}
use Rattle.wassail_top.proofs.MillWords.{not_both}
use Rattle.wassail_top.proofs.Reading.{all_taken, not_long}
use Rattle.wassail_top.proofs.RunLemmas.{status_of_run}

of_admitted : (order : Order) (m : Module) (answer : Answer) → IsTaken order m → AnswersAdmitted order m answer → HasStatus order m answer.status
of_admitted check m answer takes h = ap (λ (a : Answer). a.status) h
of_admitted rewrite m answer takes h = ap (λ (a : Answer). a.status) h
of_admitted (list func) m answer takes h =
    let told : answer ≡ bytes_alone (listing m func) = subst (λ why. answer ≡ unless_refused why (bytes_alone (listing m func))) takes h in
    ap (λ (a : Answer). a.status) told
of_admitted (summary only) m answer takes h =
    let s = subst (λ why. AnswersUnless why (IsSummaryOf m only) answer) takes h in ap (λ (a : Answer). a.status) s.is
of_admitted (kept func at) m answer takes h =
    let k = subst (λ why. AnswersUnless why (IsKeptAs m func at) answer) takes h in ap (λ (a : Answer). a.status) k.is
of_admitted (slice func at name) m answer takes h =
    let sliced = subst (λ why. AnswersUnless why (IsSlicedAs m func at name) answer) takes h in ap (λ (a : Answer). a.status) sliced.is
of_admitted (run func budget args replies) m answer takes h =
    status_of_run m func (positions_of m func) budget args replies (why_not_run m func args) answer takes h
of_admitted (trace func at budget args replies) m answer takes h = status_of_run m func at budget args replies (why_not_traced m func at args) answer takes h

of_module : (order : Order) (m : Module) (answer : Answer) → IsTaken order m → IsAdmitted m → AnswersModule order m answer → HasStatus order m answer.status
of_module order m answer takes admitted (inl refused) = absurd (admitted_not_refused m answer admitted refused)
of_module order m answer takes admitted (inr (same, h)) = of_admitted order m answer takes h

of_bytes : (order : Order) (bytes : List ℕ) (m : Module) (answer : Answer)
    → IsTaken order m → Decodes bytes (Ok m) → IsAdmitted m → AnswersBytes order bytes answer → HasStatus order m answer.status
of_bytes order bytes m answer takes decodes admitted (inl refused) = absurd (decoded_not_refused bytes m answer decodes refused)
of_bytes order bytes m answer takes decodes admitted (inr (n, other, h)) =
    let same = one_module bytes m n decodes.0 other.0 in
    subst (λ (x : Module). HasStatus order x answer.status) (sym same)
    (of_module order n answer (subst (IsTaken order) same takes) (subst IsAdmitted same admitted) h)

of_order : (order : Order) (bytes : List ℕ) (m : Module) (new : Option (List ℕ)) (answer : Answer) → IsTaken order m
    → length bytes ≤ most_bytes → Decodes bytes (Ok m) → IsAdmitted m → AnswersOrder order (Some bytes) new answer → HasStatus order m answer.status
of_order order bytes m new answer takes short decodes admitted (inl long) = absurd (not_long bytes new long.0 short)
of_order order bytes m new answer takes short decodes admitted (inr (taken, whole, few, h)) =
    of_bytes order bytes m answer takes decodes admitted (subst (λ l. AnswersBytes order l answer) (all_taken bytes new taken whole) h)

known : (words : List (List ℕ)) (order : Order) (bytes : List ℕ) (m : Module) (new : Option (List ℕ)) (before now : ℕ) (answer : Answer)
    → order_of words ≡ Some order → IsTaken order m → length bytes ≤ most_bytes → Decodes bytes (Ok m) → IsAdmitted m → ¬ Rose before now
    → IsDue words (Some bytes) new before now answer → HasStatus order m answer.status
known words order bytes m new before now answer is takes short decodes admitted quiet (inl (inl refused)) =
    let none : order_of words ≡ None = refused.0.0 in absurd cc
known words order bytes m new before now answer is takes short decodes admitted quiet (inl (inr (inr milled))) =
    absurd (not_both words order milled.0 is milled.1)
known words order bytes m new before now answer is takes short decodes admitted quiet (inl (inr (inl (other, named, h)))) =
    let same : order ≡ other = (let e : Some order ≡ Some other = sym is ∙ named in cc) in
    subst (λ o. HasStatus o m answer.status) (sym same) (of_order other bytes m new answer (subst (λ o. IsTaken o m) same takes) short decodes admitted h)
known words order bytes m new before now answer is takes short decodes admitted quiet (inr failed) = absurd (quiet failed.2.rose)

pub succeeds : (words : List (List ℕ)) (order : Order) (bytes : List ℕ) (m : Module) (old new : Option (List ℕ)) (before now : ℕ) (answer : Answer)
    → order_of words ≡ Some order → old ≡ Some bytes → length bytes ≤ most_bytes → Decodes bytes (Ok m) → IsAdmitted m → IsTaken order m → ¬ Rose before now
    → IsDue words old new before now answer → HasStatus order m answer.status
succeeds words order bytes m old new before now answer is left short decodes admitted takes quiet due =
    known words order bytes m new before now answer is takes short decodes admitted quiet (subst (λ o. IsDue words o new before now answer) left due)

-- the report of a number in its range has status 0
pub milled : (words : List (List ℕ)) (n : ℕ) (old new : Option (List ℕ)) (before now : ℕ) (answer : Answer)
    → mill_of words ≡ Some n → why_not_milled n ≡ None → IsDue words old new before now answer → answer.status ≡ 0
milled words n old new before now answer is takes (inl (inl refused)) = let none : mill_of words ≡ None = refused.0.1 in absurd cc
milled words n old new before now answer is takes (inl (inr (inl (order, named, h)))) = absurd (not_both words order n named is)
milled words n old new before now answer is takes (inl (inr (inr (k, named, same, h)))) =
    let one : k ≡ n = (let e : Some k ≡ Some n = sym named ∙ is in cc) in
    let report = subst (λ why. AnswersUnless why (IsReportOf (mill k)) answer) (ap why_not_milled one ∙ takes) h in ap (λ (a : Answer). a.status) report.2
milled words n old new before now answer is takes (inr failed) = absurd (not_both words failed.0 n failed.1 is)
