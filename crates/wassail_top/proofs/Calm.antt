-- No answer has the status of a fault or of an allocation that is refused, and only refused words have that of refused words.
use Rattle.std.proofs.Common.{◌≡◌, ◌≢◌, ◌⊎◌, ◌<◌, ℕ, ℤ, List, sym, ap, inl, inr, arith, Option, None, Some, Err, subst}
use Rattle.wasm_types.specs.declared.module.Module.{Module}
use Rattle.wasm_types.specs.declared.run.Ended.{Ended}
use Rattle.wasm_types.specs.declared.run.Ended.TheVariants as ended
use Rattle.wasm_types.specs.declared.run.Reply.{Reply}
use Rattle.module_run.specs.Runs.{RunEnds}
use Rattle.module_run.specs.Runs.RunEnds.{ElemOut, DataOut, InStart, Ran}
use Rattle.report_text.specs.declared.refusal.QueryRefusal.{QueryRefusal}
use Rattle.report_text.specs.Listing.{listing}
use Rattle.module_mill.specs.Mill.{mill}
use Rattle.wasm_decode.specs.Decode.{Decodes}
use Rattle.wasm_validate.specs.Admission.{Refuses}
use Rattle.wassail_top.specs.Orders.{Order}
use Rattle.wassail_top.specs.Orders.Order.{check, rewrite, list, summary, kept, slice, run, trace}
use Rattle.wassail_top.specs.Answers.{Answers, AnswersMill, AnswersOrder, AnswersModule, AnswersAdmitted, IsDue, IsKeptAs, IsReportOf, IsSlicedAs, IsSummaryOf, bytes_alone}
use Rattle.wassail_top.specs.Refusals.{Answer, unless_refused, why_no_code, why_not_decoded, why_not_admitted}
use Rattle.wassail_top.specs.Queries.{positions_of, why_no_slice, why_no_summary, why_not_kept, why_not_milled, why_not_run, why_not_traced}
use Rattle.wassail_top.specs.RunAnswers.{AnswersUnless, IsRunAs, ended_status, run_status}
use Rattle.wassail_top.specs.Statuses.{status_code}
use Rattle.wassail_top.specs.Words.{IsNoCommand, mill_of, order_of}
use Rattle.wassail_top.specs.Outcome.{ReadFailed, GaveAll}
use Rattle.wassail_top.proofs.Causes.{module_status}

-- not a fault, not an allocation that is refused, and not refused words
pub record IsCalm (status : ℕ) : Type 0 where
  pub known : status ≢ 2
  pub no_read_fault : status ≢ 3
  pub no_write_fault : status ≢ 4
  pub memory : status ≢ 5

calm : (status : ℕ) → (status < 2) ⊎ (5 < status) → IsCalm status
calm status (inl low) = record { known = λ p. omega arith; no_read_fault = λ p. omega arith; no_write_fault = λ p. omega arith; memory = λ p. omega arith }
calm status (inr high) = record { known = λ p. omega arith; no_read_fault = λ p. omega arith; no_write_fault = λ p. omega arith; memory = λ p. omega arith }

calm_at : (answer : Answer) (status : ℕ) → answer.status ≡ status → (status < 2) ⊎ (5 < status) → IsCalm answer.status
calm_at answer status same far = subst (λ (n : ℕ). IsCalm n) (sym same) (calm status far)

calm_unless : (why : Option QueryRefusal) (bytes : List ℕ) (answer : Answer) → answer ≡ unless_refused why (bytes_alone bytes) → IsCalm answer.status
calm_unless None bytes answer h = calm_at answer 0 (ap (λ (a : Answer). a.status) h) (inl (omega arith))
calm_unless (Some why) bytes answer h = calm_at answer 6 (ap (λ (a : Answer). a.status) h) (inr (omega arith))

calm_unless_told : (why : Option QueryRefusal) (Holds : Answer → Type 0) → ((a : Answer) → Holds a → a.status ≡ 0) → (answer : Answer)
    → AnswersUnless why Holds answer → IsCalm answer.status
calm_unless_told None Holds zero answer h = calm_at answer 0 (zero answer h) (inl (omega arith))
calm_unless_told (Some why) Holds zero answer h = calm_at answer 6 (ap (λ (a : Answer). a.status) h) (inr (omega arith))

calm_ended : (e : Ended) → IsCalm (status_code (ended_status e))
calm_ended (ended.Returned value turns) = calm 0 (inl (omega arith))
calm_ended (ended.Trapped reason turns) = calm 7 (inr (omega arith))
calm_ended ended.OutOfTurns = calm 8 (inr (omega arith))

calm_run : (e : RunEnds) → IsCalm (status_code (run_status e))
calm_run (ElemOut k) = calm 7 (inr (omega arith))
calm_run (DataOut k) = calm 7 (inr (omega arith))
calm_run (InStart e) = calm_ended e
calm_run (Ran e events) = calm_ended e

calm_unless_run : (m : Module) (f i budget : ℕ) (args : List ℤ) (replies : List Reply) (why : Option QueryRefusal) (answer : Answer)
    → AnswersUnless why (IsRunAs m f i budget args replies) answer → IsCalm answer.status
calm_unless_run m f i budget args replies None answer h =
    subst (λ (n : ℕ). IsCalm n) (sym (ap (λ (a : Answer). a.status) h.is)) (calm_run h.ends)
calm_unless_run m f i budget args replies (Some why) answer h = calm_at answer 6 (ap (λ (a : Answer). a.status) h) (inr (omega arith))

calm_admitted : (order : Order) (m : Module) (answer : Answer) → AnswersAdmitted order m answer → IsCalm answer.status
calm_admitted check m answer h = calm_at answer 0 (ap (λ (a : Answer). a.status) h) (inl (omega arith))
calm_admitted rewrite m answer h = calm_at answer 0 (ap (λ (a : Answer). a.status) h) (inl (omega arith))
calm_admitted (list func) m answer h = calm_unless (why_no_code m func) (listing m func) answer h
calm_admitted (summary only) m answer h = calm_unless_told (why_no_summary m only) (IsSummaryOf m only) (λ a s. ap (λ (x : Answer). x.status) s.is) answer h
calm_admitted (kept func at) m answer h = calm_unless_told (why_not_kept m func at) (IsKeptAs m func at) (λ a k. ap (λ (x : Answer). x.status) k.is) answer h
calm_admitted (slice func at name) m answer h =
    calm_unless_told (why_no_slice m func at name) (IsSlicedAs m func at name) (λ a sliced. ap (λ (x : Answer). x.status) sliced.is) answer h
calm_admitted (run func budget args replies) m answer h =
    calm_unless_run m func (positions_of m func) budget args replies (why_not_run m func args) answer h
calm_admitted (trace func at budget args replies) m answer h = calm_unless_run m func at budget args replies (why_not_traced m func at args) answer h

calm_module : (order : Order) (m : Module) (answer : Answer) → AnswersModule order m answer → IsCalm answer.status
calm_module order m answer (inl bad) = calm_at answer 1 (module_status (Refuses m) why_not_admitted answer bad) (inl (omega arith))
calm_module order m answer (inr (admitted, h)) = calm_admitted order m answer h

calm_order : (order : Order) (old new : Option (List ℕ)) (answer : Answer) → AnswersOrder order old new answer → IsCalm answer.status
calm_order order old new answer (inl long) = calm_at answer 1 (ap (λ (a : Answer). a.status) long.1) (inl (omega arith))
calm_order order old new answer (inr (bytes, all, short, inl bad)) =
    calm_at answer 1 (module_status (λ end. Decodes bytes (Err end)) why_not_decoded answer bad) (inl (omega arith))
calm_order order old new answer (inr (bytes, all, short, inr (m, spells, h))) = calm_module order m answer h

calm_mill : (words : List (List ℕ)) (old new : Option (List ℕ)) (answer : Answer) → AnswersMill words old new answer → IsCalm answer.status
calm_mill words old new answer (n, named, same, h) =
    calm_unless_told (why_not_milled n) (IsReportOf (mill n)) (λ a report. ap (λ (x : Answer). x.status) report.2) answer h

-- no answer tells of a fault
not_fault : (words : List (List ℕ)) (old new : Option (List ℕ)) (answer : Answer) → Answers words old new answer → answer.status ≢ 3
not_fault words old new answer (inl refused) = λ e. let two : answer.status ≡ 2 = ap (λ (a : Answer). a.status) refused.1 in omega arith
not_fault words old new answer (inr (inl (order, named, h))) = (calm_order order old new answer h).no_read_fault
not_fault words old new answer (inr (inr milled)) = (calm_mill words old new answer milled).no_read_fault

-- none tells that a write failed
pub not_write_fault : (words : List (List ℕ)) (old new : Option (List ℕ)) (before now : ℕ) (answer : Answer) → IsDue words old new before now answer
    → answer.status ≢ 4
not_write_fault words old new before now answer (inl (inl refused)) = λ e. let two : answer.status ≡ 2 = ap (λ (a : Answer). a.status) refused.1 in omega arith
not_write_fault words old new before now answer (inl (inr (inl (order, named, h)))) = (calm_order order old new answer h).no_write_fault
not_write_fault words old new before now answer (inl (inr (inr milled))) = (calm_mill words old new answer milled).no_write_fault
not_write_fault words old new before now answer (inr failed) = λ e. let three : answer.status ≡ 3 = ap (λ (a : Answer). a.status) failed.3 in omega arith

-- none tells that an allocation was refused
pub not_memory : (words : List (List ℕ)) (old new : Option (List ℕ)) (before now : ℕ) (answer : Answer) → IsDue words old new before now answer
    → answer.status ≢ 5
not_memory words old new before now answer (inl (inl refused)) = λ e. let two : answer.status ≡ 2 = ap (λ (a : Answer). a.status) refused.1 in omega arith
not_memory words old new before now answer (inl (inr (inl (order, named, h)))) = (calm_order order old new answer h).memory
not_memory words old new before now answer (inl (inr (inr milled))) = (calm_mill words old new answer milled).memory
not_memory words old new before now answer (inr failed) = λ e. let three : answer.status ≡ 3 = ap (λ (a : Answer). a.status) failed.3 in omega arith

-- where the status is 3, a read failed
pub read_failed : (words : List (List ℕ)) (old new : Option (List ℕ)) (before now : ℕ) (out_old out_new err_old err_new : Option (List ℕ)) (answer : Answer)
    → IsDue words old new before now answer → GaveAll out_old out_new err_old err_new answer → answer.status ≡ 3
    → ReadFailed words old new before now out_old out_new err_old err_new
read_failed words old new before now x y z w answer (inl h) gave e = absurd (not_fault words old new answer h e)
read_failed words old new before now x y z w answer (inr (order, named, failed, same)) gave e =
    record { order = order; named = named; failed = failed; gave = subst (λ (a : Answer). GaveAll x y z w a) same gave }

-- words that are no command have one answer
pub refused_words : (words : List (List ℕ)) (old new : Option (List ℕ)) (before now : ℕ) (answer : Answer)
    → IsDue words old new before now answer → IsNoCommand words → answer.status ≡ 2
refused_words words old new before now answer (inl (inl h)) none = ap (λ (a : Answer). a.status) h.1
refused_words words old new before now answer (inl (inr (inl (order, named, h)))) none =
    let no : order_of words ≡ None = none.0 in let some : order_of words ≡ Some order = named in absurd cc
refused_words words old new before now answer (inl (inr (inr milled))) none =
    let no : mill_of words ≡ None = none.1 in let some : mill_of words ≡ Some milled.0 = milled.1 in absurd cc
refused_words words old new before now answer (inr failed) none =
    let no : order_of words ≡ None = none.0 in let some : order_of words ≡ Some failed.0 = failed.1 in absurd cc

pub only_refused_words : (words : List (List ℕ)) (old new : Option (List ℕ)) (before now : ℕ) (answer : Answer)
    → IsDue words old new before now answer → answer.status ≡ 2 → IsNoCommand words
only_refused_words words old new before now answer (inl (inl h)) e = h.0
only_refused_words words old new before now answer (inl (inr (inl (order, named, h)))) e = absurd ((calm_order order old new answer h).known e)
only_refused_words words old new before now answer (inl (inr (inr milled))) e = absurd ((calm_mill words old new answer milled).known e)
only_refused_words words old new before now answer (inr failed) e =
    let three : answer.status ≡ 3 = ap (λ (a : Answer). a.status) failed.3 in absurd (omega arith)
