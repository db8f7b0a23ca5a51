-- Status 0 of `slice` and of `summary` says what it is to say.
use Rattle.std.proofs.Common.{◌≡◌, ◌≤◌, ℕ, List, length, Option, Some, None, Err, Ok, refl, sym, ap, ◌∙◌, subst, inl, inr, arith}
use Rattle.outside_io.specs.Whole.{TookAll}
use Rattle.wasm_types.specs.Canon.{canon}
use Rattle.wasm_types.specs.Subset.{InSubset, most_nesting}
use Rattle.text_laws.proofs.LeastLemmas.{canon_is_least}
use Rattle.wasm_decode.specs.Decode.{Decodes}
use Rattle.wasm_validate.specs.Admission as admission
use Rattle.wasm_validate.specs.Admission.{IsAdmitted}
use Rattle.wasm_types.specs.declared.module.Module.{Module}
use Rattle.report_text.specs.declared.refusal.QueryRefusal.{QueryRefusal}
use Rattle.wassail_top.specs.Answers.{AnswersAdmitted, AnswersOrder, AnswersBytes, IsDue, IsSlicedAs, IsSummaryOf, most_bytes, name_of}
use Rattle.wassail_top.specs.Headline.{SliceHolds, SummaryHolds}
use Rattle.wassail_top.specs.Orders.{Order}
use Rattle.wassail_top.specs.Orders.Order.{slice, summary}
use Rattle.wassail_top.specs.Outcome.{GaveAll}
use Rattle.wassail_top.specs.Refusals.{Answer, why_not_decoded, why_not_admitted}
use Rattle.wassail_top.specs.Queries.{why_no_slice, why_no_summary}
use Rattle.wassail_top.specs.RunAnswers.{AnswersUnless}
use Rattle.wassail_top.proofs.MillWords.{not_both}
use Rattle.wassail_top.proofs.SliceQueries.{not_sliced_none}
use Rattle.wassail_top.proofs.TableRows.{rows_agree, rows_return}
use Rattle.slice_whole.proofs.Follows.{slice_follows}
use Rattle.slice_whole.proofs.Refused.{not_exported}
use Rattle.wassail_top.specs.Words.{order_of}
use Rattle.wassail_top.proofs.Causes.{module_status}
use Rattle.stack_repair.proofs.Slices.{sliced_has_cut}
use Rattle.stack_repair.proofs.Appended.{slice_is_valid, slice_is_spelled}

-- ---- what status 0 says of a command

-- the source was read to its end, and is an admitted module, about which the command answers
record Reads (order : Order) (left_old left_new : Option (List ℕ)) (answer : Answer) : Type 0 where
  pub bytes : List ℕ
  pub took : TookAll left_old left_new bytes
  pub short : length bytes ≤ most_bytes
  pub m : Module
  pub decodes : Decodes bytes (Ok m)
  pub admitted : IsAdmitted m
  pub answers : AnswersAdmitted order m answer

of_bytes : (order : Order) (bytes : List ℕ) (left_old left_new : Option (List ℕ)) (answer : Answer) → TookAll left_old left_new bytes
    → length bytes ≤ most_bytes → AnswersBytes order bytes answer → answer.status ≡ 0 → Reads order left_old left_new answer
of_bytes order bytes left_old left_new answer took short (inl bad) zero =
    let one : answer.status ≡ 1 = module_status (λ end. Decodes bytes (Err end)) why_not_decoded answer bad in absurd (omega arith)
of_bytes order bytes left_old left_new answer took short (inr (form, decodes, inl bad)) zero =
    let one : answer.status ≡ 1 = module_status (admission.Refuses form) why_not_admitted answer bad in absurd (omega arith)
of_bytes order bytes left_old left_new answer took short (inr (form, decodes, inr (admitted, h))) zero =
    record { bytes = bytes; took = took; short = short; m = form; decodes = decodes; admitted = admitted; answers = h }

of_order : (order : Order) (left_old left_new : Option (List ℕ)) (answer : Answer) → AnswersOrder order left_old left_new answer → answer.status ≡ 0
    → Reads order left_old left_new answer
of_order order left_old left_new answer (inl long) zero = let one : answer.status ≡ 1 = ap (λ (a : Answer). a.status) long.1 in absurd (omega arith)
of_order order left_old left_new answer (inr (bytes, took, short, h)) zero = of_bytes order bytes left_old left_new answer took short h zero

reads : (words : List (List ℕ)) (order : Order) (left_old left_new : Option (List ℕ)) (before now : ℕ) (answer : Answer)
    → order_of words ≡ Some order → IsDue words left_old left_new before now answer → answer.status ≡ 0 → Reads order left_old left_new answer
reads words order left_old left_new before now answer named (inl (inl h)) zero =
    let two : answer.status ≡ 2 = ap (λ (a : Answer). a.status) h.1 in absurd (omega arith)
reads words order left_old left_new before now answer named (inl (inr (inr milled))) zero = absurd (not_both words order milled.0 named milled.1)
reads words order left_old left_new before now answer named (inl (inr (inl (other, named_so, h)))) zero =
    let same : other ≡ order = (let e : Some other ≡ Some order = sym named_so ∙ named in cc) in
    of_order order left_old left_new answer (subst (λ (o : Order). AnswersOrder o left_old left_new answer) same h) zero
reads words order left_old left_new before now answer named (inr failed) zero =
    let three : answer.status ≡ 3 = ap (λ (a : Answer). a.status) failed.3 in absurd (omega arith)

-- the query wasn't refused
not_refused : (why : Option QueryRefusal) (Holds : Answer → Type 0) (answer : Answer) → AnswersUnless why Holds answer → answer.status ≡ 0
    → Holds answer × (why ≡ None)
not_refused None Holds answer h zero = (h, refl)
not_refused (Some why) Holds answer h zero = let six : answer.status ≡ 6 = ap (λ (a : Answer). a.status) h in absurd (omega arith)

-- ---- slices

pub slice_headline : (words : List (List ℕ)) (f i : ℕ) (name : List ℕ) (left_old left_new : Option (List ℕ)) (before now : ℕ)
    (out_old out_new err_old err_new : Option (List ℕ)) (answer : Answer) → order_of words ≡ Some (slice f i name)
    → IsDue words left_old left_new before now answer → answer.status ≡ 0 → GaveAll out_old out_new err_old err_new answer
    → SliceHolds f i name left_old left_new out_old out_new err_old err_new
slice_headline words f i name left_old left_new before now out_old out_new err_old err_new answer order due zero gave =
    let r = reads words (slice f i name) left_old left_new before now answer order due zero in
    let form = r.m in
    let bytes = r.bytes in
    let found = not_refused (why_no_slice form f i name) (IsSlicedAs form f i name) answer r.answers zero in
    let s = found.0 in
    let none = not_sliced_none form f i name found.1 in
    let cut = sliced_has_cut form f i (name_of name) s.new s.at s.proper (not_exported form f i name none) s.sliced in
    let sub : InSubset form = record { no_float = r.admitted.no_float; limits = r.admitted.limits; nesting = r.decodes.1 } in
    let valid = slice_is_valid form (name_of name) s.new r.admitted.valid sub cut in
    let few : length (canon form) ≤ length bytes = canon_is_least bytes form r.decodes.0 in
    let short : length bytes ≤ most_bytes = r.short in
    let name_short = s.short in
    let spelled = slice_is_spelled form (name_of name) s.new r.admitted.valid sub cut (omega arith) (omega arith) in
    let given = subst (λ (a : Answer). GaveAll out_old out_new err_old err_new a) s.is gave in
    record {
      bytes = bytes;
      took = r.took;
      m = form;
      spelled = r.decodes.0;
      new = s.new;
      at = s.at;
      sliced = s.sliced;
      out = given.out;
      err = given.err;
      valid = valid.0;
      itself = record { decodes = (spelled.1, valid.3 most_nesting sub.nesting); alone = spelled.2 };
      follows = slice_follows form r.admitted.valid r.admitted.no_float f i (name_of name) s.new s.at s.sliced;
    }

-- ---- summaries

pub summary_headline : (words : List (List ℕ)) (only : Option ℕ) (left_old left_new : Option (List ℕ)) (before now : ℕ)
    (out_old out_new err_old err_new : Option (List ℕ)) (answer : Answer) → order_of words ≡ Some (summary only)
    → IsDue words left_old left_new before now answer → answer.status ≡ 0 → GaveAll out_old out_new err_old err_new answer
    → SummaryHolds only left_old left_new out_old out_new err_old err_new
summary_headline words only left_old left_new before now out_old out_new err_old err_new answer order due zero gave =
    let r = reads words (summary only) left_old left_new before now answer order due zero in
    let s = (not_refused (why_no_summary r.m only) (IsSummaryOf r.m only) answer r.answers zero).0 in
    let given = subst (λ (a : Answer). GaveAll out_old out_new err_old err_new a) s.is gave in
    record {
      bytes = r.bytes;
      took = r.took;
      m = r.m;
      spelled = r.decodes.0;
      rows = s.rows;
      are = s.are;
      out = given.out;
      err = given.err;
      agree = rows_agree r.m r.admitted.valid r.admitted.no_float s.rows s.are;
      returns = rows_return r.m r.admitted.valid r.admitted.no_float s.rows s.are;
    }
