-- A query about a kept set, or about a slice, has an answer: it is refused, or there are such a set and such a slice.
use Rattle.std.proofs.Common.{◌≡◌, ◌≤◌, ℕ, List, length, Option, Some, None, refl}
use Rattle.report_text.specs.declared.refusal.Refusal.TheVariants as refusal
use Rattle.report_text.specs.declared.refusal.QueryRefusal.{QueryRefusal}
use Rattle.report_text.specs.KeptTexts.{kept_lines}
use Rattle.wasm_types.specs.declared.module.Module.{Module}
use Rattle.wasm_types.specs.Code.{code_of, count}
use Rattle.wasm_types.specs.Subset.{IsSealed}
use Rattle.wasm_types.specs.WellFormed.{ProperName}
use Rattle.flow_domain.specs.Sliced.{func_count}
use Rattle.slice_whole.specs.Slices.{why_not}
use Rattle.slice_whole.proofs.SomeCover.{some_cover}
use Rattle.slice_whole.proofs.SomeSliced.{some_keeps, some_sliced}
use Rattle.wassail_top.specs.Answers.{IsKeptAs, IsSlicedAs, bytes_alone, name_of, slice_answer}
use Rattle.wassail_top.specs.Orders.{most_name_bytes}
use Rattle.wassail_top.specs.Queries.{why_no_slice, why_not_kept, why_not_seen}
use Rattle.wassail_top.specs.Refusals.{Answer, refused, why_no_code}
use Rattle.wassail_top.specs.RunAnswers.{AnswersUnless}
use Rattle.slice_whole.proofs.NotRefuted.{NotRefuted}
use Rattle.wassail_top.proofs.NoCode.{has_body, has_type}
use Rattle.wassail_top.proofs.RunLemmas.{or_else_none}
use Rattle.wassail_top.proofs.SliceQueries.{not_sliced_none}

pub some_unless : (why : Option QueryRefusal) (Holds : Answer → Type 0) → (why ≡ None → NotRefuted ((answer : Answer) × Holds answer))
    → NotRefuted ((answer : Answer) × AnswersUnless why Holds answer)
some_unless None Holds here never = here refl never
some_unless (Some why) Holds here never = never (refused (refusal.Query why), refl)

kept_here : (m : Module) (f i : ℕ) → IsSealed m → why_no_code m f ≡ None → NotRefuted ((answer : Answer) × IsKeptAs m f i answer)
kept_here m f i seal code never =
    let kind = has_type m f seal.valid code in
    let body = has_body m f seal.valid code in
    some_cover m seal (λ W. some_keeps m W.0 kind.0 body.0 i (λ found. never (
      bytes_alone (kept_lines found.0 (count (code_of body.0.code))),
      record {
        kind = kind.0;
        kind_is = kind.1;
        body = body.0;
        has_body = body.1;
        cover = W.0;
        cover_is = W.1;
        nodes = found.0;
        exact = found.1.exact;
        is = refl;
      },
    )))

pub some_kept_answer : (m : Module) (f i : ℕ) → IsSealed m → NotRefuted ((answer : Answer) × AnswersUnless (why_not_kept m f i) (IsKeptAs m f i) answer)
some_kept_answer m f i seal =
    some_unless (why_not_kept m f i) (IsKeptAs m f i)
    (λ none. kept_here m f i seal (or_else_none (why_no_code m f) (why_not_seen m f i) none).0)

slice_here : (m : Module) (f i : ℕ) (name : List ℕ) → IsSealed m → ProperName (name_of name) → length name ≤ most_name_bytes → why_not m f i name ≡ None
    → NotRefuted ((answer : Answer) × IsSlicedAs m f i name answer)
slice_here m f i name seal proper short none never =
    some_sliced m f i (name_of name) seal none (λ found. never (
      slice_answer found.0 (func_count m) found.1,
      record { new = found.0; at = found.1; sliced = found.2; proper = proper; short = short; is = refl },
    ))

pub some_slice_answer : (m : Module) (f i : ℕ) (name : List ℕ) → IsSealed m → ProperName (name_of name) → length name ≤ most_name_bytes
    → NotRefuted ((answer : Answer) × AnswersUnless (why_no_slice m f i name) (IsSlicedAs m f i name) answer)
some_slice_answer m f i name seal proper short =
    some_unless (why_no_slice m f i name) (IsSlicedAs m f i name) (λ none. slice_here m f i name seal proper short (not_sliced_none m f i name none))
