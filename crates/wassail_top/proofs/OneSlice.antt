-- A module has one answer to `kept` and to `slice`.
use Rattle.std.proofs.Common.{◌≡◌, ℕ, List, Bool, Option, Some, None, sym, ap, ◌∙◌, subst}
use Rattle.report_text.specs.declared.refusal.QueryRefusal.{QueryRefusal}
use Rattle.report_text.specs.KeptTexts.{kept_lines}
use Rattle.wasm_types.specs.declared.module.Body.{Body}
use Rattle.wasm_types.specs.declared.module.FuncType.{FuncType}
use Rattle.wasm_types.specs.declared.module.Module.{Module}
use Rattle.wasm_types.specs.declared.place.Node.{Node}
use Rattle.wasm_types.specs.Code.{code_of, count}
use Rattle.wasm_validate.specs.Admission.{IsAdmitted}
use Rattle.flow_domain.specs.Bounds.{Cover}
use Rattle.flow_domain.specs.Kept.{Tells}
use Rattle.flow_domain.specs.Sliced.{func_count, KeptIn}
use Rattle.stack_repair.proofs.ExactCut.{one_test}
use Rattle.slice_whole.proofs.OneCover.{one_cover}
use Rattle.slice_whole.proofs.OneSliced.{one_sliced}
use Rattle.wassail_top.specs.Answers.{IsKeptAs, IsSlicedAs, bytes_alone, name_of, slice_answer}
use Rattle.wassail_top.specs.Refusals.{Answer}
use Rattle.wassail_top.specs.RunAnswers.{AnswersUnless}

-- a query has one answer where what isn't refused has one
pub one_unless : (why : Option QueryRefusal) (Holds : Answer → Type 0) → ((a b : Answer) → Holds a → Holds b → a ≡ b)
    → (a b : Answer) → AnswersUnless why Holds a → AnswersUnless why Holds b → a ≡ b
one_unless None Holds one a b p q = one a b p q
one_unless (Some why) Holds one a b p q = p ∙ sym q

-- ---- kept sets

same_some : {A : Type 0} {x y : A} → Some x ≡ Some y → x ≡ y
same_some e = cc

one_kept : (m : Module) (f i : ℕ) (a b : Answer) → IsKeptAs m f i a → IsKeptAs m f i b → a ≡ b
one_kept m f i a b p q =
    let kind : q.kind ≡ p.kind = same_some (sym q.kind_is ∙ p.kind_is) in
    let body : q.body ≡ p.body = same_some (sym q.has_body ∙ p.has_body) in
    let cover : q.cover ≡ p.cover = one_cover m q.cover p.cover q.cover_is p.cover_is in
    let exact : Tells q.nodes (KeptIn m p.cover p.kind p.body i) =
    subst (λ (W : Cover). Tells q.nodes (KeptIn m W p.kind p.body i)) cover
    (subst (λ (x : Body). Tells q.nodes (KeptIn m q.cover p.kind x i)) body
    (subst (λ (t : FuncType). Tells q.nodes (KeptIn m q.cover t q.body i)) kind q.exact)) in
    let nodes : p.nodes ≡ q.nodes = one_test p.nodes q.nodes (KeptIn m p.cover p.kind p.body i) p.exact exact in
    p.is ∙ ap (λ (K : Node → Bool). bytes_alone (kept_lines K (count (code_of p.body.code)))) nodes
    ∙ ap (λ (x : Body). bytes_alone (kept_lines q.nodes (count (code_of x.code)))) (sym body) ∙ sym q.is

pub one_kept_answer : (m : Module) (f i : ℕ) (why : Option QueryRefusal) (a b : Answer)
    → AnswersUnless why (IsKeptAs m f i) a → AnswersUnless why (IsKeptAs m f i) b → a ≡ b
one_kept_answer m f i why = one_unless why (IsKeptAs m f i) (one_kept m f i)

-- ---- slices

one_slice : (m : Module) (f i : ℕ) (name : List ℕ) → IsAdmitted m → (a b : Answer) → IsSlicedAs m f i name a → IsSlicedAs m f i name b → a ≡ b
one_slice m f i name admitted a b s t =
    let same = one_sliced m f i (name_of name) s.new t.new s.at t.at admitted.valid admitted.no_float s.sliced t.sliced in
    s.is ∙ ap (λ (n : Module). slice_answer n (func_count m) s.at) same.0 ∙ ap (slice_answer t.new (func_count m)) same.1 ∙ sym t.is

pub one_slice_answer : (m : Module) (f i : ℕ) (name : List ℕ) → IsAdmitted m → (why : Option QueryRefusal) (a b : Answer)
    → AnswersUnless why (IsSlicedAs m f i name) a → AnswersUnless why (IsSlicedAs m f i name) b → a ≡ b
one_slice_answer m f i name admitted why = one_unless why (IsSlicedAs m f i name) (one_slice m f i name admitted)
