-- What it says that a run isn't refused, and what a run answers.
use Rattle.std.proofs.Common.{◌≡◌, ℕ, ◌≤◌, ℤ, Bool, true, false, List, Option, Some, None, refl, sym, ap, ◌∙◌, subst, arith, nat_lt}
use Rattle.std.specs.Option.{option_or}
use Rattle.std.specs.Prelude.{if◌then◌else◌}
use Rattle.std.proofs.lemmas.Bool.Decides.{nat_tests}
use Rattle.report_text.specs.declared.refusal.Refusal.TheVariants as refusal
use Rattle.report_text.specs.declared.refusal.QueryRefusal.{QueryRefusal}
use Rattle.report_text.specs.declared.refusal.QueryRefusal.TheVariants as of_query
use Rattle.wasm_types.specs.declared.module.FuncType.{FuncType}
use Rattle.wasm_types.specs.declared.module.Module.{Module}
use Rattle.wasm_types.specs.declared.module.Value.{Value}
use Rattle.wasm_types.specs.declared.run.Reply.{Reply}
use Rattle.wasm_types.specs.Spaces.{mems_of, type_of_func}
use Rattle.wasm_types.specs.Subset.{IsSealed}
use Rattle.wasm_meaning.specs.Fits.{HaveTypes}
use Rattle.typed_runs.specs.Start.{least}
use Rattle.module_run.specs.Runs.{most_run_pages, RunsTo}
use Rattle.module_run.specs.Values.{values_for}
use Rattle.module_run.proofs.ListedValues.{values_typed}
use Rattle.module_run.proofs.OneRun.{one_run}
use Rattle.module_run.proofs.SomeRun.{some_run}
use Rattle.wassail_top.specs.Queries.{params_in, params_of, why_no_run, why_no_values, why_not_called, why_too_large}
use Rattle.wassail_top.specs.Refusals.{Answer, refused, why_no_code}
use Rattle.wassail_top.specs.RunAnswers.{AnswersUnless, IsRunAs, IsStatusOfRun, run_answer}
use Rattle.slice_whole.proofs.NotRefuted.{NotRefuted}
use Rattle.wassail_top.proofs.NoCode.{has_type}

-- ---- causes

-- neither of two causes holds
pub or_else_none : (p q : Option QueryRefusal) → option_or p q ≡ None → (p ≡ None) × (q ≡ None)
or_else_none None q e = (refl, e)
or_else_none (Some why) q e = absurd cc

pub not_too_large : (min : ℕ) → why_too_large min ≡ None → min ≤ most_run_pages
not_too_large min e = go (nat_lt 1024 min) refl e
  where
    go : (b : Bool) → nat_lt 1024 min ≡ b → (if b then Some (of_query.TooManyPages min) else None) ≡ None → min ≤ 1024
    go true is e = absurd cc
    go false is e = grind (arith, nat_tests, is)

pub has_values : (o : Option (List Value)) → why_no_values o ≡ None → (values : List Value) × (o ≡ Some values)
has_values None e = absurd cc
has_values (Some values) e = (values, refl)

-- ---- values of arguments

pub params_are : (m : Module) (f : ℕ) (t : FuncType) → type_of_func m f ≡ Some t → params_of m f ≡ t.params
params_are m f t e = ap params_in e

pub typed_values : (m : Module) (f : ℕ) (t : FuncType) (args : List ℤ) (values : List Value) → type_of_func m f ≡ Some t
    → values_for (params_of m f) args ≡ Some values → HaveTypes values t.params
typed_values m f t args values kind fit = values_typed t.params args values (ap (λ ts. values_for ts args) (sym (params_are m f t kind)) ∙ fit)

-- ---- answers

-- one at most
pub one_run_answer : (m : Module) (f i budget : ℕ) (args : List ℤ) (replies : List Reply) (why : Option QueryRefusal) (a b : Answer)
    → AnswersUnless why (IsRunAs m f i budget args replies) a → AnswersUnless why (IsRunAs m f i budget args replies) b → a ≡ b
one_run_answer m f i budget args replies None a b p q =
    let values : Some p.values ≡ Some q.values = sym p.fit ∙ q.fit in
    let same : p.values ≡ q.values = cc in
    let ends : p.ends ≡ q.ends =
    sym (one_run m f i q.values replies budget p.ends q.ends (subst (λ (vs : List Value). RunsTo m f i vs replies budget p.ends) same p.runs) q.runs) in
    p.is ∙ ap run_answer ends ∙ sym q.is
one_run_answer m f i budget args replies (Some why) a b p q = p ∙ sym q

-- and at least one
some_run_here : (m : Module) (f i budget : ℕ) (args : List ℤ) (replies : List Reply) → IsSealed m → why_no_code m f ≡ None → why_no_run m f args ≡ None
    → NotRefuted ((answer : Answer) × IsRunAs m f i budget args replies answer)
some_run_here m f i budget args replies sealed code none never =
    let both = or_else_none (why_not_called m f args) (why_too_large (least (mems_of m))) none in
    let values = has_values (values_for (params_of m f) args) both.0 in
    let kind = has_type m f sealed.valid code in
    some_run m sealed (not_too_large (least (mems_of m)) both.1) f kind.0 kind.1 values.0 (typed_values m f kind.0 args values.0 kind.1 values.1) i replies
    budget
    (λ found. never (run_answer found.0, record { values = values.0; fit = values.1; ends = found.0; runs = found.1; is = refl }))

of_why : (m : Module) (f i budget : ℕ) (args : List ℤ) (replies : List Reply) (why : Option QueryRefusal)
    → (why ≡ None → NotRefuted ((answer : Answer) × IsRunAs m f i budget args replies answer))
    → NotRefuted ((answer : Answer) × AnswersUnless why (IsRunAs m f i budget args replies) answer)
of_why m f i budget args replies None here never = here refl never
of_why m f i budget args replies (Some why) here never = never (refused (refusal.Query why), refl)

pub some_run_answer : (m : Module) (f i budget : ℕ) (args : List ℤ) (replies : List Reply) → IsSealed m
    → NotRefuted ((answer : Answer) × AnswersUnless (option_or (why_no_code m f) (why_no_run m f args)) (IsRunAs m f i budget args replies) answer)
some_run_answer m f i budget args replies sealed =
    of_why m f i budget args replies _ (λ none.
    let both = or_else_none (why_no_code m f) (why_no_run m f args) none in some_run_here m f i budget args replies sealed both.0 both.1)

pub some_trace_answer : (m : Module) (f i budget : ℕ) (args : List ℤ) (replies : List Reply) (unseen : Option QueryRefusal) → IsSealed m
    → NotRefuted ((answer : Answer)
    × AnswersUnless (option_or (why_no_code m f) (option_or unseen (why_no_run m f args))) (IsRunAs m f i budget args replies) answer)
some_trace_answer m f i budget args replies unseen sealed =
    of_why m f i budget args replies _ (λ none.
    let both = or_else_none (why_no_code m f) (option_or unseen (why_no_run m f args)) none in
    let others = or_else_none unseen (why_no_run m f args) both.1 in
    some_run_here m f i budget args replies sealed both.0 others.1)

-- where the query isn't refused, the status is that of the run
pub status_of_run : (m : Module) (f i budget : ℕ) (args : List ℤ) (replies : List Reply) (why : Option QueryRefusal) (answer : Answer) → why ≡ None
    → AnswersUnless why (IsRunAs m f i budget args replies) answer → IsStatusOfRun m f i budget args replies answer.status
status_of_run m f i budget args replies why answer none h =
    let r = subst (λ w. AnswersUnless w (IsRunAs m f i budget args replies) answer) none h in
    (r.values, r.ends, r.fit, r.runs, ap (λ (a : Answer). a.status) r.is)
