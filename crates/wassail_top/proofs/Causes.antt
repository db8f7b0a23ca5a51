-- A refusal has one status by its class, and one answer where the cause is one.
use Rattle.std.proofs.Common.{◌≡◌, sym, ap, ◌∙◌, Option, Some, None}
use Rattle.report_text.specs.declared.refusal.Refusal.{Refusal}
use Rattle.report_text.specs.declared.refusal.Refusal.TheVariants as refusal
use Rattle.report_text.specs.declared.refusal.ModuleRefusal.{ModuleRefusal}
use Rattle.report_text.specs.declared.refusal.QueryRefusal.{QueryRefusal}
use Rattle.wassail_top.specs.Refusals.{Answer, refused, IsRefused}

pub one_refused : {Cause Why : Type 0} (class : Why → Refusal) (Holds : Cause → Type 0) (why_of : Cause → Option Why) (a b : Answer)
    → ((c d : Cause) (r s : Why) → Holds c → Holds d → why_of c ≡ Some r → why_of d ≡ Some s → c ≡ d)
    → IsRefused class Holds why_of a → IsRefused class Holds why_of b → a ≡ b
one_refused class Holds why_of a b one p q =
    let whys : Some p.1 ≡ Some q.1 = sym p.3 ∙ ap why_of (one p.0 q.0 p.1 q.1 p.2 q.2 p.3 q.3) ∙ q.3 in
    p.4 ∙ ap (λ why. refused (class why)) (let same : p.1 ≡ q.1 = cc in same) ∙ sym q.4

-- a cause that has a refusal isn't one that has none
pub not_without : {Cause Why : Type 0} (why_of : Cause → Option Why) (c without : Cause) (r : Why) → why_of c ≡ Some r → why_of without ≡ None → c ≡ without → ⊥
not_without why_of c without r some none same = let other : why_of c ≡ why_of without = ap why_of same in cc

pub module_status : {Cause : Type 0} (Holds : Cause → Type 0) (why_of : Cause → Option ModuleRefusal) (answer : Answer)
    → IsRefused refusal.Module Holds why_of answer → answer.status ≡ 1
module_status Holds why_of answer p = ap (λ (a : Answer). a.status) p.4

pub query_status : {Cause : Type 0} (Holds : Cause → Type 0) (why_of : Cause → Option QueryRefusal) (answer : Answer)
    → IsRefused refusal.Query Holds why_of answer → answer.status ≡ 6
query_status Holds why_of answer p = ap (λ (a : Answer). a.status) p.4
