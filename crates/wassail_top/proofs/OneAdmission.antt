-- An admitted module isn't refused, and one that is refused has one refusal.
use Rattle.std.proofs.Common.{◌≡◌, Some, refl}
use Rattle.report_text.specs.declared.refusal.Refusal.TheVariants as refusal
use Rattle.report_text.specs.declared.refusal.ModuleRefusal.{ModuleRefusal}
use Rattle.wasm_types.specs.declared.module.Module.{Module}
use Rattle.wasm_validate.specs.declared.refusal.AdmitEnd.{AdmitEnd}
use Rattle.wasm_validate.specs.declared.refusal.AdmitEnd.TheVariants as end
use Rattle.wasm_validate.specs.Admission.{IsAdmitted, Refuses}
use Rattle.wasm_validate.proofs.OneRefusal.{one_refusal, none_refused}
use Rattle.wassail_top.specs.Refusals.{Answer, IsRefused, why_not_admitted}
use Rattle.wassail_top.proofs.Causes.{not_without}

pub admitted_not_refused : (m : Module) (answer : Answer) → IsAdmitted m → IsRefused refusal.Module (Refuses m) why_not_admitted answer → ⊥
admitted_not_refused m answer h p = not_without why_not_admitted p.0 end.Memory p.1 p.3 refl (none_refused m p.0 h p.2)

pub one_end : (m : Module) (d e : AdmitEnd) (r s : ModuleRefusal) → Refuses m d → Refuses m e → why_not_admitted d ≡ Some r → why_not_admitted e ≡ Some s
    → d ≡ e
one_end m d e r s p q why_d why_e =
    one_refusal m d e p q (not_without why_not_admitted d end.Memory r why_d refl) (not_without why_not_admitted e end.Memory s why_e refl)
