-- Bytes that spell a module aren't refused, and those that spell none have one refusal.
use Rattle.std.proofs.Common.{◌≡◌, ◌≢◌, ℕ, List, Some, Result, Ok, Err, refl}
use Rattle.report_text.specs.declared.refusal.Refusal.TheVariants as refusal
use Rattle.report_text.specs.declared.refusal.ModuleRefusal.{ModuleRefusal}
use Rattle.wasm_types.specs.declared.module.Module.{Module}
use Rattle.wasm_decode.specs.declared.refusal.DecodeEnd.{DecodeEnd}
use Rattle.wasm_decode.specs.declared.refusal.DecodeEnd.TheVariants as end
use Rattle.wasm_decode.specs.Decode.{Decodes}
use Rattle.wasm_decode.proofs.OneLemmas.{one_answer}
use Rattle.wassail_top.specs.Refusals.{Answer, IsRefused, why_not_decoded}
use Rattle.wassail_top.proofs.Causes.{not_without}

err_is : (d e : DecodeEnd) → (let r : Result Module DecodeEnd = Err d in r) ≡ Err e → d ≡ e
err_is d e same = cc

-- an end that has a refusal isn't that an allocation was refused
not_memory : (e : DecodeEnd) (r : ModuleRefusal) → why_not_decoded e ≡ Some r → (let x : Result Module DecodeEnd = Err e in x) ≢ Err end.Memory
not_memory e r why is = not_without why_not_decoded e end.Memory r why refl (err_is e end.Memory is)

pub decoded_not_refused : (bytes : List ℕ) (m : Module) (answer : Answer)
    → Decodes bytes (Ok m) → IsRefused refusal.Module (λ end. Decodes bytes (Err end)) why_not_decoded answer → ⊥
decoded_not_refused bytes m answer h p =
    let same : (let r : Result Module DecodeEnd = Ok m in r) ≡ Err p.0 = one_answer bytes (Ok m) (Err p.0) h p.2 (λ is. cc) (not_memory p.0 p.1 p.3) in
    cc

pub one_end : (bytes : List ℕ) (d e : DecodeEnd) (r s : ModuleRefusal) → Decodes bytes (Err d) → Decodes bytes (Err e)
    → why_not_decoded d ≡ Some r → why_not_decoded e ≡ Some s → d ≡ e
one_end bytes d e r s p q why_d why_e = err_is d e (one_answer bytes (Err d) (Err e) p q (not_memory d r why_d) (not_memory e s why_e))
