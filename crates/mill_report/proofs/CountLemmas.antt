-- Tests that hold together are one, and a body of a sealed module has few positions.
use Rattle.std.proofs.Common.{◌≡◌, ℕ, ◌+◌, ◌-◌, ◌<◌, ◌≤◌, ◌∙◌, List, Bool, true, false, Some, get_or, length, slice_get, take, refl, sym, ap, ap₂, subst, arith}
use Rattle.std.specs.Prelude.{sum_by}
use Rattle.std.proofs.lemmas.List.Sums.{sum_by_more}
use Rattle.std.proofs.lemmas.Option.{slice_get-get_or}
use Rattle.wasm_types.specs.declared.module.Body.{Body}
use Rattle.wasm_types.specs.declared.module.Module.{Module}
use Rattle.wasm_types.specs.declared.place.LimitKind.TheVariants as limit
use Rattle.wasm_types.specs.Sizes.{positions}
use Rattle.wasm_types.specs.Spaces.{import_count}
use Rattle.wasm_types.specs.Subset.{IsSealed}

pub same_bool : (a b : Bool) → (a ≡ true → b ≡ true) → (b ≡ true → a ≡ true) → a ≡ b
same_bool true true p q = refl
same_bool true false p q = sym (p refl)
same_bool false true p q = q refl
same_bool false false p q = refl

-- ---- the list that is gone through is that of the module's bodies

pub few_positions : (m : Module) → IsSealed m → (xs : List Body) → xs ≡ m.bodies → (k : ℕ) (d : Body) → k < length xs → positions (get_or xs k d).code ≤ 200000
few_positions m seal xs same k d lt =
    let own : k ≡ (import_count m + k) - import_count m = omega arith in
    let b = get_or xs k d in
    let at : slice_get m.bodies k ≡ Some b = ap (λ (ys : List Body). slice_get ys k) (sym same) ∙ slice_get-get_or xs k d lt in
    seal.limits limit.Positions (import_count m + k) (positions b.code) (b, (omega arith, subst (λ (i : ℕ). slice_get m.bodies i ≡ Some b) own at), refl)

abbrev pub counted : Body → ℕ
counted b = positions b.code

pub more_positions : (xs ys : List Body) → xs ≡ ys → (k total n : ℕ) (d : Body) → k < length xs → total ≡ sum_by counted (take k ys)
    → n ≡ positions (get_or xs k d).code → total + n ≡ sum_by counted (take (k + 1) ys)
more_positions xs ys same k total n d lt sum is =
    subst (λ (zs : List Body). total ≡ sum_by counted (take k zs) → total + n ≡ sum_by counted (take (k + 1) zs)) same
    (λ before. ap₂ {A = ℕ} {B = ℕ} (λ a b. a + b) before is ∙ sym (sum_by_more counted xs k d lt)) sum
