-- Bodies, and where a function has one.
use Rattle.std.proofs.Common.{◌≡◌, ◌↔◌, ◌≤◌, ◌<◌, ◌-◌, ◌^◌, ◌||◌, ℕ, Bool, if◌then◌else◌, true, false, List, [], ◌∷◌, length, not, nat_lt, Option, Some, None, All, IsTrue, refl, sym, subst, arith}
use Rattle.std.specs.List.{slice_get}
use Rattle.std.proofs.lemmas.List.Elements.{All-get_or}
use Rattle.std.proofs.lemmas.Option.{get_or_from_slice_get, slice_get_within}
use Rattle.wasm_types.specs.declared.module.ValType.{ValType}
use Rattle.wasm_types.specs.declared.module.FuncType.{FuncType}
use Rattle.wasm_types.specs.declared.module.Body.{Body}
use Rattle.wasm_types.specs.declared.module.Module.{Module}
use Rattle.wasm_types.specs.declared.instr.Instr.{Instr}
use Rattle.wasm_types.specs.Code.{code_of}
use Rattle.wasm_types.specs.Validity.{values_of, Leads, IsValidBody}
use Rattle.wasm_types.specs.Sections.{local_count}
use Rattle.wasm_types.specs.Spaces.{local_types, import_count, func_types, body_of}
use Rattle.wasm_types.specs.WellFormed.{ProperBody}
use Rattle.body_check.specs.Labels.{labels_of}

pub one-value : (rs : List ValType) → length rs ≤ 1 → values_of (slice_get rs 0) ≡ rs
one-value [] h = refl
one-value (r ∷ []) h = refl
one-value (r ∷ q ∷ rs) h = absurd (omega arith)

-- that a body's code leads from nothing to the result, in the words of the definition
pub valid-body : (m : Module) (t : FuncType) (b : Body) (locals : List ValType) (result : Option ValType) (ks : List (Option ValType)) (code : List Instr) (ok : Bool)
    → locals ≡ local_types t b → values_of result ≡ t.results → ks ≡ [] → code ≡ b.code
    → IsTrue ok ↔ Leads (record { inside = m; locals = locals; result = values_of result }) (values_of result ∷ labels_of ks) (code_of code) [] (values_of result)
    → IsTrue ok ↔ IsValidBody m t b
valid-body m t b locals result ks code ok el er ek ec h =
    let a = subst (λ (z : List Instr). IsTrue ok ↔ Leads (record { inside = m; locals = locals; result = values_of result }) (values_of result ∷ labels_of ks) (code_of z) [] (values_of result)) ec h in
    let d = subst (λ (z : List (Option ValType)). IsTrue ok ↔ Leads (record { inside = m; locals = locals; result = values_of result }) (values_of result ∷ labels_of z) (code_of b.code) [] (values_of result)) ek a in
    let e = subst (λ (z : List ValType). IsTrue ok ↔ Leads (record { inside = m; locals = locals; result = z }) (z ∷ []) (code_of b.code) [] z) er d in
    subst (λ (z : List ValType). IsTrue ok ↔ Leads (record { inside = m; locals = z; result = t.results }) (t.results ∷ []) (code_of b.code) [] t.results) el e

-- the body of a function is among the bodies
pub body-among : (m : Module) (f : ℕ) (b : Body) → body_of m f ≡ Some b → slice_get m.bodies (f - import_count m) ≡ Some b
body-among m f b e = go (nat_lt f (import_count m) || not (nat_lt f (length (func_types m)))) e
  where
    go : (q : Bool) → (if q then None else slice_get m.bodies (f - import_count m)) ≡ Some b → slice_get m.bodies (f - import_count m) ≡ Some b
    go true e = absurd cc
    go false e = e

pub locals-few : (m : Module) (f : ℕ) (b : Body) → All ProperBody m.bodies → Some b ≡ body_of m f → local_count b.locals < 2 ^ 32
locals-few m f b h e =
    let at = body-among m f b (sym e) in
    let proper : ProperBody b = subst ProperBody (get_or_from_slice_get m.bodies (f - import_count m) b b at) (All-get_or ProperBody m.bodies (f - import_count m) b (slice_get_within m.bodies (f - import_count m) b at) h) in
    proper.1
