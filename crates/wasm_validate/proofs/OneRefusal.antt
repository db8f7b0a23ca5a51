-- A module has one answer.
use Rattle.std.proofs.Common.{◌≡◌, inl, inr, ℕ, refl, ap, sym, ◌∙◌, subst, arith}
use Rattle.std.specs.Prelude.{if◌then◌else◌, ◌==◌, length}
use Rattle.std.proofs.lemmas.Bool.{cases_order}
use Rattle.wasm_types.specs.declared.module.FuncType.{FuncType}
use Rattle.wasm_types.specs.declared.module.Limits.{Limits}
use Rattle.wasm_types.specs.declared.module.Body.{Body}
use Rattle.wasm_types.specs.declared.module.Module.{Module}
use Rattle.wasm_types.specs.declared.place.LimitKind.{LimitKind}
use Rattle.wasm_types.specs.declared.place.LimitKind.TheVariants as limit
use Rattle.wasm_types.specs.Sections.{local_count}
use Rattle.wasm_types.specs.Sizes.{positions}
use Rattle.wasm_types.specs.Subset.{HasNoFloatIn, Counts}
use Rattle.wasm_types.specs.Validity.{Holds}
use Rattle.wasm_validate.specs.declared.refusal.AdmitEnd.{AdmitEnd}
use Rattle.wasm_validate.specs.declared.refusal.AdmitEnd.TheVariants as end
use Rattle.wasm_validate.specs.First.{float_order, valid_order}
use Rattle.wasm_validate.specs.Admission.{limit_order, IsFirstOver, told_number, Refuses, IsAdmitted}
use Rattle.wasm_validate.proofs.PartLemmas.{float_at, float_apart, valid_at, valid_apart, one_first}

-- ---- limits

-- the kind at a place of the order
abbrev limit_at : ℕ → LimitKind
limit_at n = if n == 0 then limit.Functions else if n == 1 then limit.Params else if n == 2 then limit.Globals else if n == 3 then limit.TableSize else if n == 4 then limit.Locals else limit.Positions

limit_back : (which : LimitKind) → limit_at (limit_order which) ≡ which
limit_back limit.Functions = refl
limit_back limit.Params = refl
limit_back limit.Globals = refl
limit_back limit.TableSize = refl
limit_back limit.Locals = refl
limit_back limit.Positions = refl

-- one number of a kind is counted once
one_count : (m : Module) (which : LimitKind) (k n c : ℕ) → Counts m which k n → Counts m which k c → n ≡ c
one_count m limit.Functions k n c p q = p.1 ∙ sym q.1
one_count m limit.Params k n c p q = let same : p.0 ≡ q.0 = cc in p.2 ∙ ap (λ (t : FuncType). length t.params) same ∙ sym q.2
one_count m limit.Globals k n c p q = p.1 ∙ sym q.1
one_count m limit.TableSize k n c p q = let same : p.0 ≡ q.0 = cc in p.2 ∙ ap (λ (l : Limits). l.min) same ∙ sym q.2
one_count m limit.Locals k n c p q = let same : p.0 ≡ q.0 = cc in p.2 ∙ ap (λ (b : Body). local_count b.locals) same ∙ sym q.2
one_count m limit.Positions k n c p q = let same : p.0 ≡ q.0 = cc in p.2 ∙ ap (λ (b : Body). positions b.code) same ∙ sym q.2

-- two numbers of one kind neither of which comes before the other
same_number : (m : Module) (which : LimitKind) (j k n c : ℕ) → IsFirstOver m which j n → IsFirstOver m which k c → (j ≡ k) × (n ≡ c)
same_number m which j k n c a b = elim (cases_order j k) [
  | inl e ↦ (e, one_count m which k n c (subst (λ i. Counts m which i n) e a.counted) b.counted)
  | inr other ↦ elim other [
    | inl less ↦ absurd (omega (arith, b.numbers j n less a.counted, a.over))
    | inr more ↦ absurd (omega (arith, a.numbers k c more b.counted, b.over))
  ]
]

-- two kinds neither of which comes before the other
same_kind : (m : Module) (v w : LimitKind) (j k n c : ℕ) → IsFirstOver m v j n → IsFirstOver m w k c → v ≡ w
same_kind m v w j k n c a b = elim (cases_order (limit_order v) (limit_order w)) [
  | inl e ↦ sym (limit_back v) ∙ ap limit_at e ∙ limit_back w
  | inr other ↦ elim other [
    | inl less ↦ absurd (omega (arith, b.kinds v j n less a.counted, a.over))
    | inr more ↦ absurd (omega (arith, a.kinds w k c more b.counted, b.over))
  ]
]

-- what is told of two first numbers over their limits
same_limit : (m : Module) (v w : LimitKind) (at here n c j k : ℕ) → IsFirstOver m v j n → IsFirstOver m w k c → at ≡ told_number v j
    → here ≡ told_number w k → end.Limit v at n ≡ end.Limit w here c
same_limit m v w at here n c j k a b p q =
    let kind = same_kind m v w j k n c a b in
    let numbers = same_number m w j k n c (subst (λ (z : LimitKind). IsFirstOver m z j n) kind a) b in
    let told : at ≡ here = p ∙ ap (λ (z : LimitKind). told_number z j) kind ∙ ap (told_number w) numbers.0 ∙ sym q in
    let counted : n ≡ c = numbers.1 in
    cc

-- ---- the answer

pub one_refusal : (m : Module) (a b : AdmitEnd) → Refuses m a → Refuses m b → (a ≡ end.Memory → ⊥) → (b ≡ end.Memory → ⊥) → a ≡ b
one_refusal m end.Memory b h k p q = absurd (p refl)
one_refusal m (end.Float x) (end.Float y) h k p q = ap end.Float (one_first (HasNoFloatIn m) float_order float_at x y float_apart h k)
one_refusal m (end.Float x) (end.Limit w at n) h k p q = absurd (h.0 (k.0 x))
one_refusal m (end.Float x) (end.Invalid y) h k p q = absurd (h.0 (k.0 x))
one_refusal m (end.Float x) end.Memory h k p q = absurd (q refl)
one_refusal m (end.Limit v at n) (end.Float y) h k p q = absurd (k.0 (h.0 y))
one_refusal m (end.Limit v at n) (end.Limit w here c) h k p q = same_limit m v w at here n c h.1.0 k.1.0 h.1.1 k.1.1 h.1.2 k.1.2
one_refusal m (end.Limit v at n) (end.Invalid y) h k p q = absurd (omega (arith, k.1 v h.1.0 n h.1.1.counted, h.1.1.over))
one_refusal m (end.Limit v at n) end.Memory h k p q = absurd (q refl)
one_refusal m (end.Invalid x) (end.Float y) h k p q = absurd (k.0 (h.0 y))
one_refusal m (end.Invalid x) (end.Limit w at n) h k p q = absurd (omega (arith, h.1 w k.1.0 n k.1.1.counted, k.1.1.over))
one_refusal m (end.Invalid x) (end.Invalid y) h k p q = ap end.Invalid (one_first (Holds m) valid_order valid_at x y valid_apart h.2 k.2)
one_refusal m (end.Invalid x) end.Memory h k p q = absurd (q refl)

pub none_refused : (m : Module) (a : AdmitEnd) → IsAdmitted m → Refuses m a → a ≡ end.Memory
none_refused m (end.Float p) h k = absurd (k.0 (h.no_float p))
none_refused m (end.Limit which at n) h k = absurd (omega (arith, h.limits which k.1.0 n k.1.1.counted, k.1.1.over))
none_refused m (end.Invalid p) h k = absurd (k.2.0 (h.valid.1 p))
none_refused m end.Memory h k = refl
