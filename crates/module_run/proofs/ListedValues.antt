-- The values that numbers stand for, one after another.
use Rattle.std.proofs.Common.{◌≡◌, ◌≢◌, ℕ, zero, suc, ◌+◌, ◌<◌, ℤ, pos, negsuc, List, [], ◌∷◌, ◌++◌, length, drop, get_or, Bool, true, false, if◌then◌else◌, Option, Some, None, refl, sym, ap, ◌∙◌, subst, arith}
use Rattle.std.specs.Prelude.{option_and_then}
use Rattle.std.proofs.lemmas.Bool.{false≢true}
use Rattle.std.proofs.lemmas.List.{append-nil, append_assoc}
use Rattle.wasm_types.specs.declared.module.ValType.{ValType}
use Rattle.wasm_types.specs.declared.module.ValType.TheVariants as type
use Rattle.wasm_types.specs.declared.module.Value.{Value}
use Rattle.wasm_types.specs.Hosts.{in_range}
use Rattle.wasm_meaning.specs.Fits.{HasType, HaveTypes}
use Rattle.wasm_meaning.specs.HostCalls.{value_for}
use Rattle.wasm_meaning.proofs.Values.{value_in_fits, some_same, none_some}
use Rattle.module_run.specs.Values.{values_for}

-- these values, and those behind them, where there are any
abbrev pub joined : List Value → Option (List Value) → Option (List Value)
joined front rest = option_and_then (λ vs. Some (front ++ vs)) rest

none_before : (b : Bool) (v : Value) (rest : Option (List Value)) → rest ≡ None
    → (if b then option_and_then (λ vs. Some (v ∷ vs)) rest else None) ≡ None
none_before true v rest h = ap (option_and_then (λ vs. Some (v ∷ vs))) h
none_before false v rest h = refl

pub lengths_differ : (ts : List ValType) (zs : List ℤ) → length ts ≢ length zs → values_for ts zs ≡ None
lengths_differ [] [] n = absurd (n refl)
lengths_differ [] (z ∷ zs) n = refl
lengths_differ (t ∷ ts) [] n = refl
lengths_differ (t ∷ ts) (z ∷ zs) n = none_before (in_range t z) (value_for t z) (values_for ts zs) (lengths_differ ts zs (λ e. n (ap suc e)))

one_more : (front : List Value) (v : Value) (rest : Option (List Value))
    → joined (front ++ v ∷ []) rest ≡ joined front (option_and_then (λ vs. Some (v ∷ vs)) rest)
one_more front v None = refl
one_more front v (Some vs) = ap Some (append_assoc front (v ∷ []) vs)

module _ (dt : ValType) (dz : ℤ) where
  abbrev rest_from : List ValType → List ℤ → ℕ → Option (List Value)
  rest_from ts zs i = values_for (drop i ts) (drop i zs)

  next_fits : (ts : List ValType) (zs : List ℤ) (i : ℕ) → i < length ts → i < length zs → in_range (get_or ts i dt) (get_or zs i dz) ≡ true
      → rest_from ts zs i ≡ option_and_then (λ vs. Some (value_for (get_or ts i dt) (get_or zs i dz) ∷ vs)) (rest_from ts zs (suc i))
  next_fits [] zs i lt lt' h = absurd (omega arith)
  next_fits (t ∷ ts) [] i lt lt' h = absurd (omega arith)
  next_fits (t ∷ ts) (z ∷ zs) zero lt lt' h =
      ap (λ b. if b then option_and_then (λ vs. Some (value_for t z ∷ vs)) (values_for ts zs) else None) h
  next_fits (t ∷ ts) (z ∷ zs) (suc i) lt lt' h = next_fits ts zs i (omega arith) (omega arith) h

  next_unfit : (ts : List ValType) (zs : List ℤ) (i : ℕ) → i < length ts → i < length zs → in_range (get_or ts i dt) (get_or zs i dz) ≡ false
      → rest_from ts zs i ≡ None
  next_unfit [] zs i lt lt' h = absurd (omega arith)
  next_unfit (t ∷ ts) [] i lt lt' h = absurd (omega arith)
  next_unfit (t ∷ ts) (z ∷ zs) zero lt lt' h =
      ap (λ b. if b then option_and_then (λ vs. Some (value_for t z ∷ vs)) (values_for ts zs) else None) h
  next_unfit (t ∷ ts) (z ∷ zs) (suc i) lt lt' h = next_unfit ts zs i (omega arith) (omega arith) h

  pub value_fits : (ts : List ValType) (zs : List ℤ) (i : ℕ) (front : List Value) → i < length ts → i < length zs
      → in_range (get_or ts i dt) (get_or zs i dz) ≡ true → joined front (rest_from ts zs i) ≡ values_for ts zs
      → joined (front ++ value_for (get_or ts i dt) (get_or zs i dz) ∷ []) (rest_from ts zs (i + 1)) ≡ values_for ts zs
  value_fits ts zs i front lt lt' h so_far =
      let v = value_for (get_or ts i dt) (get_or zs i dz) in
      let next : suc i ≡ i + 1 = omega arith in
      subst (λ k. joined (front ++ v ∷ []) (rest_from ts zs k) ≡ values_for ts zs) next
      (one_more front v (rest_from ts zs (suc i)) ∙ sym (ap (joined front) (next_fits ts zs i lt lt' h)) ∙ so_far)

  pub value_unfit : (ts : List ValType) (zs : List ℤ) (i : ℕ) (front : List Value) → i < length ts → i < length zs
      → in_range (get_or ts i dt) (get_or zs i dz) ≡ false → joined front (rest_from ts zs i) ≡ values_for ts zs → None ≡ values_for ts zs
  value_unfit ts zs i front lt lt' h so_far = sym (ap (joined front) (next_unfit ts zs i lt lt' h)) ∙ so_far

past_all : {A : Type 0} (xs : List A) (i : ℕ) → i ≡ length xs → drop i xs ≡ []
past_all [] zero e = refl
past_all [] (suc i) e = absurd (omega arith)
past_all (x ∷ xs) zero e = absurd (omega arith)
past_all (x ∷ xs) (suc i) e = past_all xs i (omega arith)

pub all_fit : (ts : List ValType) (zs : List ℤ) (i : ℕ) (front : List Value) → i ≡ length ts → i ≡ length zs
    → joined front (values_for (drop i ts) (drop i zs)) ≡ values_for ts zs → Some front ≡ values_for ts zs
all_fit ts zs i front e e' so_far =
    ap Some (sym (append-nil front))
    ∙ sym (ap (λ l. joined front (values_for l (drop i zs))) (past_all ts i e) ∙ ap (λ l. joined front (values_for [] l)) (past_all zs i e'))
    ∙ so_far

-- ---- one value

pub unfit : (b : Bool) (v : Value) → None ≡ (if b then Some v else None) → b ≡ false
unfit true v e = none_some e
unfit false v e = refl

pub fit : (b : Bool) (v w : Value) → Some w ≡ (if b then Some v else None) → (b ≡ true) × (w ≡ v)
fit true v w e = (refl, some_same e)
fit false v w e = none_some (sym e)

-- ---- types

value_typed : (t : ValType) (z : ℤ) → in_range t z ≡ true → HasType (value_for t z) t
value_typed type.I32 (pos n) h = value_in_fits type.I32 n tt
value_typed type.I32 (negsuc n) h = value_in_fits type.I32 _ tt
value_typed type.I64 (pos n) h = value_in_fits type.I64 n tt
value_typed type.I64 (negsuc n) h = value_in_fits type.I64 _ tt
value_typed type.F32 z h = absurd (false≢true h)
value_typed type.F64 z h = absurd (false≢true h)

one_typed : (t : ValType) (ts : List ValType) (z : ℤ) (vs : List Value) (b : Bool) (rest : Option (List Value)) → in_range t z ≡ b
    → ((ws : List Value) → rest ≡ Some ws → HaveTypes ws ts)
    → (if b then option_and_then (λ vs. Some (value_for t z ∷ vs)) rest else None) ≡ Some vs → HaveTypes vs (t ∷ ts)
one_typed t ts z vs false rest is later h = none_some h
one_typed t ts z vs true None is later h = none_some h
one_typed t ts z vs true (Some ws) is later h = subst (λ l. HaveTypes l (t ∷ ts)) (some_same h) (value_typed t z is, later ws refl)

-- the values have the types that they were made for
pub values_typed : (ts : List ValType) (zs : List ℤ) (vs : List Value) → values_for ts zs ≡ Some vs → HaveTypes vs ts
values_typed [] [] vs e = subst (λ l. HaveTypes l []) (some_same e) tt
values_typed [] (z ∷ zs) vs e = none_some e
values_typed (t ∷ ts) [] vs e = none_some e
values_typed (t ∷ ts) (z ∷ zs) vs e = one_typed t ts z vs (in_range t z) (values_for ts zs) refl (λ ws h. values_typed ts zs ws h) e
