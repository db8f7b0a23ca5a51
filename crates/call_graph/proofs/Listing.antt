-- Tables of lists: empty ones, one with an entry more, and a bound on all.
use Rattle.std.proofs.Common.{◌≡◌, ◌≢◌, ◌↔◌, ℕ, zero, suc, ◌<◌, List, [], ◌∷◌, ◌++◌, Vec, Global, Some, length, get_or, set, refl, ap, sym, ◌∙◌, subst, arith, inl, inr, ◌⊎◌, ⊎_elim}
use Rattle.std.specs.Prelude.{slice_get}
use Rattle.std.specs.List.{Contains}
use Rattle.std.proofs.lemmas.Bool.{cases_eq}
use Rattle.std.proofs.lemmas.Option.{slice_get-get_or}
use Rattle.std.proofs.lemmas.List.Elements.{Contains-push, Contains-push_cases, Contains-append_left, Contains-get_or}
use Rattle.worklist.specs.Lists.{Has, RowsBelow}
use Rattle.call_graph.proofs.Members.{none_in}

pub get_push : {A : Type 0} (xs : List A) (y : A) (n : ℕ) (z : A) → slice_get (xs ++ y ∷ []) n ≡ Some z → (slice_get xs n ≡ Some z) ⊎ ((n ≡ length xs) × (y ≡ z))
get_push [] y zero z e = inr (refl, cc)
get_push [] y (suc n) z e = absurd cc
get_push (x ∷ xs) y zero z e = inl e
get_push (x ∷ xs) y (suc n) z e = ⊎_elim inl (λ p. inr (ap suc p.0, p.1)) (get_push xs y n z e)

pub get_front : {A : Type 0} (xs ys : List A) (n : ℕ) (z : A) → slice_get xs n ≡ Some z → slice_get (xs ++ ys) n ≡ Some z
get_front [] ys n z e = absurd cc
get_front (x ∷ xs) ys zero z e = e
get_front (x ∷ xs) ys (suc n) z e = get_front xs ys n z e

pub get_last : {A : Type 0} (xs : List A) (y : A) → slice_get (xs ++ y ∷ []) (length xs) ≡ Some y
get_last [] y = refl
get_last (x ∷ xs) y = get_last xs y

get_set_same : {A : Type 0} (xs : List A) (n : ℕ) (y : A) → n < length xs → slice_get (set xs n y) n ≡ Some y
get_set_same [] n y lt = absurd (omega arith)
get_set_same (x ∷ xs) zero y lt = refl
get_set_same (x ∷ xs) (suc n) y lt = get_set_same xs n y (omega arith)

get_set_other : {A : Type 0} (xs : List A) (n k : ℕ) (y : A) → k ≢ n → slice_get (set xs n y) k ≡ slice_get xs k
get_set_other [] n k y ne = refl
get_set_other (x ∷ xs) zero zero y ne = absurd (ne refl)
get_set_other (x ∷ xs) zero (suc k) y ne = refl
get_set_other (x ∷ xs) (suc n) zero y ne = refl
get_set_other (x ∷ xs) (suc n) (suc k) y ne = get_set_other xs n k y (λ e. ne (ap suc e))

pub empty_more : (table now : List (Vec ℕ Global)) (row : Vec ℕ Global) → now ≡ table ++ row ∷ [] → row.items ≡ [] → ((x y : ℕ) → Has table x y → ⊥)
    → (x y : ℕ) → Has now x y → ⊥
empty_more table now row made empty none x y (r, (is, h)) = ⊎_elim
    (λ e. none x y (r, (e, h)))
    (λ e. none_in y (rw empty at (subst (λ (z : Vec ℕ Global). Contains z.items y) (sym e.1) h)))
    (get_push table row x r (rw made at is))

pub has_nothing : (x y : ℕ) → Has [] x y → ⊥
has_nothing x y (r, (is, h)) = absurd cc

module _ (table now : List (Vec ℕ Global)) (k v : ℕ) (row new : Vec ℕ Global) (lt : k < length table) (was : slice_get table k ≡ Some row)
    (more : new.items ≡ row.items ++ v ∷ []) (made : now ≡ set table k new) where
  pub pushed_has : (x y : ℕ) → Has now x y ↔ (Has table x y ⊎ ((x ≡ k) × (y ≡ v)))
  pushed_has x y = ⊎_elim here there (cases_eq x k)
    where
      at_k : slice_get now k ≡ Some new
      at_k = rw made (get_set_same table k new lt)

      here : x ≡ k → Has now x y ↔ (Has table x y ⊎ ((x ≡ k) × (y ≡ v)))
      here e = (
        λ (r, (is, h)).
            let same : new ≡ r = let a = sym at_k ∙ (rw e at is) in cc in
            let h' : Contains (row.items ++ v ∷ []) y = rw more at (subst (λ (z : Vec ℕ Global). Contains z.items y) (sym same) h) in
            ⊎_elim (λ c. inl (row, (rw e was, c))) (λ c. inr (e, sym c)) (Contains-push_cases row.items v y h'),
        λ s. (
          new,
          (
            rw e at_k,
            rw more (⊎_elim
                (λ (r, (is, h)).
                let same : r ≡ row = let a = sym (rw e at is) ∙ was in cc in
                Contains-append_left row.items (v ∷ []) y (subst (λ (z : Vec ℕ Global). Contains z.items y) same h))
                (λ p. subst (λ (z : ℕ). Contains (row.items ++ v ∷ []) z) (sym p.1) (Contains-push row.items v))
                s),
          ),
        ),
      )

      there : x ≢ k → Has now x y ↔ (Has table x y ⊎ ((x ≡ k) × (y ≡ v)))
      there ne =
          let same : slice_get now x ≡ slice_get table x = rw made (get_set_other table k x new ne) in (
            λ (r, (is, h)). inl (r, (sym same ∙ is, h)),
            λ s. ⊎_elim (λ (r, (is, h)). (r, (same ∙ is, h))) (λ p. absurd (ne p.0)) s,
          )

-- what is there already is no gain
pub known_has : (table : List (Vec ℕ Global)) (k v : ℕ) → Has table k v → (x y : ℕ) → Has table x y ↔ (Has table x y ⊎ ((x ≡ k) × (y ≡ v)))
known_has table k v known x y = (
  λ h. inl h,
  λ s. ⊎_elim (λ h. h) (λ p. subst (λ (z : ℕ). Has table z y) (sym p.0) (subst (Has table k) (sym p.1) known)) s,
)

pub rows_below : (n : ℕ) (table : List (Vec ℕ Global)) → ((x y : ℕ) → Has table x y → y < n) → RowsBelow n table
rows_below n table below = λ k d lt j e within.
    below k (get_or (get_or table k d).items j e) (get_or table k d, (slice_get-get_or table k d lt, Contains-get_or (get_or table k d).items j e within))
