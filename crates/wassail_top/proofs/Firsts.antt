-- Of finitely many numbers one is the first at which a fact doesn't hold, if there is one: that isn't refuted.
use Rattle.std.proofs.Common.{◌≡◌, ◌<◌, ◌⊎◌, ℕ, zero, suc, List, length, get_or, Option, Some, None, inl, inr, refl, subst, arith}
use Rattle.std.specs.Prelude.{All, slice_get}
use Rattle.std.proofs.lemmas.Bool.{cases_lt}
use Rattle.std.proofs.lemmas.Option.{slice_get-get_or}
use Rattle.wasm_decode.specs.Entries.{FirstNot}
use Rattle.slice_whole.proofs.NotRefuted.{NotRefuted, either}

-- P holds below n, or it doesn't at a number and holds below that
abbrev pub First : (ℕ → Type 0) → ℕ → Type 0
First P n = ((k : ℕ) → k < n → P k) ⊎ ((k : ℕ) × (P k → ⊥) × ((j : ℕ) → j < k → P j))

one_more : (P : ℕ → Type 0) (n : ℕ) → First P n → (P n) ⊎ (P n → ⊥) → First P (suc n)
one_more P n (inr found) here = inr found
one_more P n (inl all) (inr bad) = inr (n, bad, all)
one_more P n (inl all) (inl good) =
    inl (λ k lt. elim (cases_lt k n) [ inl less ↦ all k less | inr more ↦ (let same : n ≡ k = omega arith in subst P same good) ])

pub first : (P : ℕ → Type 0) (n : ℕ) → NotRefuted (First P n)
first P zero never = never (inl (λ k lt. absurd (omega arith)))
first P (suc n) never = first P n (λ found. either (P n) (λ here. never (one_more P n found here)))

-- ---- the entries of a list

abbrev Here : {A : Type 0} → (A → Type 0) → List A → ℕ → Type 0
Here {A} P xs k = (x : A) → slice_get xs k ≡ Some x → P x

abbrev pub FirstEntry : {A : Type 0} → (A → Type 0) → List A → Type 0
FirstEntry P xs = (All P xs) ⊎ ((k : ℕ) × FirstNot P xs k)

found_at : {A : Type 0} (P : A → Type 0) (xs : List A) (k : ℕ) (o : Option A) → slice_get xs k ≡ o → (Here P xs k → ⊥) → ((j : ℕ) → j < k → Here P xs j)
    → (FirstEntry P xs → ⊥) → ⊥
found_at P xs k None is bad before never = bad (λ x there. absurd cc)
found_at P xs k (Some x) is bad before never =
    never (inr (
      k,
      record {
        entry = x;
        there = is;
        not_so = λ p. bad (λ y there. let same : x ≡ y = cc in subst P same p);
        before = λ j y less there. before j less y there;
      },
    ))

of_first : {A : Type 0} (P : A → Type 0) (xs : List A) → First (Here P xs) (length xs) → (FirstEntry P xs → ⊥) → ⊥
of_first P xs (inl all) never = never (inl (λ k d lt. all k lt (get_or xs k d) (slice_get-get_or xs k d lt)))
of_first P xs (inr found) never = found_at P xs found.0 (slice_get xs found.0) refl found.1 found.2 never

pub first_entry : {A : Type 0} (P : A → Type 0) (xs : List A) → NotRefuted (FirstEntry P xs)
first_entry P xs never = first (Here P xs) (length xs) (λ found. of_first P xs found never)
