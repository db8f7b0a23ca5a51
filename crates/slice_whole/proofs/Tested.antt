-- Facts of finitely many things have tests: that they have none is impossible.
use Rattle.std.proofs.Common.{◌≡◌, ◌↔◌, ◌⊎◌, ◌<◌, ◌≤◌, ℕ, zero, suc, Bool, true, false, inl, inr, refl, subst, arith}
use Rattle.std.proofs.lemmas.Bool.{cases_lt}
use Rattle.wasm_types.specs.declared.place.Loc.{Loc}
use Rattle.wasm_types.specs.declared.place.Loc.TheVariants.{Local, Global, Mem, Size, Host}
use Rattle.slice_whole.proofs.NotRefuted.{NotRefuted, either}

-- a test of a fact
abbrev pub Test : Type 0 → Type 0
Test P = (b : Bool) × ((b ≡ true) ↔ P)

test_by : (P : Type 0) → P ⊎ (P → ⊥) → Test P
test_by P (inl p) = (true, (λ on. p, λ q. refl))
test_by P (inr bad) = (false, (λ on. absurd cc, λ p. absurd (bad p)))

pub tested : (P : Type 0) → NotRefuted (Test P)
tested P never = either P (λ h. never (test_by P h))

-- of what never holds
pub untrue : (P : Type 0) → (P → ⊥) → Test P
untrue P bad = test_by P (inr bad)

-- ---- numbers

one_more : (B : ℕ → Type 0) (n : ℕ) → ((k : ℕ) → k < n → B k) → B n → (k : ℕ) → k < suc n → B k
one_more B n all here k lt = elim (cases_lt k n) [ inl less ↦ all k less | inr more ↦ (let same : n ≡ k = omega arith in subst B same here) ]

below : (B : ℕ → Type 0) (n : ℕ) → ((k : ℕ) → NotRefuted (B k)) → NotRefuted ((k : ℕ) → k < n → B k)
below B zero one never = never (λ k lt. absurd (omega arith))
below B (suc n) one never = below B n one (λ all. one n (λ here. never (one_more B n all here)))

-- what isn't refuted of each number, and holds from one on, isn't refuted of all
pub each : (B : ℕ → Type 0) (n : ℕ) → ((k : ℕ) → NotRefuted (B k)) → ((k : ℕ) → n ≤ k → B k) → NotRefuted ((k : ℕ) → B k)
each B n one past never = below B n one (λ all. never (λ k. elim (cases_lt k n) [ inl less ↦ all k less | inr more ↦ past k more ]))

-- ---- locations

-- where it holds of so many locals and so many globals at most
module _ (P : Loc → Type 0) (locals globals : ℕ) (past_local : (k : ℕ) → locals ≤ k → P (Local k) → ⊥)
    (past_global : (k : ℕ) → globals ≤ k → P (Global k) → ⊥) where
  by_place : ((k : ℕ) → Test (P (Local k))) → ((k : ℕ) → Test (P (Global k))) → Test (P Mem) → Test (P Size) → Test (P Host) → (x : Loc) → Test (P x)
  by_place l g mem size host (Local k) = l k
  by_place l g mem size host (Global k) = g k
  by_place l g mem size host Mem = mem
  by_place l g mem size host Size = size
  by_place l g mem size host Host = host

  pub places : NotRefuted ((x : Loc) → Test (P x))
  places never =
      each (λ k. Test (P (Local k))) locals (λ k. tested (P (Local k))) (λ k le. untrue (P (Local k)) (past_local k le)) (λ l.
      each (λ k. Test (P (Global k))) globals (λ k. tested (P (Global k))) (λ k le. untrue (P (Global k)) (past_global k le)) (λ g.
      tested (P Mem) (λ mem. tested (P Size) (λ size. tested (P Host) (λ host. never (by_place l g mem size host))))))
