-- The last of numbers in order, between two bounds.
use Rattle.std.proofs.Common.{◌≡◌, ℕ, ◌-◌, ◌<◌, ◌≤◌, List, length, get_or, sym, inl, inr, arith}
use Rattle.std.specs.List.{AllPairs, Contains}
use Rattle.std.specs.List.Sorted.{IsNonDecreasingBy}
use Rattle.std.proofs.lemmas.Bool.{cases_lt}
use Rattle.std.proofs.lemmas.List.Elements.{All-contains_itself}
use Rattle.std.proofs.lemmas.Grind.{get_or_default_zero}
use Rattle.single_entry.specs.Last.{IsLastOf, HasNoneOf}

module _ (numbers : List ℕ) (rising : AllPairs (λ a b. a ≤ b) numbers) (begin end count : ℕ) (within : count ≤ length numbers)
    (below : (i d : ℕ) → i < count → get_or numbers i d < end) (above : (i d : ℕ) → count ≤ i → i < length numbers → end ≤ get_or numbers i d) where
  -- those below the end are among the first
  among : (v i : ℕ) → i < length numbers → get_or numbers i v ≡ v → v < end → i < count
  among v i lt is less = elim (cases_lt i count) [
    | inl first ↦ first
    | inr later ↦ let le = above i v later lt in absurd (omega arith)
  ]

  pub none_first : count ≡ 0 → HasNoneOf numbers begin end
  none_first zero_is v (i, lt, is) from less = let first = among v i lt is less in omega arith

  module _ (some : 0 < count) (last : ℕ) (last_is : last ≡ get_or numbers (count - 1) 0) where
    at_most : (v : ℕ) → Contains numbers v → v < end → v ≤ last
    at_most v (i, lt, is) less =
        let first = among v i lt is less in
        let same : get_or numbers i v ≡ get_or numbers i 0 = get_or_default_zero numbers i v lt in
        elim (cases_lt i (count - 1)) [
          | inl before ↦ let le : get_or numbers i 0 ≤ get_or numbers (count - 1) 0 = rising i (count - 1) 0 before (omega arith) in omega arith
          | inr more ↦ let e : i ≡ count - 1 = omega arith in let at : get_or numbers i 0 ≡ last = rw e (sym last_is) in omega arith
        ]

    pub none_late : last < begin → HasNoneOf numbers begin end
    none_late early v c from less = let le = at_most v c less in omega arith

    pub is_last : begin ≤ last → IsLastOf numbers begin end last
    is_last late =
        let less : get_or numbers (count - 1) 0 < end = below (count - 1) 0 (omega arith) in
        record {
          there = rw last_is (All-contains_itself numbers (count - 1) 0 (omega arith));
          from = late;
          before = omega arith;
          last = at_most;
        }

pub not_falling : (xs : List ℕ) → AllPairs (λ a b. a ≤ b) xs → IsNonDecreasingBy (λ x. x) xs
not_falling xs up i j d le within = elim (cases_lt i j) [
  | inl less ↦ up i j d less within
  | inr more ↦ let e : i ≡ j = omega arith in rw e (omega arith)
]
