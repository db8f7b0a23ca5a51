-- Words as flags: what is read, and one bit that is set.
use Rattle.std.proofs.Common.{◌≡◌, ◌↔◌, ℕ, zero, suc, ◌+◌, ◌-◌, ◌*◌, ◌/◌, ◌%◌, ◌^◌, ◌<◌, List, [], ◌∷◌, ◌++◌, Bool, true, false, nat_eq, length, get_or, set, max, bit_or, refl, sym, ap, ◌∙◌, inl, inr, arith, length-append, eq-eqb, eqb-true, get_or-set_same, get_or-set_other}
use Rattle.std.proofs.Math.ListN.{length-set}
use Rattle.std.specs.Int.{bit_at}
use Rattle.std.proofs.lemmas.Bool.{cases_eq, cases_lt}
use Rattle.std.proofs.lemmas.List.{get_or_append_left, get_or-append_right, set-append_left, set-append_right, get_or_past, ext_get_or}
use Rattle.std.proofs.lemmas.Nat.{one_shl}
use Rattle.std.proofs.lemmas.Nat.Bits.{bit_at_or, bit_at-lt, bit_at-zero, bit_at-pow_same, bit_at-pow_other}
use Rattle.worklist.specs.Search.{IsClear, IsMarked}
use Rattle.sparse_reach.specs.Flags.{flags_from, flags}

-- ---- one word

pub length_from : (n w j : ℕ) → length (flags_from n w j) ≡ n
unfolding flags_from
length_from zero w j = refl
length_from (suc n) w j = omega (arith, length_from n w (j + 1))

from_at : (n w j k : ℕ) (d : Bool) → k < n → get_or (flags_from n w j) k d ≡ nat_eq (bit_at w (j + k)) 1
unfolding flags_from
from_at zero w j k d lt = absurd (omega arith)
from_at (suc n) w j zero d lt = let e : j ≡ j + 0 = omega arith in ap (λ i. nat_eq (bit_at w i) 1) e
from_at (suc n) w j (suc k) d lt =
    let e : j + 1 + k ≡ j + suc k = omega arith in
    from_at n w (j + 1) k d (omega arith) ∙ ap (λ i. nat_eq (bit_at w i) 1) e

pub get_from : (n w k : ℕ) (d : Bool) → k < n → get_or (flags_from n w 0) k d ≡ nat_eq (bit_at w k) 1
get_from n w k d lt = let e : 0 + k ≡ k = omega arith in from_at n w 0 k d lt ∙ ap (λ i. nat_eq (bit_at w i) 1) e

raised_same : (w k : ℕ) → bit_at (bit_or w (2 ^ k)) k ≡ 1
raised_same w k =
    let small = bit_at-lt w k in
    let one : bit_at (2 ^ k) k ≡ 1 = bit_at-pow_same k in
    let both : max (bit_at w k) (bit_at (2 ^ k) k) ≡ 1 = omega arith in
    bit_at_or w (2 ^ k) k ∙ both

raised_other : (w k i : ℕ) → (i ≡ k → ⊥) → bit_at (bit_or w (2 ^ k)) i ≡ bit_at w i
raised_other w k i ne =
    let none : bit_at (2 ^ k) i ≡ 0 = bit_at-pow_other k i ne in
    let both : max (bit_at w i) (bit_at (2 ^ k) i) ≡ bit_at w i = omega arith in
    bit_at_or w (2 ^ k) i ∙ both

pub set_from : (n w k : ℕ) → k < n → flags_from n (bit_or w (2 ^ k)) 0 ≡ set (flags_from n w 0) k true
set_from n w k lt =
    let new = bit_or w (2 ^ k) in
    let long : length (flags_from n new 0) ≡ length (set (flags_from n w 0) k true) =
    length_from n new 0 ∙ sym (length-set (flags_from n w 0) k true ∙ length_from n w 0) in
    ext_get_or false (flags_from n new 0) (set (flags_from n w 0) k true) long each
  where
    each : (i : ℕ) → i < length (flags_from n (bit_or w (2 ^ k)) 0) → get_or (flags_from n (bit_or w (2 ^ k)) 0) i false ≡ get_or (set (flags_from n w 0) k true) i false
    each i less =
        let below : i < n = omega (arith, length_from n (bit_or w (2 ^ k)) 0) in
        let here : get_or (flags_from n (bit_or w (2 ^ k)) 0) i false ≡ nat_eq (bit_at (bit_or w (2 ^ k)) i) 1 = get_from n (bit_or w (2 ^ k)) i false below in
        elim (cases_eq i k) [
          | inl e ↦
              here ∙ (ap (λ z. nat_eq (bit_at (bit_or w (2 ^ k)) z) 1) e ∙ (eq-eqb (bit_at (bit_or w (2 ^ k)) k) 1 (raised_same w k)
              ∙ sym (ap (λ z. get_or (set (flags_from n w 0) k true) z false) e
              ∙ get_or-set_same (flags_from n w 0) k true false (omega (arith, length_from n w 0)))))
          | inr ne ↦
              here ∙ (ap (λ z. nat_eq z 1) (raised_other w k i ne) ∙ sym (get_or-set_other (flags_from n w 0) k i true false ne ∙ get_from n w i false below))
        ]

-- ---- words

pub length_flags : (ws : List ℕ) → length (flags ws) ≡ length ws * 64
unfolding flags
length_flags [] = refl
length_flags (w ∷ ws) = omega (arith, length-append (flags_from 64 w 0) (flags ws), length_from 64 w 0, length_flags ws)

flags_at : (ws : List ℕ) (q r i : ℕ) → q < length ws → r < 64 → i ≡ q * 64 + r → get_or (flags ws) i false ≡ nat_eq (bit_at (get_or ws q 0) r) 1
unfolding flags
flags_at [] q r i lt below at = absurd (omega arith)
flags_at (w ∷ ws) zero r i lt below at =
    let first : i ≡ r = omega arith in
    ap (λ k. get_or (flags_from 64 w 0 ++ flags ws) k false) first
    ∙ (get_or_append_left (flags_from 64 w 0) (flags ws) false r (omega (arith, length_from 64 w 0)) ∙ get_from 64 w r false below)
flags_at (w ∷ ws) (suc q) r i lt below at =
    get_or-append_right (flags_from 64 w 0) (flags ws) 64 i false (length_from 64 w 0) (omega arith) ∙ flags_at ws q r (i - 64) (omega arith) below (omega arith)

flags_set : (ws : List ℕ) (q r i : ℕ) → q < length ws → r < 64 → i ≡ q * 64 + r → flags (set ws q (bit_or (get_or ws q 0) (2 ^ r))) ≡ set (flags ws) i true
unfolding flags
flags_set [] q r i lt below at = absurd (omega arith)
flags_set (w ∷ ws) zero r i lt below at =
    let first : i ≡ r = omega arith in
    ap (λ zs. zs ++ flags ws) (set_from 64 w r below)
    ∙ (sym (set-append_left (flags_from 64 w 0) (flags ws) r true (omega (arith, length_from 64 w 0)))
    ∙ ap (λ k. set (flags_from 64 w 0 ++ flags ws) k true) (sym first))
flags_set (w ∷ ws) (suc q) r i lt below at =
    ap (λ zs. flags_from 64 w 0 ++ zs) (flags_set ws q r (i - 64) (omega arith) below (omega arith))
    ∙ sym (set-append_right (flags_from 64 w 0) (flags ws) 64 i true (length_from 64 w 0) (omega arith))

-- ---- one flag, by its word

pub word_there : (ws : List ℕ) (x : ℕ) → x < length (flags ws) → x / 64 < length ws
word_there ws x lt = omega (arith, length_flags ws)

module _ (ws : List ℕ) (x : ℕ) (lt : x < length (flags ws)) where
  at_is : x ≡ x / 64 * 64 + x % 64
  at_is = omega arith

  pub flag_is : get_or (flags ws) x false ≡ nat_eq (bit_at (get_or ws (x / 64) 0) (x % 64)) 1
  flag_is = flags_at ws (x / 64) (x % 64) x (word_there ws x lt) (omega arith) at_is

  pub marked_is : (bit_at (get_or ws (x / 64) 0) (x % 64) ≡ 1) ↔ IsMarked (flags ws) x
  marked_is = (
    λ one. flag_is ∙ eq-eqb (bit_at (get_or ws (x / 64) 0) (x % 64)) 1 one,
    λ marked. eqb-true (bit_at (get_or ws (x / 64) 0) (x % 64)) 1 (sym flag_is ∙ marked),
  )

  pub flag_set : (new : List ℕ) → new ≡ set ws (x / 64) (bit_or (get_or ws (x / 64) 0) (1 * 2 ^ (x % 64) % 2 ^ 64)) → flags new ≡ set (flags ws) x true
  flag_set new is =
      let e : 1 * 2 ^ (x % 64) % 2 ^ 64 ≡ 2 ^ (x % 64) = one_shl (x % 64) 64 (omega arith) in
      ap flags (is ∙ ap (λ z. set ws (x / 64) (bit_or (get_or ws (x / 64) 0) z)) e)
      ∙ flags_set ws (x / 64) (x % 64) x (word_there ws x lt) (omega arith) at_is

pub flags_clear : (ws : List ℕ) → ((i : ℕ) → get_or ws i 0 ≡ 0) → IsClear (flags ws)
flags_clear ws none x = elim (cases_lt x (length (flags ws))) [
  | inl lt ↦ flag_is ws x lt ∙ (ap (λ w. nat_eq (bit_at w (x % 64)) 1) (none (x / 64)) ∙ ap (λ b. nat_eq b 1) (bit_at-zero (x % 64)))
  | inr past ↦ get_or_past (flags ws) x false past
]
