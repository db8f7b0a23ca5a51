-- Writes at places of one buffer, one after another, and how many digits a number has.
use Rattle.std.proofs.Common.{◌≡◌, ℕ, ◌+◌, ◌-◌, ◌/◌, ◌%◌, ◌^◌, ◌<◌, ◌≤◌, List, [], ◌∷◌, ◌++◌, length, take, drop, refl, ap, sym, ◌∙◌, arith, append_assoc, length-append, length-take-le, length-drop, take-add, take-take, take_at, drop_at, take_all, take-append-drop}
use Rattle.std.specs.Prelude.{decimal}
use Rattle.std.proofs.lemmas.Fmt.{decimal_digit, decimal_step}
use Rattle.itoa.proofs.Decimal.{length_four}
use Rattle.report_text.specs.Placed.{Placed}

-- a second write begins where the first ended
pub Placed-then : {a b c xs ys : List ℕ} {i j k : ℕ} → Placed a b i xs j → Placed b c j ys k → Placed a c i (xs ++ ys) k
Placed-then {a} {b} {c} {xs} {ys} {i} p q = record {
  bytes = q.bytes ∙ ap (λ l. l ++ ys) p.bytes ∙ append_assoc (take i a) xs ys;
  moved = omega (arith, p.moved, q.moved, length-append xs ys);
  long = q.long ∙ p.long;
}

-- only the first n bytes of a write are kept
Placed-less : {a b xs : List ℕ} {i j : ℕ} (n : ℕ) → i ≤ length a → n ≤ length xs → Placed a b i xs j → Placed a b i (take n xs) (i + n)
Placed-less {a} {b} {xs} {i} {j} n within few p =
    let front = length-take-le i a within in
    record {
      bytes = sym (take-take (i + n) j b (omega (arith, p.moved))) ∙ ap (take (i + n)) p.bytes ∙ take-add i n (take i a ++ xs)
          ∙ (λ k. take_at (take i a) xs i front k ++ take n (drop_at (take i a) xs i front k));
      moved = omega (arith, length-take-le n xs few);
      long = p.long;
    }

-- the digits of a number: some of the bytes of a write, and one behind them
pub Placed-last : {a b c front : List ℕ} {i j k : ℕ} (few n digit : ℕ) → i ≤ length a → few ≤ length front → take few front ≡ decimal (n / 10) → digit ≡ 48 + n % 10 → 10 ≤ n → n < 2 ^ 64
    → Placed a b i front j → Placed b c (i + few) (digit ∷ []) k → Placed a c i (decimal n) k
Placed-last {a} {b} {c} {front} {i} {j} {k} few n digit within short shown last lo hi p q =
    let both = Placed-then (Placed-less few within short p) q in
    let whole : take few front ++ digit ∷ [] ≡ decimal n = (λ x. shown x ++ last x ∷ []) ∙ sym (decimal_step n lo hi) in
    record { bytes = both.bytes ∙ ap (λ l. take i a ++ l) whole; moved = both.moved ∙ ap (λ l. i + length l) whole; long = both.long }

-- the first and the last `half` bytes of a text, laid over each other, are the text
pub Placed-ends : {a b c : List ℕ} {i j k : ℕ} (text : List ℕ) (half : ℕ) → i ≤ length a → half ≤ length text → length text ≤ half + half
    → Placed a b i (take half text) j → Placed b c (i + (length text - half)) (take half (drop (length text - half) text)) k → Placed a c i text k
Placed-ends {a} {b} {c} {i} {j} {k} text half within fits covers p q =
    let last = length text - half in
    let both = Placed-then (Placed-less last within (omega (arith, length-take-le half text fits)) p) q in
    let whole : take last (take half text) ++ take half (drop last text) ≡ text =
    (λ x. take-take last half text (omega arith) x ++ take_all half (drop last text) (omega (arith, length-drop last text)) x) ∙ take-append-drop last text in
    record { bytes = both.bytes ∙ ap (λ l. take i a ++ l) whole; moved = both.moved ∙ ap (λ l. i + length l) whole; long = both.long }

-- ---- digits

pub length_one : (n : ℕ) → n < 10 → length (decimal n) ≡ 1
length_one n h = ap length (decimal_digit n h)

length_step : (n : ℕ) → 10 ≤ n → n < 2 ^ 64 → length (decimal n) ≡ length (decimal (n / 10)) + 1
length_step n lo hi = ap length (decimal_step n lo hi) ∙ length-append _ _

pub length_two : (n : ℕ) → 10 ≤ n → n < 100 → length (decimal n) ≡ 2
length_two n lo hi = omega (arith, length_step n lo (omega arith), length_one (n / 10) (omega arith))

pub length_three : (n : ℕ) → 100 ≤ n → n < 1000 → length (decimal n) ≡ 3
length_three n lo hi = omega (arith, length_step n (omega arith) (omega arith), length_two (n / 10) (omega arith) (omega arith))

pub length_of_four : (n : ℕ) → 1000 ≤ n → n < 10000 → length (decimal n) ≡ 4
length_of_four n lo hi = omega (arith, length_step n (omega arith) (omega arith), length_three (n / 10) (omega arith) (omega arith))

pub length_five : (n : ℕ) → 10000 ≤ n → n < 100000 → length (decimal n) ≡ 5
length_five n lo hi = omega (arith, length_step n (omega arith) (omega arith), length_of_four (n / 10) (omega arith) (omega arith))

-- five digits more
pub length_more : (n : ℕ) → 100000 ≤ n → n < 2 ^ 64 → length (decimal n) ≡ length (decimal (n / 100000)) + 5
length_more n lo hi =
    let e : n / 10000 / 10 ≡ n / 100000 = omega arith in
    let step = length_step (n / 10000) (omega arith) (omega arith) in
    length_four n (omega arith) hi ∙ ap (λ k. k + 4) (step ∙ ap (λ k. length (decimal k) + 1) e) ∙ omega arith

-- digits that end where they have to
pub digits_placed : (old new digits : List ℕ) (at end start : ℕ) → end ≡ at + length digits → start + length digits ≡ end → at ≤ length old
    → drop start new ≡ digits ++ drop end old → take start new ≡ take start old → length new ≡ length old → Placed old new at digits end
digits_placed old new digits at end start is begun within after before long =
    let same : start ≡ at = omega arith in
    record {
      bytes =
          ap (λ n. take n new) is ∙ take-add at (length digits) new
          ∙ (λ k. (ap (λ n. take n new) (sym same) ∙ before ∙ ap (λ n. take n old) same) k ++ take (length digits) ((ap (λ n. drop n new) (sym same) ∙ after) k))
          ∙ ap (λ l. take at old ++ l) (take_at digits (drop end old) (length digits) refl);
      moved = is;
      long = long;
    }
