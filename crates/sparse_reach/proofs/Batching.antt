-- Batches one after another, and the words of nodes by them.
use Rattle.std.proofs.Common.{◌≡◌, ◌↔◌, ℕ, zero, suc, ◌+◌, ◌*◌, ◌/◌, ◌%◌, ◌<◌, ◌≤◌, List, [], ◌∷◌, ◌++◌, Vec, Global, false, true, nat_eq, Option, Some, None, length, get_or, take, drop, refl, sym, ap, ◌∙◌, subst, inl, inr, ◌⊎◌, ⊎_elim, arith}
use Rattle.std.specs.Prelude.{slice_get, position, nat_lt}
use Rattle.std.specs.List.{position_or_len}
use Rattle.std.specs.Int.{bit_at}
use Rattle.std.specs.List.{All, AllByRecursion, IsDistinct}
use Rattle.std.proofs.Math.Nat.{mod-lt}
use Rattle.std.proofs.Math.Seq.{take-append_seam}
use Rattle.std.proofs.lemmas.Bool.{cases_lt, cases_Bool, lt-ltb}
use Rattle.std.proofs.lemmas.Bool.Decides.{Decides-eqb}
use Rattle.std.proofs.lemmas.List.{get_or_past}
use Rattle.std.proofs.lemmas.List.FromFn.{get_or-map-range_with_len, length-map-range_with_len}
use Rattle.std.proofs.lemmas.List.Quantifiers.{position-Some}
use Rattle.std.proofs.lemmas.List.Sums.{position_or_len_is}
use Rattle.std.proofs.lemmas.Nat.{mul-add-lt, mul-le, div-mul-add, mod-mul-add}
use Rattle.std.proofs.lemmas.Nat.Bits.{bit_at-zero}
use Rattle.std.proofs.lemmas.Option.{slice_get_read}
use Rattle.worklist.specs.declared.labels.Root.{Root}
use Rattle.worklist.specs.Bits.{HasBit}
use Rattle.worklist.specs.Reached.{Reached}
use Rattle.worklist.specs.Roots.{IsRootOf}
use Rattle.sparse_reach.specs.declared.met.Edge.{Edge}
use Rattle.sparse_reach.specs.Batches.{AreLabels, AreBatches, word_of, word_in, by_node}
use Rattle.sparse_reach.specs.Met.{IsNumber, Listed, ByNumber}
use Rattle.sparse_reach.proofs.Going.{bit_get, bit_put}
use Rattle.sparse_reach.proofs.Numbering.{same_node, reached_closed}

get_push : {A : Type 0} (xs : List A) (y : A) (n : ℕ) (z : A) → slice_get (xs ++ y ∷ []) n ≡ Some z → (slice_get xs n ≡ Some z) ⊎ ((n ≡ length xs) × (y ≡ z))
get_push [] y zero z e = inr (refl, cc)
get_push [] y (suc n) z e = absurd cc
get_push (x ∷ xs) y zero z e = inl e
get_push (x ∷ xs) y (suc n) z e = ⊎_elim inl (λ p. inr (ap suc p.0, p.1)) (get_push xs y n z e)

pub batches_none : (roots : List Root) (edges : List Edge) → AreBatches roots edges []
batches_none roots edges b words is = absurd cc

pub batches_more : (roots : List Root) (edges : List Edge) (batches : List (Vec ℕ Global)) (at : ℕ) (words : Vec ℕ Global) → at ≡ length batches
    → AreBatches roots edges batches → AreLabels roots edges at words.items → AreBatches roots edges (batches ++ words ∷ [])
batches_more roots edges batches at words long so_far one b found is = ⊎_elim
    (λ e. so_far b found e)
    (λ p. let here : at ≡ b = long ∙ sym p.0 in
    subst (λ i. AreLabels roots edges i found.items) here (subst (λ (w : Vec ℕ Global). AreLabels roots edges at w.items) p.1 one))
    (get_push batches words b found is)

-- ---- a number stands for one node, and a node has one number

all_at : (P : ℕ → Type 0) (xs : List ℕ) (k x : ℕ) → AllByRecursion P xs → IsNumber xs x k → P x
all_at P [] k x all (lt, is) = absurd (omega arith)
all_at P (y ∷ ys) zero x all (lt, is) = subst P is all.0
all_at P (y ∷ ys) (suc k) x all (lt, is) = all_at P ys k x all.1 (omega arith, is)

same_number : (nodes : List ℕ) → IsDistinct nat_eq nodes → (x j k : ℕ) → IsNumber nodes x j → IsNumber nodes x k → j ≡ k
unfolding IsDistinct
same_number [] apart x j k (lt, is) h = absurd (omega arith)
same_number (y ∷ ys) apart x zero zero g h = refl
same_number (y ∷ ys) apart x zero (suc k) (lt, is) (lt', is') =
    let ne : nat_eq y x ≡ false = all_at (λ z. nat_eq y z ≡ false) ys k x apart.0 (omega arith, is') in
    let eq : nat_eq y x ≡ true = (Decides-eqb y x).1 is in absurd (cc)
same_number (y ∷ ys) apart x (suc j) zero (lt, is) (lt', is') =
    let ne : nat_eq y x ≡ false = all_at (λ z. nat_eq y z ≡ false) ys j x apart.0 (omega arith, is) in
    let eq : nat_eq y x ≡ true = (Decides-eqb y x).1 is' in absurd (cc)
same_number (y ∷ ys) apart x (suc j) (suc k) (lt, is) (lt', is') = ap suc (same_number ys apart.1 x j k (omega arith, is) (omega arith, is'))

-- ---- the word of a node

pub long_by_node : (count : ℕ) (nodes : List ℕ) (batches : List (Vec ℕ Global)) → length (by_node count nodes batches) ≡ count * length batches
long_by_node count nodes batches = length-map-range_with_len
    (λ at. word_in (slice_get batches (at % length batches)) (position (nat_eq (at / length batches)) nodes)) 0 (count * length batches)

pub word_at : (count : ℕ) (nodes : List ℕ) (batches : List (Vec ℕ Global)) (at : ℕ) → at < length (by_node count nodes batches)
    → get_or (by_node count nodes batches) at 0 ≡ word_in (slice_get batches (at % length batches)) (position (nat_eq (at / length batches)) nodes)
word_at count nodes batches at lt = get_or-map-range_with_len
    (λ at. word_in (slice_get batches (at % length batches)) (position (nat_eq (at / length batches)) nodes)) 0 (count * length batches) at at 0
    (omega (arith, long_by_node count nodes batches)) (omega arith)

positive : (a m at : ℕ) → at < a * m → 0 < m
positive a zero at lt = absurd (omega arith)
positive a (suc m) at lt = omega arith

pub sized_by_node : (count words : ℕ) (nodes : List ℕ) (batches : List (Vec ℕ Global)) → words ≡ length batches
    → count * words ≤ length (by_node count nodes batches)
sized_by_node count words nodes batches is = rw is (omega (arith, long_by_node count nodes batches))

pub word_got : (count : ℕ) (nodes : List ℕ) (batches : List (Vec ℕ Global)) (at : ℕ) (now : List ℕ) → by_node count nodes batches ≡ now → at < length now
    → (n : ℕ) → n ≡ length batches → (words : Vec ℕ Global) → words ≡ get_or batches (at % n) words → (number : Option ℕ)
    → number ≡ position (nat_eq (at / n)) nodes → word_of words.items number ≡ get_or now at 0
word_got count nodes batches at now view lt n long words read number is =
    let within : at < length (by_node count nodes batches) = subst (λ (xs : List ℕ). at < length xs) (sym view) lt in
    let some : 0 < length batches = positive count (length batches) at (omega (arith, long_by_node count nodes batches)) in
    let row : slice_get batches (at % n) ≡ Some words = slice_get_read batches n (at % n) words long (rw long (mod-lt at some)) read in
    let row' : slice_get batches (at % length batches) ≡ Some words = rw long at row in
    let is' : number ≡ position (nat_eq (at / length batches)) nodes = rw long at is in
    subst (λ (xs : List ℕ). word_of words.items number ≡ get_or xs at 0) view
    (rw is' (sym (word_at count nodes batches at within ∙ ap (λ (w : Option (Vec ℕ Global)). word_in w (position (nat_eq (at / length batches)) nodes)) row')))

pub led_below : (n labels : ℕ) (roots : List Root) (Leads : ℕ → ℕ → Type 0) → All (λ (r : Root). (r.label < labels) × (r.node < n)) roots
    → ((x y : ℕ) → x < n → Leads x y → y < n) → (o y : ℕ) → Reached (IsRootOf roots o) Leads y → y < n
led_below n labels roots Leads first stays o y h = reached_closed (IsRootOf roots o) (λ z. z < n) Leads
    (λ z (i, lt, is). (subst (λ (r : Root). (r.label < labels) × (r.node < n)) is (first i (record { label = o; node = z }) lt)).1)
    (λ w z e lt. stays w z lt e) y h

-- a slice is written back into a list of its length
pub written : (n : ℕ) (xs ys : List ℕ) → length xs ≡ n → take n (xs ++ drop (length xs) ys) ≡ xs
written n xs ys long = rw (sym long) (take-append_seam xs (drop (length xs) ys))

module _ (nodes : List ℕ) (apart : IsDistinct nat_eq nodes) (x : ℕ) where
  pub position_is : (k : ℕ) → IsNumber nodes x k → position (nat_eq x) nodes ≡ Some k
  position_is k h =
      let first : position_or_len (nat_eq x) nodes ≡ k = position_or_len_is (nat_eq x) nodes k 0 (omega (arith, h.0)) before
      (λ lt. (Decides-eqb x (get_or nodes k 0)).1 (sym h.1)) in
      let within : nat_lt k (length nodes) ≡ true = lt-ltb k (length nodes) h.0 in
      rw (first, within) refl
    where
      before : (j : ℕ) → j < k → nat_eq x (get_or nodes j 0) ≡ false
      before j lt = ⊎_elim
          (λ same. let e : x ≡ get_or nodes j 0 = (Decides-eqb x (get_or nodes j 0)).0 same in
          let twice : j ≡ k = same_number nodes apart x j k (omega (arith, h.0), sym e) h in absurd (omega arith))
          (λ other. other)
          (cases_Bool (nat_eq x (get_or nodes j 0)))

found_number : (nodes : List ℕ) (x k : ℕ) → position (nat_eq x) nodes ≡ Some k → IsNumber nodes x k
found_number nodes x k is =
    let p = position-Some (nat_eq x) nodes k 0 is in
    (p.0, sym ((Decides-eqb x (get_or nodes k 0)).0 p.1))

element : {A : Type 0} (xs : List A) (n : ℕ) → n < length xs → (x : A) × (slice_get xs n ≡ Some x)
element [] n lt = absurd (omega arith)
element (x ∷ xs) zero lt = (x, refl)
element (x ∷ xs) (suc n) lt = element xs n (omega arith)

-- what the roots lead to has their labels, and nothing else
module _ (count labels : ℕ) (nodes : List ℕ) (apart : IsDistinct nat_eq nodes) (batches : List (Vec ℕ Global)) (roots starts : List Root) (edges : List Edge)
    (Leads : ℕ → ℕ → Type 0) (enough : labels ≤ length batches * 64) (are : AreBatches starts edges batches)
    (by : (o : ℕ) → ByNumber nodes (IsRootOf roots o) Leads (IsRootOf starts o) (Listed edges)) where
  module _ (x o : ℕ) (lt : o < labels) where
    batch_below : o / 64 < length batches
    batch_below = omega (arith, enough)

    batch : (w : Vec ℕ Global) × (slice_get batches (o / 64) ≡ Some w)
    batch = element batches (o / 64) batch_below

    number_is : o / 64 * 64 + o % 64 ≡ o
    number_is = omega arith

    -- by the number of the node, where it was met
    bit_of : (number : Option ℕ) → position (nat_eq x) nodes ≡ number → bit_at (word_of batch.0.items number) (o % 64) ≡ 1 → Reached (IsRootOf roots o) Leads x
    bit_of None at one = let zero_is = bit_at-zero (o % 64) in absurd (cc)
    bit_of (Some k) at one =
        let here : IsNumber nodes x k = found_number nodes x k at in
        let led = (are (o / 64) batch.0 batch.1 k (o % 64) (omega arith)).0 (bit_put batch.0.items k (o % 64) (omega arith) one) in
        let back = (by o).node k (subst (λ i. Reached (IsRootOf starts i) (Listed edges) k) number_is led) in
        subst (λ z. Reached (IsRootOf roots o) Leads z) (same_node nodes back.0 x k back.1.0 here) back.1.1

    of_bit : Reached (IsRootOf roots o) Leads x → bit_at (word_of batch.0.items (position (nat_eq x) nodes)) (o % 64) ≡ 1
    of_bit h =
        let t = (by o).number x h in
        let e : position (nat_eq x) nodes ≡ Some t.0 = position_is nodes apart x t.0 t.1.0 in
        let led = subst (λ i. Reached (IsRootOf starts i) (Listed edges) t.0) (sym number_is) t.1.1 in
        let one = bit_get batch.0.items t.0 (o % 64) (omega arith) ((are (o / 64) batch.0 batch.1 t.0 (o % 64) (omega arith)).1 led) in
        subst (λ (n : Option ℕ). bit_at (word_of batch.0.items n) (o % 64) ≡ 1) (sym e) one

    place : ℕ
    place = x * length batches + o / 64

    there : x < count → place < length (by_node count nodes batches)
    unfolding place
    there below = omega (arith, mul-add-lt x (length batches) (o / 64) count below batch_below, long_by_node count nodes batches)

    word_here : x < count → get_or (by_node count nodes batches) place 0 ≡ word_of batch.0.items (position (nat_eq x) nodes)
    unfolding place
    word_here below =
        let row : (x * length batches + o / 64) / length batches ≡ x = div-mul-add x (length batches) (o / 64) batch_below in
        let column : (x * length batches + o / 64) % length batches ≡ o / 64 = mod-mul-add x (length batches) (o / 64) batch_below in
        word_at count nodes batches (x * length batches + o / 64) (there below) ∙ rw (row, column, batch.1) refl

    pub bit_is_led : ((y : ℕ) → Reached (IsRootOf roots o) Leads y → y < count)
        → HasBit (length batches) (by_node count nodes batches) x o ↔ Reached (IsRootOf roots o) Leads x
    unfolding place
    bit_is_led below = (
      λ h. ⊎_elim
          (λ in'. bit_of (position (nat_eq x) nodes) refl (subst (λ w. bit_at w (o % 64) ≡ 1) (word_here in') h))
          (λ past.
          let long : count * length batches ≤ x * length batches = mul-le count (length batches) x (length batches) past (omega arith) in
          let none : get_or (by_node count nodes batches) place 0 ≡ 0 = get_or_past (by_node count nodes batches) place 0
          (omega (arith, long_by_node count nodes batches)) in
          let one : bit_at 0 (o % 64) ≡ 1 = subst (λ w. bit_at w (o % 64) ≡ 1) none h in
          let zero_is = bit_at-zero (o % 64) in absurd (cc))
          (cases_lt x count),
      λ h. subst (λ w. bit_at w (o % 64) ≡ 1) (sym (word_here (below x h))) (of_bit h),
    )
