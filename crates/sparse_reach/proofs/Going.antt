-- Labels that go along edges, in rounds: 64 of them, a word for each number.
use Rattle.std.proofs.Common.{◌≡◌, ◌↔◌, ℕ, ◌+◌, ◌*◌, ◌/◌, ◌%◌, ◌^◌, ◌<◌, List, [], ◌∷◌, Bool, true, false, IsTrue, length, get_or, take, set, bit_or, sum, replicate, refl, sym, ap, ◌∙◌, subst, inl, inr, ⊎_elim, arith}
use Rattle.std.specs.Int.{bit_at}
use Rattle.std.specs.List.{Contains}
use Rattle.std.proofs.lemmas.List.{take_more, get_or-replicate, get_or_past}
use Rattle.std.proofs.Math.ListN.{length-replicate}
use Rattle.std.proofs.lemmas.Bool.{cases_eq, cases_lt}
use Rattle.std.proofs.lemmas.Nat.{one_shl}
use Rattle.std.proofs.lemmas.List.Elements.{All-contains_itself, Contains-append_left, Contains-push, Contains-push_cases}
use Rattle.std.proofs.lemmas.Nat.Bits.{bit_at-zero, bit_at-pow_same, bit_at-pow_other}
use Rattle.worklist.specs.declared.labels.Root.{Root}
use Rattle.worklist.specs.Bits.{HasBit, GainsBits}
use Rattle.worklist.specs.Reached.{Reached, root, step}
use Rattle.worklist.specs.Roots.{IsRootOf}
use Rattle.worklist.proofs.Gaining.{gains_word, gains_same, not_less}
use Rattle.worklist.proofs.Reaching.{reached_more}
use Rattle.sparse_reach.specs.declared.met.Edge.{Edge}
use Rattle.sparse_reach.specs.Batches.{AreLabels}
use Rattle.sparse_reach.specs.Met.{Listed}
use Rattle.sparse_reach.proofs.Numbering.{none_listed, reached_closed}

-- the one word of a number
pub bit_is : (words : List ℕ) (k o : ℕ) → o < 64 → HasBit 1 words k o ≡ (bit_at (get_or words k 0) o ≡ 1)
bit_is words k o lt =
    let place : k * 1 + o / 64 ≡ k = omega arith in
    let low : o % 64 ≡ o = omega arith in
    ap (λ i. bit_at (get_or words i 0) (o % 64) ≡ 1) place ∙ ap (λ i. bit_at (get_or words k 0) i ≡ 1) low

pub bit_get : (words : List ℕ) (k o : ℕ) → o < 64 → HasBit 1 words k o → bit_at (get_or words k 0) o ≡ 1
bit_get words k o lt h = subst (λ (A : Type 0). A) (bit_is words k o lt) h

pub bit_put : (words : List ℕ) (k o : ℕ) → o < 64 → bit_at (get_or words k 0) o ≡ 1 → HasBit 1 words k o
bit_put words k o lt h = subst (λ (A : Type 0). A) (sym (bit_is words k o lt)) h

-- a word's bits are set in the word of a number
pub gains_number : (words new : List ℕ) (k word : ℕ) → k < length words → new ≡ set words k (bit_or (get_or words k 0) word)
    → GainsBits 1 (λ x o. (x ≡ k) × (bit_at word o ≡ 1)) words new
gains_number words new k word lt is =
    let place : k * 1 + 0 ≡ k = omega arith in
    let raised = rw place at (gains_word 1 words k 0 word (omega arith) (omega arith)) in
    rw is (gains_same 1 (λ x o. (x ≡ k) × ((o / 64 ≡ 0) × (bit_at word (o % 64) ≡ 1))) (λ x o. (x ≡ k) × (bit_at word o ≡ 1)) words
    (set words k (bit_or (get_or words k 0) word))
    (λ x o below h. let low : o % 64 ≡ o = omega arith in (h.0, rw low at h.1.1))
    (λ x o below h. let low : o % 64 ≡ o = omega arith in (h.0, (omega arith, rw low h.1)))
    raised)

-- ---- one round: the labels have gone along the first i edges

pub record Going (edges : List Edge) (i : ℕ) (old now : List ℕ) (grew : Bool) : Type 0 where
  pub length_is : length now ≡ length old
  pub kept : (x o : ℕ) → o < 64 → HasBit 1 old x o → HasBit 1 now x o
  pub led : (x o : ℕ) → o < 64 → HasBit 1 now x o → Reached (λ y. HasBit 1 old y o) (Listed edges) x
  pub same : grew ≡ false → now ≡ old
  pub closed : grew ≡ false → (x y o : ℕ) → o < 64 → Listed (take i edges) x y → HasBit 1 now x o → HasBit 1 now y o
  pub rose : IsTrue grew → sum old < sum now

pub going_begins : (edges : List Edge) (old : List ℕ) → Going edges 0 old old false
going_begins edges old = record {
  length_is = refl;
  kept = λ x o lt h. h;
  led = λ x o lt h. root h;
  same = λ e. refl;
  closed = λ e x y o lt has h. absurd (none_listed x y has);
  rose = λ t. absurd cc;
}

module _ (edges : List Edge) (i : ℕ) (d : Edge) (lt : i < length edges) (old now new : List ℕ) (grew : Bool) (g : Going edges i old now grew) (word : ℕ)
    (read : word ≡ get_or now (get_or edges i d).from 0)
    (m : GainsBits 1 (λ x o. (x ≡ (get_or edges i d).to) × (bit_at word o ≡ 1)) now new) where
  given : (o : ℕ) → o < 64 → bit_at word o ≡ 1 → HasBit 1 now (get_or edges i d).from o
  given o below h = bit_put now (get_or edges i d).from o below (subst (λ w. bit_at w o ≡ 1) read h)

  led_on : (x o : ℕ) → o < 64 → HasBit 1 new x o → Reached (λ y. HasBit 1 old y o) (Listed edges) x
  led_on x o below h = ⊎_elim
      (λ k. g.led x o below k)
      (λ (is, k). subst (λ z. Reached (λ y. HasBit 1 old y o) (Listed edges) z) (sym is)
      (step (get_or edges i d).from (g.led (get_or edges i d).from o below (given o below k)) (All-contains_itself edges i d lt)))
      (m.only x o below h)

  pub going_on : sum now < sum new → Going edges (i + 1) old new true
  going_on rose = record {
    length_is = m.length_is ∙ g.length_is;
    kept = λ x o below h. m.kept x o below (g.kept x o below h);
    led = led_on;
    same = λ e. absurd cc;
    closed = λ e. absurd cc;
    rose = λ t. let up = not_less grew old now g.same g.rose in omega arith;
  }

  pub going_still : new ≡ now → Going edges (i + 1) old new grew
  going_still is = record {
    length_is = m.length_is ∙ g.length_is;
    kept = λ x o below h. m.kept x o below (g.kept x o below h);
    led = led_on;
    same = λ e. is ∙ g.same e;
    closed = λ e x y o below has h. ⊎_elim
        (λ k. m.kept y o below (g.closed e x y o below k (subst (λ bits. HasBit 1 bits x o) is h)))
        (λ (one : get_or edges i d ≡ record { from = x; to = y }).
        let on : HasBit 1 now (get_or edges i d).from o = subst (λ z. HasBit 1 now z o) (sym (ap (λ (z : Edge). z.from) one))
        (subst (λ bits. HasBit 1 bits x o) is h) in
        m.all y o below (
          sym (ap (λ (z : Edge). z.to) one),
          subst (λ w. bit_at w o ≡ 1) (sym read) (bit_get now (get_or edges i d).from o below on),
        ))
        (Contains-push_cases (take i edges) (get_or edges i d) (record { from = x; to = y })
        (subst (λ (es : List Edge). Contains es (record { from = x; to = y })) (take_more edges i d lt) has));
    rose = λ t. subst (λ (bits : List ℕ). sum old < sum bits) (sym is) (g.rose t);
  }

-- ---- all rounds

pub record Spreading (edges : List Edge) (old now : List ℕ) : Type 0 where
  pub length_is : length now ≡ length old
  pub kept : (x o : ℕ) → o < 64 → HasBit 1 old x o → HasBit 1 now x o
  pub led : (x o : ℕ) → o < 64 → HasBit 1 now x o → Reached (λ y. HasBit 1 old y o) (Listed edges) x

pub spreading_begins : (edges : List Edge) (old : List ℕ) → Spreading edges old old
spreading_begins edges old = record { length_is = refl; kept = λ x o lt h. h; led = λ x o lt h. root h }

reached_twice : (P Q : ℕ → Type 0) (E : ℕ → ℕ → Type 0) → ((x : ℕ) → P x → Reached Q E x) → (x : ℕ) → Reached P E x → Reached Q E x
reached_twice P Q E roots x h = reached_closed P (Reached Q E) E roots (λ y z e k. step y k e) x h

module _ (edges : List Edge) (old now new : List ℕ) (s : Spreading edges old now)
    (kept : (x o : ℕ) → o < 64 → HasBit 1 now x o → HasBit 1 new x o)
    (led : (x o : ℕ) → o < 64 → HasBit 1 new x o → Reached (λ y. HasBit 1 now y o) (Listed edges) x) where
  pub spreading_on : length new ≡ length now → Spreading edges old new
  spreading_on long = record {
    length_is = long ∙ s.length_is;
    kept = λ x o lt h. kept x o lt (s.kept x o lt h);
    led = λ x o lt h. reached_twice (λ y. HasBit 1 now y o) (λ y. HasBit 1 old y o) (Listed edges) (λ y k. s.led y o lt k) x (led x o lt h);
  }

  pub spreading_ends : ((x y o : ℕ) → o < 64 → Listed edges x y → HasBit 1 new x o → HasBit 1 new y o)
      → (x o : ℕ) → o < 64 → HasBit 1 new x o ↔ Reached (λ y. HasBit 1 old y o) (Listed edges) x
  spreading_ends closed x o lt = (
    λ h. reached_twice (λ y. HasBit 1 now y o) (λ y. HasBit 1 old y o) (Listed edges) (λ y k. s.led y o lt k) x (led x o lt h),
    λ h. reached_closed (λ y. HasBit 1 old y o) (λ y. HasBit 1 new y o) (Listed edges) (λ y k. kept y o lt (s.kept y o lt k))
        (λ y z e k. closed y z o lt e k) x h,
  )

-- ---- roots

pub starts_begin : (batch : ℕ) (roots : List Root) (old : List ℕ) → GainsBits 1 (λ x o. IsRootOf (take 0 roots) (batch * 64 + o) x) old old
starts_begin batch roots old = record {
  length_is = refl;
  kept = λ x o lt h. h;
  all = λ x o lt r. absurd (no_root (batch * 64 + o) x r);
  only = λ x o lt h. inl h;
}
  where
    no_root : (o x : ℕ) → IsRootOf [] o x → ⊥
    no_root o x (k, lt, is) = omega arith

module _ (batch : ℕ) (roots : List Root) (i : ℕ) (d : Root) (old now new : List ℕ) (lt : i < length roots)
    (m : GainsBits 1 (λ x o. IsRootOf (take i roots) (batch * 64 + o) x) old now)
    (n : GainsBits 1 (λ x o. (x ≡ (get_or roots i d).node) × (batch * 64 + o ≡ (get_or roots i d).label)) now new) where
  earlier : (x o : ℕ) → IsRootOf (take i roots) o x → IsRootOf (take (i + 1) roots) o x
  earlier x o r = subst (λ (rs : List Root). Contains rs (record { label = o; node = x })) (sym (take_more roots i d lt))
      (Contains-append_left (take i roots) (get_or roots i d ∷ []) (record { label = o; node = x }) r)

  last : (x o : ℕ) → x ≡ (get_or roots i d).node → o ≡ (get_or roots i d).label → IsRootOf (take (i + 1) roots) o x
  last x o e e' = subst (λ (rs : List Root). Contains rs (record { label = o; node = x })) (sym (take_more roots i d lt))
      (rw (e, e') (Contains-push (take i roots) (get_or roots i d)))

  pub starts_on : GainsBits 1 (λ x o. IsRootOf (take (i + 1) roots) (batch * 64 + o) x) old new
  starts_on = record {
    length_is = n.length_is ∙ m.length_is;
    kept = λ x o below h. n.kept x o below (m.kept x o below h);
    all = λ x o below r. ⊎_elim
        (λ k. n.kept x o below (m.all x o below k))
        (λ (e : get_or roots i d ≡ record { label = batch * 64 + o; node = x }). n.all x o below (
          sym (ap (λ (z : Root). z.node) e),
          sym (ap (λ (z : Root). z.label) e),
        ))
        (Contains-push_cases (take i roots) (get_or roots i d) (record { label = batch * 64 + o; node = x })
        (subst (λ (rs : List Root). Contains rs (record { label = batch * 64 + o; node = x })) (take_more roots i d lt) r));
    only = λ x o below h. ⊎_elim
        (λ k. ⊎_elim (λ z. inl z) (λ r. inr (earlier x (batch * 64 + o) r)) (m.only x o below k))
        (λ (e, e'). inr (last x (batch * 64 + o) e e'))
        (n.only x o below h);
  }

same_bit : (k i : ℕ) → bit_at (2 ^ k) i ≡ 1 → i ≡ k
same_bit k i e = elim (cases_eq i k) [
  | inl is ↦ is
  | inr ne ↦ let zero_is = bit_at-pow_other k i ne in absurd (cc)
]

-- the root of a label in the batch, or of one that isn't
pub start_here : (batch label node : ℕ) (old new : List ℕ) → label / 64 ≡ batch
    → GainsBits 1 (λ x o. (x ≡ node) × (bit_at (1 * 2 ^ (label % 64) % 2 ^ 64) o ≡ 1)) old new
    → GainsBits 1 (λ x o. (x ≡ node) × (batch * 64 + o ≡ label)) old new
start_here batch label node old new at g =
    let e : 1 * 2 ^ (label % 64) % 2 ^ 64 ≡ 2 ^ (label % 64) = one_shl (label % 64) 64 (omega arith) in
    gains_same 1 (λ x o. (x ≡ node) × (bit_at (1 * 2 ^ (label % 64) % 2 ^ 64) o ≡ 1)) (λ x o. (x ≡ node) × (batch * 64 + o ≡ label)) old new
    (λ x o below h. let low : o ≡ label % 64 = same_bit (label % 64) o (rw e at h.1) in (h.0, omega arith))
    (λ x o below h. let low : o ≡ label % 64 = omega (arith, h.1) in (h.0, rw (e, low) (bit_at-pow_same (label % 64))))
    g

pub start_elsewhere : (batch label node : ℕ) (old : List ℕ) → (label / 64 ≡ batch → ⊥)
    → GainsBits 1 (λ x o. (x ≡ node) × (batch * 64 + o ≡ label)) old old
start_elsewhere batch label node old ne = record {
  length_is = refl;
  kept = λ x o lt h. h;
  all = λ x o lt h. absurd (ne (omega (arith, h.1)));
  only = λ x o lt h. inl h;
}

no_bit : (count k o : ℕ) → o < 64 → HasBit 1 (replicate {A = ℕ} count 0) k o → ⊥
no_bit count k o lt h =
    let zeros : get_or (replicate {A = ℕ} count 0) k 0 ≡ 0 = ⊎_elim
    (λ in'. get_or-replicate count k 0 0 in')
    (λ past. get_or_past (replicate {A = ℕ} count 0) k 0 (omega (arith, length-replicate {A = ℕ} count 0)))
    (cases_lt k count) in
    let one : bit_at (get_or (replicate {A = ℕ} count 0) k 0) o ≡ 1 = bit_get (replicate {A = ℕ} count 0) k o lt h in
    let none : bit_at 0 o ≡ 1 = rw zeros at one in
    let zero_is = bit_at-zero o in absurd (cc)

-- the labels of the roots, where there were none
pub labels_are : (batch count : ℕ) (roots : List Root) (edges : List Edge) (none start new : List ℕ) → none ≡ replicate count 0
    → GainsBits 1 (λ x o. IsRootOf roots (batch * 64 + o) x) none start
    → ((x o : ℕ) → o < 64 → HasBit 1 new x o ↔ Reached (λ y. HasBit 1 start y o) (Listed edges) x) → AreLabels roots edges batch new
labels_are batch count roots edges none start new zeros m exact x o lt = (
  λ h. reached_more (λ y. HasBit 1 start y o) (IsRootOf roots (batch * 64 + o)) (Listed edges) (Listed edges)
      (λ y k. ⊎_elim (λ z. absurd (no_bit count y o lt (subst (λ (ws : List ℕ). HasBit 1 ws y o) zeros z))) (λ r. r) (m.only y o lt k)) (λ y z e. e) x
      ((exact x o lt).0 h),
  λ h. (exact x o lt).1 (reached_more (IsRootOf roots (batch * 64 + o)) (λ y. HasBit 1 start y o) (Listed edges) (Listed edges) (λ y r. m.all y o lt r)
      (λ y z e. e) x h),
)
