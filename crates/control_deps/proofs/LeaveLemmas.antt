-- The walk that writes down the last branch that leaves each block, loop or if.
use Rattle.std.proofs.Common.{◌≡◌, ◌≢◌, ℕ, suc, ◌+◌, ◌<◌, ◌⊎◌, inl, inr, ⊎_elim, Bool, true, false, true≢false, List, [], ◌∷◌, ◌++◌, Option, Some, None}
use Rattle.std.proofs.Common.{IfSome, length, set, get_or, rules, refl, sym, ap, ◌∙◌, subst, arith, get_or-set_same, get_or-set_other, length-append}
use Rattle.std.specs.List.{slice_get}
use Rattle.std.proofs.lemmas.Bool.{cases_eq, cases_lt}
use Rattle.std.proofs.lemmas.Option.{same_Some}
use Rattle.wasm_types.specs.declared.module.Pos.{Pos}
use Rattle.control_deps.specs.declared.spot.Form.{Form}
use Rattle.control_deps.specs.declared.spot.Form.TheVariants as form
use Rattle.control_deps.specs.declared.spot.Spot.{Spot}
use Rattle.control_deps.specs.declared.deciders.Row.{Row}
use Rattle.control_deps.specs.Leaving.{number, Passes, here, outward, Leaves, IsLast, exit_of, AreExits, Marks, Sees, row_of, AreRows}
use Rattle.control_deps.proofs.AroundLemmas.{get_front, get_back}

-- ---- numbers

pub number_once : (a b : Option Pos) → number a ≡ number b → a ≡ b
number_once None None e = refl
number_once None (Some b) e = absurd (omega (arith, e))
number_once (Some a) None e = absurd (omega (arith, e))
number_once (Some a) (Some b) e = let same : a.0 ≡ b.0 = omega (arith, e) in ap (λ (z : ℕ). Some (record { 0 = z })) same

pub number_within : (nest : List Spot) (one : Option Pos) → IfSome one (λ (b : Pos). b.0 < length nest) → number one < length nest + 1
number_within nest None h = omega arith
number_within nest (Some b) h = omega (arith, h)

-- ---- what is passed

zero_passes : (nest : List Spot) (first one : Option Pos) (label : ℕ) → label ≡ 0 → Passes nest first label one → one ≡ first
zero_passes nest first one label e here = refl
zero_passes nest first one label e (outward b spot at p) = absurd (omega (arith, e))

none_passes : (nest : List Spot) (first one : Option Pos) (label : ℕ) → first ≡ None → Passes nest first label one → one ≡ first
none_passes nest first one label e here = refl
none_passes nest first one label e (outward b spot at p) = absurd (cc)

some_passes : (nest : List Spot) (first other : Option Pos) (labels l : ℕ) (b : Pos) (spot : Spot) → first ≡ Some b → slice_get nest b.0 ≡ Some spot
    → labels ≡ l + 1
    → Passes nest first labels other → (other ≡ first) ⊎ Passes nest spot.around l other
some_passes nest first other labels l b spot some at e here = inl refl
some_passes nest first other labels l b spot some at e (outward {label} c y is p) =
    let same : c ≡ b = same_Some c b some in
    let spots : y ≡ spot = same_Some y spot (sym is ∙ ap (λ (z : Pos). slice_get nest z.0) same ∙ at) in
    let fewer : label ≡ l = omega (arith, e) in
    inr (subst (λ z. Passes nest spot.around z other) fewer (subst (λ (z : Spot). Passes nest z.around label other) spots p))

pub passes_more : (nest : List Spot) (first one : Option Pos) (label l : ℕ) (b : Pos) (spot : Spot) → first ≡ Some b → slice_get nest b.0 ≡ Some spot
    → label ≡ l + 1
    → Passes nest spot.around l one → Passes nest first label one
passes_more nest first one label l b spot some at e p =
    let labels : suc l ≡ label = omega (arith, e) in
    subst (λ z. Passes nest z label one) (sym some) (subst (λ z. Passes nest (Some b) z one) labels (outward b spot at p))

-- ---- what is written down

mark_first : (old : List (Option Pos)) (first : Option Pos) (branch : Pos) → number first < length old
    → exit_of (set old (number first) (Some branch)) first ≡ Some branch
mark_first old first branch lt = get_or-set_same old (number first) (Some branch) None lt

mark_other : (nest : List Spot) (first : Option Pos) (label : ℕ) (branch : Pos) (old : List (Option Pos)) (k : ℕ)
    → (get_or (set old (number first) (Some branch)) k None ≡ get_or old k None) ⊎ ((one : Option Pos) × (Passes nest first label one × (number one ≡ k)))
mark_other nest first label branch old k = ⊎_elim
    (λ (e : number first ≡ k). inr (first, (here, e)))
    (λ (ne : number first ≢ k). let other : k ≢ number first = λ e. ne (sym e) in inl (rw get_or-set_other refl))
    (cases_eq (number first) k)

last_marks : (nest : List Spot) (first : Option Pos) (label : ℕ) (branch : Pos) (old new : List (Option Pos)) → number first < length old
    → new ≡ set old (number first) (Some branch) → ((one : Option Pos) → Passes nest first label one → one ≡ first) → Marks nest first label branch old new
last_marks nest first label branch old new lt is only_first = subst (Marks nest first label branch old) (sym is) (record {
  long = search rules;
  all = λ one p. subst (λ z. exit_of (set old (number first) (Some branch)) z ≡ Some branch) (sym (only_first one p)) (mark_first old first branch lt);
  only = mark_other nest first label branch old;
})

pub zero_marks : (nest : List Spot) (first : Option Pos) (label : ℕ) (branch : Pos) (old new : List (Option Pos)) → number first < length old → label ≡ 0
    → new ≡ set old (number first) (Some branch) → Marks nest first label branch old new
zero_marks nest first label branch old new lt e is = last_marks nest first label branch old new lt is (λ one p. zero_passes nest first one label e p)

pub none_marks : (nest : List Spot) (first : Option Pos) (label : ℕ) (branch : Pos) (old new : List (Option Pos)) → number first < length old → first ≡ None
    → new ≡ set old (number first) (Some branch) → Marks nest first label branch old new
none_marks nest first label branch old new lt e is = last_marks nest first label branch old new lt is (λ one p. none_passes nest first one label e p)

pub more_marks : (nest : List Spot) (first : Option Pos) (label l : ℕ) (branch b : Pos) (spot : Spot) (old mid new : List (Option Pos))
    → number first < length old
    → first ≡ Some b → slice_get nest b.0 ≡ Some spot → label ≡ l + 1 → mid ≡ set old (number first) (Some branch) → Marks nest spot.around l branch mid new
    → Marks nest first label branch old new
more_marks nest first label l branch b spot old mid new lt some at e is m =
    let mids : length mid ≡ length old = rw is (search rules) in record {
      long = m.long ∙ mids;
      all = λ one p. ⊎_elim
          (λ (same : one ≡ first). subst (λ z. exit_of new z ≡ Some branch) (sym same) first_marked)
          (λ q. m.all one q)
          (some_passes nest first one label l b spot some at e p);
      only = λ k. ⊎_elim
          (λ (same : get_or new k None ≡ get_or mid k None). ⊎_elim
          (λ f. inl (same ∙ ap (λ z. get_or z k None) is ∙ f))
          (λ x. inr x)
          (mark_other nest first label branch old k))
          (λ (one, (p, f)). inr (one, (passes_more nest first one label l b spot some at e p, f)))
          (m.only k);
    }
  where
    first_marked : exit_of new first ≡ Some branch
    first_marked = ⊎_elim
        (λ (same : get_or new (number first) None ≡ get_or mid (number first) None). same ∙ ap (λ z. exit_of z first) is ∙ mark_first old first branch lt)
        (λ (one, (p, f)). ap (λ k. get_or new k None) (sym f) ∙ m.all one p)
        (m.only (number first))

pub length_marked : (old : List (Option Pos)) (k : ℕ) (v : Option Pos) (n : ℕ) → length old ≡ n → length (set old k v) ≡ n
length_marked old k v n e = (let same : length (set old k v) ≡ length old = search rules in same) ∙ e

same_label : (f : Form) (a b : ℕ) → f ≡ form.Branch a → f ≡ form.Branch b → a ≡ b
same_label f a b e g = cc

-- ---- the last of each

last_same : (P : ℕ → Type 0) (k : ℕ) (o : Option Pos) → (P k → ⊥) → IsLast P k o → IsLast P (k + 1) o
last_same P k None off last = λ p lt h. ⊎_elim
    (λ (e : p ≡ k). off (subst P e h))
    (λ (ne : p ≢ k). last p (omega (arith, lt, ne)) h)
    (cases_eq p k)
last_same P k (Some b) off last = (
  omega (arith, last.0),
  (
    last.1.0,
    (λ p lo h. ⊎_elim
        (λ (e : p ≡ k). absurd (off (subst P e h)))
        (λ (ne : p ≢ k). last.1.1 p (omega (arith, lo, ne)) h)
        (cases_eq p k)),
  ),
)

last_new : (P : ℕ → Type 0) (at : Pos) (o : Option Pos) → o ≡ Some at → P at.0 → IsLast P (at.0 + 1) o
last_new P at o e h = subst (IsLast P (at.0 + 1)) (sym e) (omega arith, (h, (λ p lt _. omega (arith, lt))))

pub more_exits : (nest : List Spot) (at : Pos) (spot : Spot) (old new : List (Option Pos)) → slice_get nest at.0 ≡ Some spot → Sees nest at spot old new
    → AreExits nest at.0 old
    → AreExits nest (at.0 + 1) new
more_exits nest at spot old new here_is sees e = go spot.live refl spot.form refl
  where
    unseen : ((label : ℕ) → spot.live ≡ true → spot.form ≡ form.Branch label → ⊥) → AreExits nest (at.0 + 1) new
    unseen none = subst (AreExits nest (at.0 + 1)) (sym (sees.same none)) (record {
      long = e.long;
      is = λ one h. last_same (Leaves nest one) at.0 (exit_of old one) (λ l. none l.label (ap (λ (z : Spot). z.live) (same l) ∙ l.live)
          (ap (λ (z : Spot). z.form) (same l) ∙ l.branches)) (e.is one h);
    })
      where
        same : {one : Option Pos} → (l : Leaves nest one at.0) → spot ≡ l.spot
        same l = same_Some spot l.spot (sym here_is ∙ l.at)

    seen : (label : ℕ) → spot.live ≡ true → spot.form ≡ form.Branch label → AreExits nest (at.0 + 1) new
    seen label on br = let m = sees.marks label on br in record {
      long = m.long ∙ e.long;
      is = λ one h. ⊎_elim
          (λ (kept : get_or new (number one) None ≡ get_or old (number one) None). kept_or_passed m one h kept)
          (λ (other, (p, f)).
          let same : other ≡ one = number_once other one f in passed m one (subst (λ z. Passes nest spot.around label z) same p))
          (m.only (number one));
    }
      where
        passed : Marks nest spot.around label at old new → (one : Option Pos) → Passes nest spot.around label one
            → IsLast (Leaves nest one) (at.0 + 1) (exit_of new one)
        passed m one p = last_new (Leaves nest one) at (exit_of new one) (m.all one p)
            (record { spot = spot; label = label; at = here_is; live = on; branches = br; passes = p })

        kept_or_passed : Marks nest spot.around label at old new → (one : Option Pos) → IfSome one (λ (b : Pos). b.0 < length nest)
            → exit_of new one ≡ exit_of old one
            → IsLast (Leaves nest one) (at.0 + 1) (exit_of new one)
        kept_or_passed m one h kept = subst (IsLast (Leaves nest one) (at.0 + 1)) (sym kept)
            (last_same (Leaves nest one) at.0 (exit_of old one) off (e.is one h))
          where
            off : Leaves nest one at.0 → ⊥
            off l =
                let spots : l.spot ≡ spot = same_Some l.spot spot (sym l.at ∙ here_is) in
                let labels : l.label ≡ label = same_label spot.form l.label label (ap (λ (z : Spot). z.form) (sym spots) ∙ l.branches) br in
                let p : Passes nest spot.around label one = subst (λ z. Passes nest spot.around z one) labels
                (subst (λ (z : Spot). Passes nest z.around l.label one) spots l.passes) in
                let old_is : exit_of old one ≡ Some at = sym kept ∙ m.all one p in
                let last : IsLast (Leaves nest one) at.0 (Some at) = subst (IsLast (Leaves nest one) at.0) old_is (e.is one h) in
                omega (arith, last.0)

    go : (b : Bool) → spot.live ≡ b → (f : Form) → spot.form ≡ f → AreExits nest (at.0 + 1) new
    go false off f is = unseen (λ label on br. true≢false (sym on ∙ off))
    go true on (form.Branch label) is = seen label on is
    go true on form.Other is = unseen (λ label on' br. absurd (cc))
    go true on form.Block is = unseen (λ label on' br. absurd (cc))
    go true on form.Loop is = unseen (λ label on' br. absurd (cc))
    go true on form.If is = unseen (λ label on' br. absurd (cc))

-- ---- rows

pub more_rows : (nest : List Spot) (at : ℕ) (spot : Spot) (exits : List (Option Pos)) (old new : List Row) → slice_get nest at ≡ Some spot
    → AreExits nest at exits
    → new ≡ old ++ row_of nest exits spot ∷ [] → AreRows nest at old → AreRows nest (at + 1) new
more_rows nest at spot exits old new here_is e is r = subst (AreRows nest (at + 1)) (sym is) (record {
  long = omega (arith, length-append old (row_of nest exits spot ∷ []), r.long);
  is = λ p x lt f. ⊎_elim
      (λ lo. let h = r.is p x lo f in
      let low : p < length old = omega (arith, lo, r.long) in
      (h.0, (h.1.0, get_front old (row_of nest exits spot ∷ []) p low ∙ h.1.1)))
      (λ hi.
      let same : p ≡ at = omega (arith, lt, hi) in
      let spots : spot ≡ x = same_Some spot x (sym here_is ∙ ap (slice_get nest) (sym same) ∙ f) in
      let end : p ≡ length old + 0 = omega (arith, same, r.long) in (
        exits,
        (
          subst (λ z. AreExits nest z exits) (sym same) e,
          get_back old (row_of nest exits spot ∷ []) p 0 end
              ∙ ap (λ (z : Spot). Some (row_of nest exits z)) spots,
        ),
      ))
      (cases_lt p at);
})
