-- A position leads back to itself or to one before it exactly where a branch to a loop stands there.
use Rattle.std.proofs.Common.{◌≡◌, ℕ, zero, suc, ◌+◌, ◌<◌, ◌≤◌, List, [], ◌∷◌, ◌++◌, true, false, Some, None, drop, length, replicate}
use Rattle.std.proofs.Common.{slice_get, refl, ap, ◌∙◌, subst, inl, inr, arith}
use Rattle.std.proofs.lemmas.Bool.{cases_Bool}
use Rattle.wasm_types.specs.declared.place.Node.{Node}
use Rattle.wasm_types.specs.declared.place.Node.TheVariants as node
use Rattle.wasm_types.specs.declared.place.Node.TheVariants.{Exit}
use Rattle.wasm_types.specs.Marked.{Marked, End, Do, Block, Loop, If, Br, BrIf, BrTable, Return, Unreachable, size}
use Rattle.wasm_types.specs.Actions.{Callees}
use Rattle.wasm_types.specs.Nodes.{At, Join, named, made}
use Rattle.wasm_types.specs.Labels.{Label, arity, point_of, loop_of, first, block_label, loop_label, body_label}
use Rattle.wasm_types.specs.Sites.{Site, Sites, IsSite, Branches, Goes, to_next, past, into, branches, Leads, from_at, from_join, sites, body_sites}
use Rattle.slice_closure.proofs.Standing.{length-sites}

-- no position
abbrev NoAt : Node → Type 0
NoAt k = (q : ℕ) → k ≡ At q → ⊥

abbrev index_in : Node → ℕ
index_in (node.At z) = z.0
index_in (node.Join z) = z.0
index_in node.Exit = 0

same_at : (p q : ℕ) → At p ≡ At q → p ≡ q
same_at p q e = ap index_in e

join_not : (b : ℕ) → NoAt (Join b)
join_not b q e = cc

exit_not : NoAt Exit
exit_not q e = cc

-- a sequence begins at its position, or where it goes on
begins : (p : ℕ) (c : Marked) (k : Node) → NoAt k → (q : ℕ) → first p c k ≡ At q → p ≤ q
begins p End k none q e = absurd (none q e)
begins p (Do m op rest) k none q e = let s = same_at p q e in omega arith
begins p (Block m kind body rest) k none q e = let s = same_at p q e in omega arith
begins p (Loop m kind body rest) k none q e = let s = same_at p q e in omega arith
begins p (If m kind x y rest) k none q e = let s = same_at p q e in omega arith
begins p (Br m l rest) k none q e = let s = same_at p q e in omega arith
begins p (BrIf m l rest) k none q e = let s = same_at p q e in omega arith
begins p (BrTable m labels other rest) k none q e = let s = same_at p q e in omega arith
begins p (Return m rest) k none q e = let s = same_at p q e in omega arith
begins p (Unreachable m rest) k none q e = let s = same_at p q e in omega arith

-- the label of a loop leads to a position before p, and another to none
record IsBehind (p : ℕ) (L : Label) : Type 0 where
  pub loops : L.loop ≡ true → (q : ℕ) × ((L.point ≡ At q) × (q < p))
  pub others : L.loop ≡ false → NoAt L.point

abbrev AreBehind : ℕ → List Label → Type 0
AreBehind p [] = Unit {0}
AreBehind p (L ∷ ctx) = IsBehind p L × AreBehind p ctx

behind_more : (p q : ℕ) (ctx : List Label) → p ≤ q → AreBehind p ctx → AreBehind q ctx
behind_more p q [] le h = tt
behind_more p q (L ∷ ctx) le h =
    (record { loops = λ e. let x = h.0.loops e in let lt = x.1.1 in (x.0, (x.1.0, omega arith)); others = h.0.others }, behind_more p q ctx le h.1)

loops_at : (p : ℕ) (ctx : List Label) → AreBehind p ctx → (l : ℕ) → loop_of ctx l ≡ true → (q : ℕ) × ((point_of ctx l ≡ At q) × (q < p))
loops_at p [] h l e = absurd cc
loops_at p (L ∷ ctx) h zero e = h.0.loops e
loops_at p (L ∷ ctx) h (suc l) e = loops_at p ctx h.1 l e

others_at : (p : ℕ) (ctx : List Label) → AreBehind p ctx → (l : ℕ) → loop_of ctx l ≡ false → NoAt (point_of ctx l)
others_at p [] h l e = exit_not
others_at p (L ∷ ctx) h zero e = h.0.others e
others_at p (L ∷ ctx) h (suc l) e = others_at p ctx h.1 l e

-- what stands at p goes on behind it, but by its labels
record IsAhead (p : ℕ) (s : Site) : Type 0 where
  pub next : (q : ℕ) → s.next ≡ At q → p < q
  pub inside : (k : ℕ) (n : Node) → slice_get s.inside k ≡ Some n → (q : ℕ) → n ≡ At q → p < q
  pub labels : AreBehind p s.around

abbrev AllAhead : ℕ → Sites → Type 0
AllAhead p [] = Unit {0}
AllAhead p (None ∷ S) = AllAhead (p + 1) S
AllAhead p (Some s ∷ S) = IsAhead p s × AllAhead (p + 1) S

ahead_from : (p q : ℕ) (S : Sites) → p ≡ q → AllAhead p S → AllAhead q S
ahead_from p q S e h = subst (λ n. AllAhead n S) e h

ahead_both : (p q : ℕ) (S T : Sites) → q ≡ p + length S → AllAhead p S → AllAhead q T → AllAhead p (S ++ T)
ahead_both p q [] T e f g = ahead_from q p T (omega arith) g
ahead_both p q (None ∷ S) T e f g = ahead_both (p + 1) q S T (omega arith) f g
ahead_both p q (Some s ∷ S) T e f g = (f.0, ahead_both (p + 1) q S T (omega arith) f.1 g)

ahead_nones : (p n : ℕ) → AllAhead p (replicate n None)
ahead_nones p zero = tt
ahead_nones p (suc n) = ahead_nones (p + 1) n

ahead_at : (p : ℕ) (S : Sites) (i : ℕ) (s : Site) → AllAhead p S → IsSite S i s → IsAhead (p + i) s
ahead_at p [] i s h is = absurd cc
ahead_at p (None ∷ S) zero s h is = absurd cc
ahead_at p (None ∷ S) (suc i) s h is = let e : p + 1 + i ≡ p + suc i = omega arith in subst (λ n. IsAhead n s) e (ahead_at (p + 1) S i s h is)
ahead_at p (Some z ∷ S) zero s h is =
    let same : z ≡ s = cc in
    let e : p ≡ p + zero = omega arith in
    subst (λ n. IsAhead n s) e (subst (IsAhead p) same h.0)
ahead_at p (Some z ∷ S) (suc i) s h is = let e : p + 1 + i ≡ p + suc i = omega arith in subst (λ n. IsAhead n s) e (ahead_at (p + 1) S i s h.1 is)

no_inside : (k : ℕ) (n : Node) → slice_get [] k ≡ Some n → (q : ℕ) → n ≡ At q → (p : ℕ) → p < q
no_inside k n e q same p = absurd cc

one_inside : (p : ℕ) (a : Node) → ((q : ℕ) → a ≡ At q → p < q) → (k : ℕ) (n : Node) → slice_get (a ∷ []) k ≡ Some n → (q : ℕ) → n ≡ At q → p < q
one_inside p a h zero n e q same = let is : a ≡ n = cc in h q (is ∙ same)
one_inside p a h (suc k) n e q same = absurd cc

two_inside : (p : ℕ) (a b : Node) → ((q : ℕ) → a ≡ At q → p < q) → ((q : ℕ) → b ≡ At q → p < q) → (k : ℕ) (n : Node) → slice_get (a ∷ b ∷ []) k ≡ Some n
    → (q : ℕ) → n ≡ At q → p < q
two_inside p a b h g zero n e q same = let is : a ≡ n = cc in h q (is ∙ same)
two_inside p a b h g (suc k) n e q same = one_inside p b g k n e q same

on : (p e : ℕ) (c : Marked) (k : Node) → p < e → NoAt k → (q : ℕ) → first e c k ≡ At q → p < q
on p e c k lt none q is = let le = begins e c k none q is in omega arith

block_behind : (p t e : ℕ) → IsBehind (p + 1) (block_label p t e)
block_behind p t e = record { loops = λ h. absurd cc; others = λ h. join_not p }

loop_behind : (p e : ℕ) → IsBehind (p + 1) (loop_label p e)
loop_behind p e = record { loops = λ h. (p, (refl, omega arith)); others = λ h. absurd cc }

body_behind : (t e : ℕ) → IsBehind 0 (body_label t e)
body_behind t e = record { loops = λ h. absurd cc; others = λ h. exit_not }

module _ (cs : Callees) where
  ahead : (c : Marked) (ctx : List Label) (k : Node) (p : ℕ) (names : List Node) → AreBehind p ctx → NoAt k → AllAhead p (sites cs ctx k c p names)
  ahead End ctx k p names h none = tt
  ahead (Do m op rest) ctx k p names h none = (
    record { next = on p (p + 1) rest k (omega arith) none; inside = λ i n e q same. no_inside i n e q same p; labels = h },
    ahead rest ctx k (p + 1) (made cs p op names) (behind_more p (p + 1) ctx (omega arith) h) none,
  )
  ahead (Block m kind body rest) ctx k p names h none =
      let e = p + 1 + size body in
      let inner = sites cs (block_label p (arity kind) e ∷ ctx) (Join p) body (p + 1) [] in (
        record {
          next = on p e rest k (omega arith) none;
          inside = one_inside p (first (p + 1) body (Join p)) (on p (p + 1) body (Join p) (omega arith) (join_not p));
          labels = h;
        },
        ahead_both (p + 1) e inner _ (omega (arith, length-sites cs body (block_label p (arity kind) e ∷ ctx) (Join p) (p + 1) []))
            (ahead body (block_label p (arity kind) e ∷ ctx) (Join p) (p + 1) [] (block_behind p (arity kind) e, behind_more p (p + 1) ctx (omega arith) h)
            (join_not p))
            (ahead rest ctx k e (named (arity kind) (Join p) names) (behind_more p e ctx (omega arith) h) none),
      )
  ahead (Loop m kind body rest) ctx k p names h none =
      let e = p + 1 + size body in
      let inner = sites cs (loop_label p e ∷ ctx) (Join p) body (p + 1) [] in (
        record {
          next = on p e rest k (omega arith) none;
          inside = one_inside p (first (p + 1) body (Join p)) (on p (p + 1) body (Join p) (omega arith) (join_not p));
          labels = h;
        },
        ahead_both (p + 1) e inner _ (omega (arith, length-sites cs body (loop_label p e ∷ ctx) (Join p) (p + 1) []))
            (ahead body (loop_label p e ∷ ctx) (Join p) (p + 1) [] (loop_behind p e, behind_more p (p + 1) ctx (omega arith) h) (join_not p))
            (ahead rest ctx k e (named (arity kind) (Join p) names) (behind_more p e ctx (omega arith) h) none),
      )
  ahead (If m kind x y rest) ctx k p names h none =
      let f = p + 1 + size x in
      let e = p + 1 + size x + size y in
      let L = block_label p (arity kind) e in
      let first_arm = sites cs (L ∷ ctx) (Join p) x (p + 1) [] in
      let second_arm = sites cs (L ∷ ctx) (Join p) y f [] in (
        record {
          next = on p e rest k (omega arith) none;
          inside = two_inside p (first (p + 1) x (Join p)) (first f y (Join p)) (on p (p + 1) x (Join p) (omega arith) (join_not p))
              (on p f y (Join p) (omega arith) (join_not p));
          labels = h;
        },
        ahead_both (p + 1) f first_arm _ (omega (arith, length-sites cs x (L ∷ ctx) (Join p) (p + 1) []))
            (ahead x (L ∷ ctx) (Join p) (p + 1) [] (block_behind p (arity kind) e, behind_more p (p + 1) ctx (omega arith) h) (join_not p))
            (ahead_both f e second_arm _ (omega (arith, length-sites cs y (L ∷ ctx) (Join p) f []))
            (ahead y (L ∷ ctx) (Join p) f [] (later p f (arity kind) e (omega arith), behind_more p f ctx (omega arith) h) (join_not p))
            (ahead rest ctx k e (named (arity kind) (Join p) (drop 1 names)) (behind_more p e ctx (omega arith) h) none)),
      )
    where
      later : (p f t e : ℕ) → p + 1 ≤ f → IsBehind f (block_label p t e)
      later p f t e le = record { loops = λ h. absurd cc; others = λ h. join_not p }
  ahead (Br m l rest) ctx k p names h none = (
    record { next = on p (p + 1) rest k (omega arith) none; inside = λ i n e q same. no_inside i n e q same p; labels = h },
    ahead_nones (p + 1) (size rest),
  )
  ahead (BrIf m l rest) ctx k p names h none = (
    record { next = on p (p + 1) rest k (omega arith) none; inside = λ i n e q same. no_inside i n e q same p; labels = h },
    ahead rest ctx k (p + 1) (drop 1 names) (behind_more p (p + 1) ctx (omega arith) h) none,
  )
  ahead (BrTable m labels other rest) ctx k p names h none = (
    record { next = on p (p + 1) rest k (omega arith) none; inside = λ i n e q same. no_inside i n e q same p; labels = h },
    ahead_nones (p + 1) (size rest),
  )
  ahead (Return m rest) ctx k p names h none = (
    record { next = on p (p + 1) rest k (omega arith) none; inside = λ i n e q same. no_inside i n e q same p; labels = h },
    ahead_nones (p + 1) (size rest),
  )
  ahead (Unreachable m rest) ctx k p names h none = (
    record { next = on p (p + 1) rest k (omega arith) none; inside = λ i n e q same. no_inside i n e q same p; labels = h },
    ahead_nones (p + 1) (size rest),
  )

  module _ (t : ℕ) (c : Marked) where
    abbrev S : Sites
    S = body_sites cs t c

    site_ahead : (p : ℕ) (s : Site) → IsSite S p s → IsAhead p s
    site_ahead p s is =
        let h = ahead_at 0 S p s (ahead c (body_label t (size c) ∷ []) Exit 0 [] (body_behind t (size c), tt) exit_not) is in
        let e : 0 + p ≡ p = omega arith in
        subst (λ n. IsAhead n s) e h

    goes_back : (p q : ℕ) (s : Site) (n : Node) → IsSite S p s → Goes s n → n ≡ At q → q ≤ p → (l : ℕ) × (Branches s.head l × (loop_of s.around l ≡ true))
    goes_back p q s _ is (to_next op e) same le = let lt = (site_ahead p s is).next q same in absurd (omega arith)
    goes_back p q s _ is (past l e) same le = let lt = (site_ahead p s is).next q same in absurd (omega arith)
    goes_back p q s n is (into k e) same le = let lt = (site_ahead p s is).inside k n e q same in absurd (omega arith)
    goes_back p q s _ is (branches l br) same le = elim (cases_Bool (loop_of s.around l)) [
      | inl loop ↦ (l, (br, loop))
      | inr off ↦ absurd (others_at p s.around (site_ahead p s is).labels l off q same)
    ]

    leads_back : (p q : ℕ) (a b : Node) → Leads S a b → a ≡ At p → b ≡ At q → q ≤ p
        → (l : ℕ) × ((s : Site) × (IsSite S p s × (Branches s.head l × (loop_of s.around l ≡ true))))
    leads_back p q _ b (from_at {p = i} s is g) e same le =
        let at : i ≡ p = same_at i p e in
        let is' : IsSite S p s = subst (λ n. IsSite S n s) at is in
        let h = goes_back p q s b is' g same le in
        (h.0, (s, (is', h.1)))
    leads_back p q _ _ (from_join {p = i} s is j) e same le = absurd (join_not i p e)

    -- a position that leads back is a branch to a loop
    pub back : (p q : ℕ) → Leads S (At p) (At q) → q ≤ p → (l : ℕ) × ((s : Site) × (IsSite S p s × (Branches s.head l × (loop_of s.around l ≡ true))))
    back p q l le = leads_back p q (At p) (At q) l refl refl le

    -- and a branch to a loop leads back
    pub loops : (p l : ℕ) (s : Site) → IsSite S p s → Branches s.head l → loop_of s.around l ≡ true → (q : ℕ) × (Leads S (At p) (At q) × (q ≤ p))
    loops p l s is br loop =
        let h = loops_at p s.around (site_ahead p s is).labels l loop in
        let lt = h.1.1 in
        (h.0, (subst (λ n. Leads S (At p) n) h.1.0 (from_at s is (branches l br)), omega arith))
