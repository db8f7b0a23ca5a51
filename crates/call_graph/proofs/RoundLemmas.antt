-- Rows of labels that nodes give on along edges: one merge, one node, one round, and all of them.
use Rattle.std.proofs.Common.{◌≡◌, ◌↔◌, ℕ, ◌+◌, ◌*◌, ◌<◌, List, [], ◌∷◌, ◌++◌, Vec, Global, Some, length, get_or, take, refl, ap, sym, ◌∙◌, subst, ⊎_elim}
use Rattle.std.specs.Prelude.{slice_get}
use Rattle.std.specs.List.{Contains}
use Rattle.std.proofs.lemmas.List.{take_more}
use Rattle.std.proofs.lemmas.List.Elements.{Contains-push, Contains-push_cases, Contains-append_left}
use Rattle.worklist.specs.Bits.{HasBit, GainsBits}
use Rattle.worklist.specs.Lists.{Has}
use Rattle.worklist.specs.Reached.{Reached, root, step}
use Rattle.worklist.specs.Roots.{IsRootOf}
use Rattle.worklist.specs.declared.labels.Root.{Root}
use Rattle.worklist.proofs.Reaching.{reached_more}
use Rattle.call_graph.specs.Rounds.{IsClosed, Spreads}
use Rattle.call_graph.proofs.ListLemmas.{has_row}
use Rattle.call_graph.proofs.Members.{none_in}

pub spreads_none : (words : ℕ) (E : ℕ → ℕ → Type 0) (bits : List ℕ) → Spreads words E bits bits
spreads_none words E bits = record { length_is = refl; kept = λ x o lt h. h; only = λ x o lt h. root h }

-- what is reached from what is reached
reached_over : {I : Type 0} (A B : I → Type 0) (E : I → I → Type 0) → ((y : I) → B y → Reached A E y) → (x : I) → Reached B E x → Reached A E x
reached_over A B E from x (root r) = from x r
reached_over A B E from x (step w h e) = step w (reached_over A B E from w h) e

pub spreads_then : (words : ℕ) (E : ℕ → ℕ → Type 0) (a b c : List ℕ) → Spreads words E a b → Spreads words E b c → Spreads words E a c
spreads_then words E a b c m n = record {
  length_is = n.length_is ∙ m.length_is;
  kept = λ x o lt h. n.kept x o lt (m.kept x o lt h);
  only = λ x o lt h.
      reached_over (λ (y : ℕ). HasBit words a y o) (λ (y : ℕ). HasBit words b y o) E (λ y k. m.only y o lt k) x (n.only x o lt h);
}

pub spreads_wider : (words : ℕ) (E F : ℕ → ℕ → Type 0) (a b : List ℕ) → ((y x : ℕ) → E y x → F y x) → Spreads words E a b → Spreads words F a b
spreads_wider words E F a b wider m = record {
  length_is = m.length_is;
  kept = m.kept;
  only = λ x o lt h. reached_more (λ (y : ℕ). HasBit words a y o) (λ (y : ℕ). HasBit words a y o) E F (λ y r. r) wider x (m.only x o lt h);
}

-- ---- a row is merged into others

module _ (words node : ℕ) (others : List ℕ) where
  abbrev pub From : List ℕ → ℕ → ℕ → Type 0
  From xs y x = (y ≡ node) × Contains xs x

  pub merge_spreads : (to : ℕ) (now new : List ℕ) → Contains others to → GainsBits words (λ r o. (r ≡ to) × HasBit words now node o) now new
      → Spreads words (From others) now new
  merge_spreads to now new c g = record {
    length_is = g.length_is;
    kept = g.kept;
    only = λ x o lt h. ⊎_elim (λ k. root k) (λ p. step node (root p.1) (refl, subst (Contains others) (sym p.0) c)) (g.only x o lt h);
  }

  pub merge_closed : (i to : ℕ) (now new : List ℕ) → i < length others → get_or others i 0 ≡ to → new ≡ now
      → GainsBits words (λ r o. (r ≡ to) × HasBit words now node o) now new → IsClosed words (From (take i others)) now
      → IsClosed words (From (take (i + 1) others)) new
  merge_closed i to now new lt here same g closed y x o within (e, c) h =
      let next : take (i + 1) others ≡ take i others ++ to ∷ [] = take_more others i 0 lt ∙ ap (λ (k : ℕ). take i others ++ k ∷ []) here in
      let was : HasBit words now y o = subst (λ (bits : List ℕ). HasBit words bits y o) same h in
      ⊎_elim
      (λ k. g.kept x o within (closed y x o within (e, k) was))
      (λ s. g.all x o within (sym s, subst (λ (k : ℕ). HasBit words now k o) e was))
      (Contains-push_cases (take i others) to x (rw next at c))

pub closed_none : (words node : ℕ) (bits : List ℕ) → IsClosed words (λ y x. (y ≡ node) × Contains [] x) bits
closed_none words node bits y x o lt (e, c) h = absurd (none_in x c)

-- ---- one node after another

module _ (words : ℕ) (lists : List (Vec ℕ Global)) (order : List ℕ) where
  abbrev pub Along : List ℕ → ℕ → ℕ → Type 0
  Along nodes y x = Contains nodes y × Has lists y x

  pub node_spreads : (node : ℕ) (row : Vec ℕ Global) (now new : List ℕ) → slice_get lists node ≡ Some row
      → Spreads words (λ y x. (y ≡ node) × Contains row.items x) now new → Spreads words (Has lists) now new
  node_spreads node row now new at g =
      spreads_wider words (λ y x. (y ≡ node) × Contains row.items x) (Has lists) now new
      (λ y x (e, c). subst (λ (z : ℕ). Has lists z x) (sym e) ((has_row lists node row at x).0 c)) g

  pub node_closed : (i node : ℕ) (row : Vec ℕ Global) (now new : List ℕ) → i < length order → get_or order i 0 ≡ node → slice_get lists node ≡ Some row
      → new ≡ now → IsClosed words (λ y x. (y ≡ node) × Contains row.items x) new → IsClosed words (Along (take i order)) now
      → IsClosed words (Along (take (i + 1) order)) new
  node_closed i node row now new lt here at same one closed y x o within (c, e) h =
      let next : take (i + 1) order ≡ take i order ++ node ∷ [] = take_more order i 0 lt ∙ ap (λ (k : ℕ). take i order ++ k ∷ []) here in
      ⊎_elim
      (λ k. subst (λ (bits : List ℕ). HasBit words bits x o) (sym same)
      (closed y x o within (k, e) (subst (λ (bits : List ℕ). HasBit words bits y o) same h)))
      (λ s. one y x o within (sym s, (has_row lists node row at x).1 (subst (λ (z : ℕ). Has lists z x) (sym s) e)) h)
      (Contains-push_cases (take i order) node y (rw next at c))

  pub order_closed_none : (bits : List ℕ) → IsClosed words (Along []) bits
  order_closed_none bits y x o lt (c, e) h = absurd (none_in y c)

  pub all_closed : (bits : List ℕ) → ((y x : ℕ) → Has lists y x → Contains order y) → IsClosed words (Along order) bits → IsClosed words (Has lists) bits
  all_closed bits whole closed y x o lt e h = closed y x o lt (whole y x e, e) h

-- ---- from the roots on

pub spread_exact : (words : ℕ) (E : ℕ → ℕ → Type 0) (roots : List Root) (first last : List ℕ)
    → ((x o : ℕ) → o < words * 64 → HasBit words first x o ↔ IsRootOf roots o x) → Spreads words E first last → IsClosed words E last
    → (x o : ℕ) → o < words * 64 → HasBit words last x o ↔ Reached (IsRootOf roots o) E x
spread_exact words E roots first last start g closed x o lt = (
  λ h. reached_more (λ (y : ℕ). HasBit words first y o) (IsRootOf roots o) E E (λ y r. (start y o lt).0 r) (λ a b e. e) x (g.only x o lt h),
  to x,
)
  where
    to : (x : ℕ) → Reached (IsRootOf roots o) E x → HasBit words last x o
    to x (root r) = g.kept x o lt ((start x o lt).1 r)
    to x (step w h e) = closed w x o lt e (to w h)

-- one root more
pub roots_more : (words : ℕ) (roots : List Root) (i : ℕ) (r : Root) (now new : List ℕ) → i < length roots → r ≡ get_or roots i r
    → GainsBits words (λ x o. (x ≡ r.node) × (o ≡ r.label)) now new
    → ((x o : ℕ) → o < words * 64 → HasBit words now x o ↔ IsRootOf (take i roots) o x)
    → (x o : ℕ) → o < words * 64 → HasBit words new x o ↔ IsRootOf (take (i + 1) roots) o x
roots_more words roots i r now new lt here g so_far x o within =
    let next : take (i + 1) roots ≡ take i roots ++ r ∷ [] = take_more roots i r lt ∙ ap (λ (k : Root). take i roots ++ k ∷ []) (sym here) in
    let it : Root = record { label = o; node = x } in (
      λ h. rw next (⊎_elim
          (λ k. Contains-append_left (take i roots) (r ∷ []) it ((so_far x o within).0 k))
          (λ p. subst (Contains (take i roots ++ r ∷ [])) (same p.0 p.1) (Contains-push (take i roots) r))
          (g.only x o within h)),
      λ c. ⊎_elim
          (λ k. g.kept x o within ((so_far x o within).1 k))
          (λ e. g.all x o within (sym (ap (λ (z : Root). z.node) e), sym (ap (λ (z : Root). z.label) e)))
          (Contains-push_cases (take i roots) r it (rw next at c)),
    )
  where
    same : x ≡ r.node → o ≡ r.label → r ≡ record { label = o; node = x }
    same a b = let f : (l n : ℕ) → Root = λ l n. record { label = l; node = n } in ap (λ (l : ℕ). f l r.node) (sym b) ∙ ap (f o) (sym a)
