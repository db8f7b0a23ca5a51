-- One edge more in a table, in lists and among edges.
use Rattle.std.proofs.Common.{◌≡◌, ◌↔◌, ℕ, ◌+◌, ◌<◌, ◌≤◌, List, [], ◌∷◌, ◌++◌, Some, None, length, get_or, take}
use Rattle.std.proofs.Common.{ap, sym, ◌∙◌, subst, arith, inl, inr, ◌⊎◌, ⊎_elim}
use Rattle.std.specs.Prelude.{slice_get}
use Rattle.std.specs.List.{All, Contains}
use Rattle.std.proofs.lemmas.Bool.{cases_lt}
use Rattle.std.proofs.lemmas.List.{take_more}
use Rattle.std.proofs.lemmas.List.Elements.{All-more, All-weaker, Contains-push, Contains-push_cases, Contains-append_left}
use Rattle.worklist.specs.declared.labels.Root.{Root}
use Rattle.call_graph.specs.declared.classes.Classes.{Classes}
use Rattle.call_graph.specs.declared.edges.Edge.{Edge}
use Rattle.call_graph.specs.declared.edges.Way.{Way}
use Rattle.call_graph.specs.declared.edges.Way.TheVariants.{Callees, Callers}
use Rattle.call_graph.specs.declared.acts.Act.{Act}
use Rattle.call_graph.specs.Edges.{functions, IsMember, edge_along, edge_of, target_of}
use Rattle.std.specs.Option.{option_map}

-- ---- one more of a list of edges

module _ (edges : List Edge) (i : ℕ) (e : Edge) (lt : i < length edges) (here : e ≡ get_or edges i e) where
  next : take (i + 1) edges ≡ take i edges ++ e ∷ []
  next = take_more edges i e lt ∙ ap (λ (y : Edge). take i edges ++ y ∷ []) (sym here)

  more_in : (z : Edge) → Contains (take i edges) z ⊎ (e ≡ z) → Contains (take (i + 1) edges) z
  more_in z h = rw next (⊎_elim
      (λ k. Contains-append_left (take i edges) (e ∷ []) z k)
      (λ s. subst (Contains (take i edges ++ e ∷ [])) s (Contains-push (take i edges) e))
      h)

  in_more : (z : Edge) → Contains (take (i + 1) edges) z → Contains (take i edges) z ⊎ (e ≡ z)
  in_more z h = Contains-push_cases (take i edges) e z (rw next at h)

  -- lists that gain it
  pub lists_more : (way : Way) (Old New : ℕ → ℕ → Type 0)
      → ((x y : ℕ) → New x y ↔ (Old x y ⊎ ((x ≡ (edge_along way e).from) × (y ≡ (edge_along way e).to))))
      → ((x y : ℕ) → Old x y ↔ Contains (take i edges) (edge_along way (record { from = x; to = y })))
      → (x y : ℕ) → New x y ↔ Contains (take (i + 1) edges) (edge_along way (record { from = x; to = y }))
  lists_more way Old New gains exact x y =
      let it : Edge = edge_along way (record { from = x; to = y }) in (
        λ h. more_in it (⊎_elim (λ k. inl ((exact x y).0 k)) (λ p. inr (same_edge way p.0 p.1)) ((gains x y).0 h)),
        λ c. (gains x y).1 (⊎_elim (λ k. inl ((exact x y).1 k)) (λ s. inr (ends way s)) (in_more it c)),
      )
    where
      same_edge : (way : Way) → x ≡ (edge_along way e).from → y ≡ (edge_along way e).to → e ≡ edge_along way (record { from = x; to = y })
      same_edge Callees p q = let f : (a b : ℕ) → Edge = λ a b. record { from = a; to = b } in ap (λ (a : ℕ). f a e.to) (sym p) ∙ ap (f x) (sym q)
      same_edge Callers p q = let f : (a b : ℕ) → Edge = λ a b. record { from = a; to = b } in ap (λ (a : ℕ). f a e.to) (sym q) ∙ ap (f y) (sym p)

      ends : (way : Way) → e ≡ edge_along way (record { from = x; to = y }) → (x ≡ (edge_along way e).from) × (y ≡ (edge_along way e).to)
      ends Callees s = (sym (ap (λ (z : Edge). z.from) s), sym (ap (λ (z : Edge). z.to) s))
      ends Callers s = (sym (ap (λ (z : Edge). z.to) s), sym (ap (λ (z : Edge). z.from) s))

pub list_below : (way : Way) (n : ℕ) (e : Edge) → (e.from < n) × (e.to < n) → (edge_along way e).from < n
list_below Callees n e p = p.0
list_below Callers n e p = p.1

pub entry_below : (way : Way) (n x y : ℕ)
    → ((edge_along way (record { from = x; to = y })).from < n) × ((edge_along way (record { from = x; to = y })).to < n) → y < n
entry_below Callees n x y p = p.1
entry_below Callers n x y p = p.0

-- ---- the functions of classes

module _ (classes : Classes) (first old : List Edge) (i : ℕ)
    (so_far : (e : Edge) → Contains old e ↔ (Contains first e ⊎ ((e.to < i) × IsMember classes e))) where
  split : (k : ℕ) → k < i + 1 → (k < i) ⊎ (k ≡ i)
  split k lt = ⊎_elim inl (λ le. inr (omega arith)) (cases_lt k i)

  pub members_more : (c : ℕ) (new : List Edge) → slice_get classes.by_func.items i ≡ Some (Some c)
      → new ≡ old ++ record { from = functions classes + c; to = i } ∷ []
      → (e : Edge) → Contains new e ↔ (Contains first e ⊎ ((e.to < i + 1) × IsMember classes e))
  members_more c new is made e = (
    λ h. ⊎_elim
        (λ k. ⊎_elim inl (λ p. let lt = p.0 in inr (omega arith, p.1)) ((so_far e).0 k))
        (λ s.
        let at : i ≡ e.to = ap (λ (z : Edge). z.to) s in
        inr (omega arith, (c, (subst (λ (k : ℕ). slice_get classes.by_func.items k ≡ Some (Some c)) at is, sym (ap (λ (z : Edge). z.from) s)))))
        (Contains-push_cases old (record { from = functions classes + c; to = i }) e (rw made at h)),
    λ h. rw made (⊎_elim
        (λ k. Contains-append_left old (record { from = functions classes + c; to = i } ∷ []) e ((so_far e).1 (inl k)))
        (λ (lt, (d, (member, from))). ⊎_elim
        (λ l. Contains-append_left old (record { from = functions classes + c; to = i } ∷ []) e ((so_far e).1 (inr (l, (d, (member, from))))))
        (λ s.
        let both : Some (Some c) ≡ Some (Some d) = sym is ∙ (ap (slice_get classes.by_func.items) (sym s) ∙ member) in
        let one : c ≡ d = cc in
        subst (Contains (old ++ record { from = functions classes + c; to = i } ∷ [])) (same one s from) (Contains-push old (record { from = functions classes + c; to = i })))
        (split e.to lt))
        h),
  )
    where
      same : {d : ℕ} → c ≡ d → e.to ≡ i → e.from ≡ functions classes + d → record { from = functions classes + c; to = i } ≡ e
      same one s from =
          let f : (a b : ℕ) → Edge = λ a b. record { from = a; to = b } in
          ap (λ (a : ℕ). f a i) (ap (λ (k : ℕ). functions classes + k) one ∙ sym from) ∙ ap (f e.from) (sym s)

  pub members_skip : slice_get classes.by_func.items i ≡ Some None → (e : Edge) → Contains old e ↔ (Contains first e ⊎ ((e.to < i + 1) × IsMember classes e))
  members_skip is e = (
    λ h. ⊎_elim inl (λ p. let lt = p.0 in inr (omega arith, p.1)) ((so_far e).0 h),
    λ h. (so_far e).1 (⊎_elim
        inl
        (λ (lt, (d, (member, from))). ⊎_elim
        (λ l. inr (l, (d, (member, from))))
        (λ s. let both : Some None ≡ Some (Some d) = sym is ∙ (ap (slice_get classes.by_func.items) (sym s) ∙ member) in absurd cc)
        (split e.to lt))
        h),
  )

pub members_none : (classes : Classes) (first : List Edge) (e : Edge) → Contains first e ↔ (Contains first e ⊎ ((e.to < 0) × IsMember classes e))
members_none classes first e = (λ h. inl h, λ h. ⊎_elim (λ k. k) (λ p. absurd (omega (arith, p.0))) h)

pub members_all : (classes : Classes) (first all : List Edge) (n : ℕ) → functions classes ≤ n
    → ((e : Edge) → Contains all e ↔ (Contains first e ⊎ ((e.to < n) × IsMember classes e)))
    → ((f : ℕ) (c : ℕ) → slice_get classes.by_func.items f ≡ Some (Some c) → f < functions classes)
    → (e : Edge) → Contains all e ↔ (Contains first e ⊎ IsMember classes e)
members_all classes first all n le exact below e = (
  λ h. ⊎_elim inl (λ p. inr p.1) ((exact e).0 h),
  λ h. (exact e).1 (⊎_elim inl (λ m. let lt = below e.to m.0 m.1.0 in inr (omega arith, m)) h),
)

-- the lists of classes, with those of one function more
module _ (classes : Classes) (Old : ℕ → ℕ → Type 0) (i : ℕ) (so_far : (c f : ℕ) → Old c f ↔ ((f < i) × (slice_get classes.by_func.items f ≡ Some (Some c)))) where
  pub listed_more : (k : ℕ) (New : ℕ → ℕ → Type 0) → slice_get classes.by_func.items i ≡ Some (Some k) → ((c f : ℕ) → New c f ↔ (Old c f ⊎ ((c ≡ k) × (f ≡ i))))
      → (c f : ℕ) → New c f ↔ ((f < i + 1) × (slice_get classes.by_func.items f ≡ Some (Some c)))
  listed_more k New at gains c f = (
    λ h. ⊎_elim
        (λ o. let p = (so_far c f).0 o in let lt = p.0 in (omega (arith, lt), p.1))
        (λ p. let e = p.1 in (omega (arith, e), subst (λ (z : ℕ). slice_get classes.by_func.items z ≡ Some (Some c)) (sym e) (at ∙ ap (λ (z : ℕ). Some (Some z)) (sym p.0))))
        ((gains c f).0 h),
    λ (lt, is). (gains c f).1 (⊎_elim
        (λ l. inl ((so_far c f).1 (l, is)))
        (λ le.
        let e : f ≡ i = omega (arith, lt, le) in
        let both : Some (Some c) ≡ Some (Some k) = sym is ∙ (ap (slice_get classes.by_func.items) e ∙ at) in
        let one : c ≡ k = cc in inr (one, e))
        (cases_lt f i)),
  )

  pub listed_skip : slice_get classes.by_func.items i ≡ Some None → (c f : ℕ) → Old c f ↔ ((f < i + 1) × (slice_get classes.by_func.items f ≡ Some (Some c)))
  listed_skip at c f = (
    λ h. let p = (so_far c f).0 h in let lt = p.0 in (omega (arith, lt), p.1),
    λ (lt, is). (so_far c f).1 (⊎_elim
        (λ l. (l, is))
        (λ le.
        let e : f ≡ i = omega (arith, lt, le) in
        let both : Some (Some c) ≡ Some None = sym is ∙ (ap (slice_get classes.by_func.items) e ∙ at) in absurd cc)
        (cases_lt f i)),
  )

-- ---- the edge of an act

pub edge_is : (classes : Classes) (a : Act) (to : ℕ) → target_of classes a.deed ≡ Some to → edge_of classes a ≡ Some (record { from = a.func; to = to })
edge_is classes a to e = ap (option_map (λ (y : ℕ). record { from = a.func; to = y })) e

pub edge_none : (classes : Classes) (a : Act) → target_of classes a.deed ≡ None → edge_of classes a ≡ None
edge_none classes a e = ap (option_map (λ (y : ℕ). let z : Edge = record { from = a.func; to = y } in z)) e

-- ---- labels

pub columns_more : (roots : List Root) (i old new : ℕ) (d : Root) → i < length roots → old ≤ new → (get_or roots i d).label < new
    → All (λ (r : Root). r.label < old) (take i roots) → All (λ (r : Root). r.label < new) (take (i + 1) roots)
columns_more roots i old new d lt le here so_far =
    All-more (λ (r : Root). r.label < new) roots i d lt
    (All-weaker (λ (r : Root). r.label < old) (λ (r : Root). r.label < new) (λ r below. let b = below in omega arith) (take i roots) so_far) here
