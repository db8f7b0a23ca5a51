-- What a search backwards meets that goes up through whole regions at once.
use Rattle.std.proofs.Common.{◌≡◌, ℕ, ◌<◌, ◌≤◌, List, Some, length, refl, sym, ◌∙◌, ap, subst, inl, inr, ◌⊎◌, ⊎_elim, arith}
use Rattle.std.specs.List.{Contains}
use Rattle.std.proofs.lemmas.Bool.{cases_lt}
use Rattle.wasm_types.specs.declared.place.Loc.{Loc}
use Rattle.wasm_types.specs.declared.place.Node.{Node}
use Rattle.wasm_types.specs.Nodes.{At}
use Rattle.wasm_types.specs.Sites.{Sites, Leads}
use Rattle.wasm_types.specs.Reaching.{Writes, Path, Enters}
use Rattle.block_cfg.specs.Graph.{Graph}
use Rattle.block_cfg.specs.Points.{IsGraphOf}
use Rattle.flow_domain.specs.LocTables.{Rows, WritesIn}
use Rattle.worklist.specs.Reached.{Reached, root, step}
use Rattle.worklist.proofs.Reaching.{reached_more}
use Rattle.single_entry.specs.declared.skips.Skips.{Skips}
use Rattle.single_entry.specs.Climbs.{Tops, AreEntries}
use Rattle.single_entry.proofs.Climbing.{tops_some}
use Rattle.single_entry.proofs.Ways.{Passed, Back, climbs_begins, passed_stays, passed_free, passed_later, climbs_way}
use Rattle.single_entry.proofs.Skipping.{Roots, Short, skipping_sound, skipping_complete}
use Rattle.def_use.specs.Places.{point_at, place_of, IsPlaces, Steps, GoesBack, AreWriters}
use Rattle.def_use.proofs.Backwards as plain
use Rattle.def_use.proofs.Backwards.{writes_is, place_is, earlier_is, later_is, start_is, all_placed, Before, leads_before, Edge, Means}

module _ (S : Sites) (start : Node) (g : Graph) (graph : IsGraphOf S start g) (places : List ℕ) (placed : IsPlaces g places) (s : Skips)
    (entries : AreEntries g s) (T : Rows) (x : Loc) (writers : List ℕ) (write : AreWriters T x writers) (q : Node) (there : Contains g.points q) where
  -- from a place up to that of the top; behind the last place nothing goes up
  abbrev Jump : ℕ → ℕ → Type 0
  Jump k j = ((length g.points ≤ k) × (j ≡ k)) ⊎ ((k < length g.points) × ((b : Node) × (Tops s writers (point_at g.points k) b × (j ≡ place_of places b))))

  -- the point at place c is gone past
  abbrev Inside : ℕ → ℕ → ℕ → Type 0
  Inside k j c = (c < length g.points) × ((b : Node) × ((j ≡ place_of places b) × Passed g s entries writers b (point_at g.points c)))

  abbrev Root : ℕ → Type 0
  Root y = Before S start g graph places placed (place_of places q) y

  abbrev Goes : ℕ → ℕ → Type 0
  Goes k y = Edge S start g graph places placed T x q there k y

  jumps : (k : ℕ) → (j : ℕ) × Jump k j
  jumps k = elim (cases_lt k (length g.points)) [
    | inl lt ↦ let (b, top) = tops_some g s entries writers (point_at g.points k) in (place_of places b, inr (lt, (b, (top, refl))))
    | inr le ↦ (k, inl (le, refl))
  ]

  begins : (k j : ℕ) → Jump k j → (k ≡ j) ⊎ Inside k j k
  begins k j jump = ⊎_elim
      (λ (le, is). inl (sym is))
      (λ (lt, (b, (top, is))). ⊎_elim
      (λ same. inl (sym (placed.placed k lt) ∙ (ap (place_of places) same ∙ sym is)))
      (λ passed. inr (lt, (b, (is, passed))))
      (climbs_begins g s entries writers (point_at g.points k) b top.climbs))
      jump

  stays : (k j c d : ℕ) → Jump k j → Inside k j c → Goes c d → Inside k j d ⊎ (d ≡ j)
  stays k j c d jump (lt, (b, (is, passed))) (below, (free, before)) = ⊎_elim
      (λ (first, e).
      let at : start ≡ point_at g.points c = sym (ap (point_at g.points) first ∙ (start_is S start g graph places placed).1) in
      absurd (passed_later g s entries writers b (point_at g.points c) passed (graph.first ∙ ap Some at)))
      (λ (a, (has, e)).
      let at = earlier_is S start g graph places placed a (point_at g.points c) ((graph.before a (point_at g.points c)).0 has) in
      let d_is : d ≡ place_of places a = e in
      ⊎_elim
      (λ more. inl (rw d_is at.0, (b, (is, subst (λ z. Passed g s entries writers b z) (sym (ap (point_at g.points) d_is ∙ at.1)) more))))
      (λ same. inr (d_is ∙ (ap (place_of places) same ∙ sym is)))
      (passed_stays g s entries writers b (point_at g.points c) a passed has))
      before

  no_write : (b c : Node) → Passed g s entries writers b c → Writes (WritesIn T) x c → ⊥
  no_write b c passed w =
      let (p, (is, writes)) = writes_is (WritesIn T) x c w in
      passed_free g s entries writers b p (subst (λ z. Passed g s entries writers b z) is passed) ((write.exact p).1 writes)

  way_places : (b n : Node) (k : ℕ) → place_of places n ≡ k → (c : Node) → Reached (λ i. i ≡ n) (Back g s entries writers b) c
      → Reached (λ i. i ≡ k) Goes (place_of places c)
  way_places b n k at c (root e) = root (ap (place_of places) e ∙ at)
  way_places b n k at c (step w r (passed, has)) =
      let l : Leads S c w = (graph.before c w).0 has in
      let here = later_is S start g graph places placed c w l in
      step (place_of places w) (way_places b n k at w r)
      (here.0, (λ writes. no_write b w passed (subst (λ z. Writes (WritesIn T) x z) here.1 writes), leads_before S start g graph places placed c w l))

  leads : (k j : ℕ) → Jump k j → Reached (λ i. i ≡ k) Goes j
  leads k j jump = ⊎_elim
      (λ (le, is). root is)
      (λ (lt, (b, (top, is))). subst (λ z. Reached (λ i. i ≡ k) Goes z) (sym is)
      (way_places b (point_at g.points k) k (placed.placed k lt) b (climbs_way g s entries writers b (point_at g.points k) top.climbs)))
      jump

  -- ---- its steps are edges and jumps

  steps_of : (k y : ℕ) → (m : ℕ) × (Before S start g graph places placed k m × Jump m y) → Steps g s places writers k y
  steps_of k y (m, (before, jump)) = ⊎_elim
      (λ (first, e). ⊎_elim (λ (le, is). inl (first, is ∙ e)) (λ (lt, top). let e' : m ≡ length g.points = e in absurd (omega arith)) jump)
      (λ (a, (has, e)).
      let at = earlier_is S start g graph places placed a (point_at g.points k) ((graph.before a (point_at g.points k)).0 has) in
      let m_is : m ≡ place_of places a = e in
      ⊎_elim
      (λ (le, is). absurd (omega (arith, at.0)))
      (λ (lt, (b, (top, is))). inr (a, (has, (b, (subst (λ z. Tops s writers z b) (ap (point_at g.points) m_is ∙ at.1) top, is)))))
      jump)
      before

  of_steps : (k y : ℕ) → Steps g s places writers k y → (m : ℕ) × (Before S start g graph places placed k m × Jump m y)
  of_steps k y steps = ⊎_elim
      (λ (first, is). (length g.points, (inl (first, refl), inl (omega arith, is))))
      (λ (a, (has, (b, (top, is)))).
      let at = earlier_is S start g graph places placed a (point_at g.points k) ((graph.before a (point_at g.points k)).0 has) in
      (place_of places a, (inr (a, (has, refl)), inr (at.0, (b, (subst (λ z. Tops s writers z b) (sym at.1) top, is))))))
      steps

  abbrev pub Met : ℕ → Type 0
  Met y = Reached (Steps g s places writers (place_of places q)) (GoesBack g T s places writers x) y

  met_short : (y : ℕ) → Met y → Reached (Roots Root Goes Jump) (Short Root Goes Jump) y
  met_short y r =
      reached_more (Steps g s places writers (place_of places q)) (Roots Root Goes Jump) (GoesBack g T s places writers x) (Short Root Goes Jump)
      (λ z st. of_steps (place_of places q) z st)
      (λ k z (lt, (free, st)). let (m, (before, jump)) = of_steps k z st in (m, ((lt, (free, before)), jump))) y r

  short_met : (y : ℕ) → Reached (Roots Root Goes Jump) (Short Root Goes Jump) y → Met y
  short_met y r =
      reached_more (Roots Root Goes Jump) (Steps g s places writers (place_of places q)) (Short Root Goes Jump) (GoesBack g T s places writers x)
      (λ z st. steps_of (place_of places q) z st)
      (λ k z (m, ((lt, (free, before)), jump)). (lt, (free, steps_of k z (m, (before, jump))))) y r

  -- ---- what it meets

  pub means : (y : ℕ) → Met y → Means S start g graph places placed T x q there y
  means y r = plain.means S start g graph places placed T x q there y (skipping_sound Root Goes Jump leads y (met_short y r))

  met : (y : ℕ) → plain.Met S start g graph places placed T x q there y → ((k j : ℕ) → Inside k j y → ⊥) → Met y
  met y r out = ⊎_elim
      (λ short. short_met y short)
      (λ (k, (j, (jump, (reached, inside)))). absurd (out k j inside))
      (skipping_complete Root Goes Jump Inside (λ k h. jumps k) begins stays y r)

  pub path_met : (d : ℕ) → WritesIn T d x → Path (WritesIn T) S x (At d) q → point_at g.points (place_of places (At d)) ≡ At d → Met (place_of places (At d))
  path_met d w path at = met (place_of places (At d)) (plain.path_met S start g graph places placed T x q there (At d) path)
      (λ k j (lt, (b, (is, passed))). passed_free g s entries writers b d (subst (λ z. Passed g s entries writers b z) at passed) ((write.exact d).1 w))

  pub entry_met : Enters (WritesIn T) S x start q → Met (length g.points)
  entry_met e = met (length g.points) (plain.entry_met S start g graph places placed T x q there start refl e)
      (λ k j (lt, inside). omega arith)
