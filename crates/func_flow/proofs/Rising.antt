-- What a search meets that goes up past whole regions at once is what the search meets, but for what stands between.
use Rattle.std.proofs.Common.{◌≡◌, ◌↔◌, ℕ, ◌≤◌, List, Bool, true, false, None, Some, refl, sym, ap, ◌∙◌, subst, inl, inr, ◌⊎◌, ⊎_elim, arith}
use Rattle.std.specs.Prelude.{slice_get}
use Rattle.std.specs.List.{Contains}
use Rattle.wasm_types.specs.declared.place.Loc.{Loc}
use Rattle.wasm_types.specs.declared.place.Loc.TheVariants.{Local}
use Rattle.wasm_types.specs.declared.place.Loc.TheVariants as loc
use Rattle.wasm_types.specs.declared.place.Node.{Node}
use Rattle.wasm_types.specs.Nodes.{At}
use Rattle.wasm_types.specs.Reaching.{Writes}
use Rattle.block_cfg.specs.Graph.{Graph, number, row_of}
use Rattle.worklist.specs.Reached.{Reached, root, step}
use Rattle.single_entry.specs.declared.skips.Skips.{Skips}
use Rattle.single_entry.specs.Climbs.{AreEntries}
use Rattle.single_entry.specs.Entries.{IsGraph}
use Rattle.single_entry.proofs.Climbing.{tops_some}
use Rattle.single_entry.proofs.Skipping.{reached_on}
use Rattle.single_entry.proofs.Ways.{Passed, Back, climbs_begins, passed_stays, passed_later, climbs_way}
use Rattle.slice_closure.proofs.Passing.{Follows, here, onward}
use Rattle.func_flow.specs.declared.items.Item.{Item}
use Rattle.func_flow.specs.declared.items.Item.TheVariants.{Value, Completion, Decider, Decided, Written, Needed}
use Rattle.func_flow.specs.declared.runs.Runs.{Runs}
use Rattle.func_flow.specs.declared.tables.Tables.{Tables}
use Rattle.func_flow.specs.Items.{node_of}
use Rattle.func_flow.specs.Next.{whom_at, WrittenAt, Next}
use Rattle.func_flow.specs.Runs.{is_inner, writers_in, AreRuns, AreQuiet, may_rise, IsTopBy, Raises, Short}
use Rattle.func_flow.proofs.Pushes.{writes_is}
use Rattle.func_flow.proofs.RunLemmas.{Forced, forced_edge, forced_only, begin_free, free_at, lands_sound, lands_complete}

-- ---- steps that go on past others

module _ {A : Type 0} (Root : A → Type 0) (Edge Short : A → A → Type 0) where
  far_sound : ((i j : A) → Short i j → Reached (λ k. k ≡ i) Edge j) → (y : A) → Reached Root Short y → Reached Root Edge y
  far_sound leads y (root r) = root r
  far_sound leads y (step w h s) = reached_on Root Edge Short w y (far_sound leads w h) (leads w y s)

  -- what stands between is inside of where a step goes to, and from there edges lead on inside, or to there
  module _ (Inside : A → A → Type 0) (lands : (i k : A) → Edge i k → (j : A) × (Short i j × ((k ≡ j) ⊎ Inside j k)))
      (stays : (j c d : A) → Inside j c → Edge c d → Inside j d ⊎ (d ≡ j)) where
    far_complete : (y : A) → Reached Root Edge y → Reached Root Short y ⊎ ((j : A) × (Reached Root Short j × Inside j y))
    far_complete y (root r) = inl (root r)
    far_complete y (step w h e) = ⊎_elim
        (λ short. let (j, (s, at)) = lands w y e in ⊎_elim
        (λ same. inl (subst (λ i. Reached Root Short i) (sym same) (step w short s)))
        (λ inside. inr (j, (step w short s, inside)))
        at)
        (λ (j, (short, inside)). ⊎_elim
        (λ more. inr (j, (short, more)))
        (λ same. inl (subst (λ i. Reached Root Short i) (sym same) short))
        (stays j w y inside e))
        (far_complete w h)

-- ---- regions

module _ (g : Graph) (s : Skips) (entries : AreEntries g s) (writers : List ℕ) where
  -- nothing is written where an edge leads to from inside
  passed_from : (b c : Node) (p : ℕ) → Passed g s entries writers b c → Contains (row_of g.before c) (At p) → Contains writers p → ⊥
  passed_from b c p q has there =
      let i = entries q.point q.entry q.is in
      let within = ⊎_elim (λ more. i.covers p more) (λ same. i.covers_from p (sym same)) (i.entered.through c (At p) q.inside has) in
      q.quiet p there within.0 (omega (arith, within.1))

-- c is needed inside a region that is gone past up to j
pub record Under (t : Tables) (r : Runs) (skips : AreEntries t.cfg.now r.skips) (j c : Item) : Type 0 where
  pub place : Loc
  pub top : Node
  pub point : Node
  pub rises : may_rise r.calm place ≡ true
  pub is : c ≡ Needed place point
  pub top_is : j ≡ Needed place top
  pub passed : Passed t.cfg.now r.skips skips (writers_in r place) top point

module _ (t : Tables) (r : Runs) (quiet : AreQuiet t) (runs : AreRuns t r) (graph : IsGraph t.cfg.now) where
  abbrev g : Graph
  g = t.cfg.now

  -- what leads on is a point
  leads_point : (a b : Node) → Contains (row_of g.before b) a → Contains g.points b
  leads_point a b has = let G = graph.1.1 in (G.points b).1 (G.stays a b ((G.before a b).0 has)).1

  calm_at : (x : Loc) (q : ℕ) → may_rise r.calm x ≡ true → is_inner x ≡ false → whom_at t q ≡ None
  calm_at (Local k) q up outer = absurd cc
  calm_at (loc.Global k) q up outer = runs.calm up q
  calm_at loc.Mem q up outer = runs.calm up q
  calm_at loc.Size q up outer = runs.calm up q
  calm_at loc.Host q up outer = runs.calm up q

  -- nothing is written where an edge leads to from inside
  node_free : (x : Loc) (a u b : Node) → may_rise r.calm x ≡ true → Passed g r.skips runs.skips (writers_in r x) a u → Contains (row_of g.before u) b
      → Writes (WrittenAt t) x b → ⊥
  node_free x a u b up passed has w =
      let (p, (is, at)) = writes_is (WrittenAt t) x b w in
      free_at t r quiet runs x p (calm_at x p up)
      (passed_from g r.skips runs.skips (writers_in r x) a u p passed (subst (λ z. Contains (row_of g.before u) z) is has))
      (subst (λ z. Writes (WrittenAt t) x z) is w)

  under_stays : (j c d : Item) → Under t r runs.skips j c → Next t c d → Under t r runs.skips j d ⊎ (d ≡ j)
  under_stays j c d u e =
      let (point, (b, (has, passes))) = subst (λ z. Next t z d) u.is e in
      ⊎_elim
      (λ (w, same). absurd (node_free u.place u.top u.point b u.rises u.passed has w))
      (λ (free, same). ⊎_elim
      (λ more. inl (record { place = u.place; top = u.top; point = b; rises = u.rises; is = same; top_is = u.top_is; passed = more }))
      (λ at. inr (same ∙ (ap (Needed u.place) at ∙ sym u.top_is)))
      (passed_stays g r.skips runs.skips (writers_in r u.place) u.top u.point b u.passed has))
      passes

  -- ---- what a step goes on past

  abbrev AtOrUnder : Item → Item → Type 0
  AtOrUnder j k = (k ≡ j) ⊎ Under t r runs.skips j k

  -- a forced way leads from there to k, of a step at least, and k is j or is needed under it
  abbrev Ahead : Item → Item → Type 0
  Ahead j c = (k : Item) × ((m : Item) × (Forced t c m × (Follows (Forced t) m k × AtOrUnder j k)))

  abbrev Inside : Item → Item → Type 0
  Inside j c = Ahead j c ⊎ Under t r runs.skips j c

  follows_in : (m k j : Item) → Follows (Forced t) m k → AtOrUnder j k → (m ≡ j) ⊎ Inside j m
  follows_in m _ j here at = ⊎_elim (λ same. inl same) (λ under. inr (inr under)) at
  follows_in m k j (onward n f rest) at = inr (inl (k, (n, (f, (rest, at)))))

  stays : (j c d : Item) → Inside j c → Next t c d → Inside j d ⊎ (d ≡ j)
  stays j c d inside e = ⊎_elim
      (λ (k, (m, (f, (rest, at)))).
      let same : m ≡ d = forced_only t c m d f e in
      ⊎_elim (λ is. inr (sym same ∙ is)) (λ more. inl (subst (λ z. Inside j z) same more)) (follows_in m k j rest at))
      (λ under. ⊎_elim (λ more. inl (inr more)) (λ is. inr is) (under_stays j c d under e))
      inside

  -- ---- steps land

  tops_in : (x : Loc) (n : Node) (up : Bool) → may_rise r.calm x ≡ up
      → (j : Item) × (((a : Node) × (IsTopBy r x n up a × (j ≡ Needed x a))) × AtOrUnder j (Needed x n))
  tops_in x n true is =
      let (a, tops) = tops_some g r.skips runs.skips (writers_in r x) n in (
        Needed x a,
        (
          (a, (tops, refl)),
          ⊎_elim
              (λ same. inl (ap (Needed x) same))
              (λ passed. inr (record { place = x; top = a; point = n; rises = is; is = refl; top_is = refl; passed = passed }))
              (climbs_begins g r.skips runs.skips (writers_in r x) n a tops.climbs),
        ),
      )
  tops_in x n false is = (Needed x n, ((n, (refl, refl)), inl refl))

  raises : (k : Item) → (j : Item) × (Raises r k j × AtOrUnder j k)
  raises (Value n) = (Value n, (refl, inl refl))
  raises (Completion n) = (Completion n, (refl, inl refl))
  raises (Written x n) = (Written x n, (refl, inl refl))
  raises (Decider n) = (Decider n, (refl, inl refl))
  raises (Decided n) = (Decided n, (refl, inl refl))
  raises (Needed x n) = tops_in x n (may_rise r.calm x) refl

  lands : (i k : Item) → Next t i k → (j : Item) × (Short t r i j × ((k ≡ j) ⊎ Inside j k))
  lands (Value n) k h = (k, (h, inl refl))
  lands (Completion n) k h = (k, (h, inl refl))
  lands (Written x n) k h = (k, (h, inl refl))
  lands (Decider n) k h = (k, (h, inl refl))
  lands (Decided n) k h = (k, (h, inl refl))
  lands (Needed x a) k (point, (b, (has, passes))) =
      let (m, (landed, follows)) = lands_complete t r quiet runs x b k passes in
      let (j, (raised, at)) = raises m in
      (j, ((point, (b, (has, (m, (landed, raised))))), follows_in k m j follows at))

  -- ---- steps are ways along edges

  forced_on : (Root : Item → Type 0) (m k : Item) → Reached Root (Next t) m → Follows (Forced t) m k → Reached Root (Next t) k
  forced_on Root m _ h here = h
  forced_on Root m k h (onward n f rest) = forced_on Root n k (step m h (forced_edge t m n f)) rest

  way_items : (x : Loc) (a n : Node) → may_rise r.calm x ≡ true → (c : Node) → Reached (λ i. i ≡ n) (Back g r.skips runs.skips (writers_in r x) a) c
      → Reached (λ i. i ≡ Needed x n) (Next t) (Needed x c)
  way_items x a n up c (root e) = root (ap (Needed x) e)
  way_items x a n up c (step w h (passed, has)) =
      step (Needed x w) (way_items x a n up w h) (leads_point c w has, (c, (has, inr (node_free x a w c up passed has, refl))))

  top_way : (x : Loc) (n a : Node) (up : Bool) → may_rise r.calm x ≡ up → IsTopBy r x n up a → Reached (λ i. i ≡ Needed x n) (Next t) (Needed x a)
  top_way x n a true is tops = way_items x a n is a (climbs_way g r.skips runs.skips (writers_in r x) a n tops.climbs)
  top_way x n a false is e = root (ap (Needed x) e)

  raise_way : (k j : Item) → Raises r k j → Reached (λ i. i ≡ k) (Next t) j
  raise_way (Value n) j e = root e
  raise_way (Completion n) j e = root e
  raise_way (Written x n) j e = root e
  raise_way (Decider n) j e = root e
  raise_way (Decided n) j e = root e
  raise_way (Needed x n) j (a, (top, e)) =
      subst (λ z. Reached (λ i. i ≡ Needed x n) (Next t) z) (sym e) (top_way x n a (may_rise r.calm x) refl top)

  leads : (i j : Item) → Short t r i j → Reached (λ k. k ≡ i) (Next t) j
  leads (Value n) j h = step (Value n) (root refl) h
  leads (Completion n) j h = step (Completion n) (root refl) h
  leads (Written x n) j h = step (Written x n) (root refl) h
  leads (Decider n) j h = step (Decider n) (root refl) h
  leads (Decided n) j h = step (Decided n) (root refl) h
  leads (Needed x a) j (point, (b, (has, (k, (landed, raised))))) =
      let (m, (passes, follows)) = lands_sound t r quiet runs x b k landed in
      let first : Reached (λ i. i ≡ Needed x a) (Next t) m = step (Needed x a) (root refl) (point, (b, (has, passes))) in
      reached_on (λ i. i ≡ Needed x a) (Next t) (Short t r) k j (forced_on (λ i. i ≡ Needed x a) m k first follows) (raise_way k j raised)

  -- ---- where a body begins

  begins_outside : (x : Loc) (n : Node) → number n ≤ 1 → slice_get g.points 0 ≡ Some n → (j : Item) → Inside j (Needed x n) → ⊥
  begins_outside x n low first j inside = ⊎_elim
      (λ (k, (m, (f, rest))). begin_free t x n low m f)
      (λ u.
      let same : n ≡ u.point = ap node_of u.is in
      passed_later g r.skips runs.skips (writers_in r u.place) u.top u.point u.passed (first ∙ ap Some same))
      inside

  -- a search that goes up meets what the search meets, of what isn't gone past
  pub short_met : (Root : Item → Type 0) (x : Loc) (n : Node) → number n ≤ 1 → slice_get g.points 0 ≡ Some n
      → Reached Root (Short t r) (Needed x n) ↔ Reached Root (Next t) (Needed x n)
  short_met Root x n low first = (
    λ h. far_sound Root (Next t) (Short t r) leads (Needed x n) h,
    λ h. ⊎_elim
        (λ short. short)
        (λ (j, (reached, inside)). absurd (begins_outside x n low first j inside))
        (far_complete Root (Next t) (Short t r) Inside lands stays (Needed x n) h),
  )
