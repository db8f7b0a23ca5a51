-- The tables of a module's graph tell what its functions call, reach, touch and write.
use Rattle.std.proofs.Common.{◌≡◌, ◌↔◌, ℕ, zero, suc, ◌+◌, ◌<◌, ◌≤◌, List, [], ◌∷◌, true, Option, Some, None, length, get_or}
use Rattle.std.proofs.Common.{refl, ap, sym, ◌∙◌, subst, arith, inl, inr, ⊎_elim}
use Rattle.std.specs.Prelude.{slice_get}
use Rattle.std.specs.List.{All, Contains, filter_map}
use Rattle.std.proofs.lemmas.List.Elements.{Contains-get_or}
use Rattle.std.specs.Option.{option_map}
use Rattle.wasm_types.specs.declared.module.Module.{Module}
use Rattle.wasm_types.specs.declared.place.Loc.{Loc}
use Rattle.wasm_types.specs.declared.place.Loc.TheVariants.{Local, Global, Mem, Size, Host}
use Rattle.wasm_types.specs.Hosts.{HostFunc, IsFunction, host_writes}
use Rattle.wasm_types.specs.Locations.{is_outer}
use Rattle.wasm_types.specs.Spaces.{func_types}
use Rattle.flow_domain.specs.Reach.{CallsFunc, Reached, MayWrite}
use Rattle.flow_domain.specs.Touch.{MayTouch, host_touches}
use Rattle.worklist.specs.declared.labels.Root.{Root}
use Rattle.worklist.specs.Lists.{Has}
use Rattle.worklist.specs.Reached.{root}
use Rattle.worklist.specs.Reached as graph
use Rattle.worklist.specs.Roots.{IsRootOf}
use Rattle.call_graph.specs.declared.acts.Act.{Act}
use Rattle.call_graph.specs.declared.calls.CallGraph.{CallGraph}
use Rattle.call_graph.specs.declared.classes.Classes.{Classes}
use Rattle.call_graph.specs.declared.deeds.Deed.{Deed}
use Rattle.call_graph.specs.declared.deeds.Deed.TheVariants.{Calls, CallsThrough, Touches, Writes}
use Rattle.call_graph.specs.declared.edges.Edge.{Edge}
use Rattle.call_graph.specs.declared.pairs.Pairs.{Pairs}
use Rattle.call_graph.specs.Deeds.{Does}
use Rattle.call_graph.specs.Deeds as deed
use Rattle.call_graph.specs.Built.{IsEdge, IsGraphBy}
use Rattle.call_graph.specs.Edges.{functions, edge_of, target_of, Leads}
use Rattle.call_graph.specs.Graph.{CallsNumber, IsCallGraph, LeadsTo, TellsCall, TellsCaller, TellsLoc, TellsNumber, TellsReached}
use Rattle.call_graph.specs.Labels.{label_of, root_at, touch_by, touch_root, write_by, write_root}
use Rattle.call_graph.specs.Pairs.{HasPair}
use Rattle.call_graph.specs.Tells.{AreAlike, TellsTargets}
use Rattle.call_graph.proofs.Members.{in_first, in_picked, one_in, picked_in}
use Rattle.call_graph.proofs.Calling.{does_below, does_number, number_deed, calls_below, reached_below, does_touch, does_write, touch_does, write_does, call_touches, call_writes, touch_form, write_form}
use Rattle.call_graph.proofs.Spreading.{edge_calls, number_does, number_leads, pair_calls, call_edges, led_exact, spread_sound, spread_complete}

-- ---- labels

loc_at : ℕ → Loc
loc_at zero = Mem
loc_at (suc zero) = Size
loc_at (suc (suc zero)) = Host
loc_at (suc (suc (suc k))) = Global k

label_loc : (x : Loc) (o : ℕ) → label_of x ≡ Some o → x ≡ loc_at o
unfolding loc_at
label_loc (Local k) o e = absurd cc
label_loc Mem o e = let z : 0 ≡ o = cc in subst (λ (n : ℕ). Mem ≡ loc_at n) z refl
label_loc Size o e = let z : 1 ≡ o = cc in subst (λ (n : ℕ). Size ≡ loc_at n) z refl
label_loc Host o e = let z : 2 ≡ o = cc in subst (λ (n : ℕ). Host ≡ loc_at n) z refl
label_loc (Global k) o e =
    let z : k + 3 ≡ o = cc in let y : suc (suc (suc k)) ≡ o = omega arith in subst (λ (n : ℕ). Global k ≡ loc_at n) y refl

same_loc : (x y : Loc) (o : ℕ) → label_of x ≡ Some o → label_of y ≡ Some o → x ≡ y
same_loc x y o e f = label_loc x o e ∙ sym (label_loc y o f)

has_label : (x : Loc) → is_outer x ≡ true → (o : ℕ) × (label_of x ≡ Some o)
has_label (Local k) e = absurd cc
has_label (Global k) e = (k + 3, refl)
has_label Mem e = (0, refl)
has_label Size e = (1, refl)
has_label Host e = (2, refl)

host_outer : (H : HostFunc) (x : Loc) → host_touches H x ≡ true → is_outer x ≡ true
host_outer H (Local k) e = absurd cc
host_outer H (Global k) e = refl
host_outer H Mem e = refl
host_outer H Size e = refl
host_outer H Host e = refl

host_write_outer : (H : HostFunc) (x : Loc) → host_writes H x ≡ true → is_outer x ≡ true
host_write_outer H (Local k) e = absurd cc
host_write_outer H (Global k) e = refl
host_write_outer H Mem e = refl
host_write_outer H Size e = refl
host_write_outer H Host e = refl

touch_outer : (m : Module) (f : ℕ) (x : Loc) → Does m f (Touches x) → is_outer x ≡ true
touch_outer m f x (deed.by_code F op is live does) = (touch_form _ x does).1.1.1
touch_outer m f x (deed.by_host H is does) = host_outer H x does

write_outer : (m : Module) (f : ℕ) (x : Loc) → Does m f (Writes x) → is_outer x ≡ true
write_outer m f x (deed.by_code F op is live does) = (write_form _ x does).1.1.1
write_outer m f x (deed.by_host H is does) = host_write_outer H x does

root_there : (f : ℕ) (label : Option ℕ) (o g : ℕ) → root_at f label ≡ Some (record { label = o; node = g }) → (label ≡ Some o) × (f ≡ g)
root_there f None o g e = absurd cc
root_there f (Some k) o g e =
    let a : Root = record { label = k; node = f } in
    let b : Root = record { label = o; node = g } in
    let q : a ≡ b = cc in (ap (λ (r : Root). Some r.label) q, ap (λ (r : Root). r.node) q)

touch_there : (f : ℕ) (d : Deed) (o g : ℕ) → touch_by f d ≡ Some (record { label = o; node = g })
    → (x : Loc) × ((d ≡ Touches x) × ((label_of x ≡ Some o) × (f ≡ g)))
touch_there f (Touches x) o g e = let r = root_there f (label_of x) o g e in (x, (refl, r))
touch_there f (Writes x) o g e = absurd cc
touch_there f (Calls x) o g e = absurd cc
touch_there f (CallsThrough x) o g e = absurd cc

write_there : (f : ℕ) (d : Deed) (o g : ℕ) → write_by f d ≡ Some (record { label = o; node = g })
    → (x : Loc) × ((d ≡ Writes x) × ((label_of x ≡ Some o) × (f ≡ g)))
write_there f (Writes x) o g e = let r = root_there f (label_of x) o g e in (x, (refl, r))
write_there f (Touches x) o g e = absurd cc
write_there f (Calls x) o g e = absurd cc
write_there f (CallsThrough x) o g e = absurd cc

edge_there : (f : ℕ) (o : Option ℕ) (x y : ℕ) → option_map (λ (to : ℕ). let e : Edge = record { from = f; to = to } in e) o ≡ Some (record { from = x; to = y })
    → (f ≡ x) × (o ≡ Some y)
edge_there f None x y e = absurd cc
edge_there f (Some t) x y e =
    let a : Edge = record { from = f; to = t } in
    let b : Edge = record { from = x; to = y } in
    let q : a ≡ b = cc in (ap (λ (z : Edge). z.from) q, ap (λ (z : Edge). Some z.to) q)

-- the lists of callers tell the calls that the table tells
callers_tell : (g : CallGraph) → ((f y : ℕ) → LeadsTo g f y ↔ ((f < functions g.classes) × Has g.callers.next.items y f)) → (h f : ℕ) → {P : Type 0}
    → TellsCall g f h ↔ P → TellsCaller g h f ↔ P
callers_tell g turned h f tells = (
  λ (lt, s). tells.0 (⊎_elim
      (λ k. inl ((turned f h).1 (lt, k)))
      (λ k. inr (k.0, (k.1.0, (turned f (functions g.classes + k.0)).1 (lt, k.1.1))))
      s),
  λ p. ⊎_elim
      (λ k. let t = (turned f h).0 k in (t.0, inl t.1))
      (λ k. let t = (turned f (functions g.classes + k.0)).0 k.1.1 in (t.0, inr (k.0, (k.1.0, t.1))))
      (tells.1 p),
)

module _ (m : Module) (classes : Classes) (same : functions classes ≡ length (func_types m)) (targets : TellsTargets m classes)
    (acts : List Act) (exact : (a : Act) → Contains acts a ↔ Does m a.func a.deed) where
  picked_does : (a : Act) (f : ℕ) (d : Deed) → a.func ≡ f → a.deed ≡ d → Contains acts a → Does m f d
  picked_does a f d ef ed there = subst (λ (k : ℕ). Does m k d) ef (subst (Does m a.func) ed ((exact a).0 there))

  pub edge_leads : (x y : ℕ) → IsEdge classes acts x y ↔ Leads m classes x y
  edge_leads x y = (
    λ h. ⊎_elim
        (λ k.
        let a = picked_in (edge_of classes) acts (record { from = x; to = y }) k in
        let e = edge_there a.0.func (target_of classes a.0.deed) x y a.1.1 in
        inl (a.0.deed, (picked_does a.0 x a.0.deed e.0 refl a.1.0, e.1)))
        (λ k. inr k)
        h,
    λ h. ⊎_elim
        (λ k. inl (in_picked (edge_of classes) acts (record { func = x; deed = k.0 }) (record { from = x; to = y })
        ((exact (record { func = x; deed = k.0 })).1 k.1.0) (ap (option_map (λ (to : ℕ). record { from = x; to = to })) k.1.1)))
        (λ k. inr k)
        h,
  )

  module _ (E : ℕ → ℕ → Type 0) (edges : (x y : ℕ) → E x y ↔ Leads m classes y x) where
    touched_by : (x : Loc) (o : ℕ) → label_of x ≡ Some o → (f : ℕ) → IsRootOf (filter_map touch_root acts) o f → Does m f (Touches x)
    touched_by x o lab f r =
        let a = picked_in touch_root acts (record { label = o; node = f }) r in
        let t = touch_there a.0.func a.0.deed o f a.1.1 in
        subst (λ (z : Loc). Does m f (Touches z)) (same_loc t.0 x o t.1.1.0 lab) (picked_does a.0 f (Touches t.0) t.1.1.1 t.1.0 a.1.0)

    written_by : (x : Loc) (o : ℕ) → label_of x ≡ Some o → (f : ℕ) → IsRootOf (filter_map write_root acts) o f → Does m f (Writes x)
    written_by x o lab f r =
        let a = picked_in write_root acts (record { label = o; node = f }) r in
        let t = write_there a.0.func a.0.deed o f a.1.1 in
        subst (λ (z : Loc). Does m f (Writes z)) (same_loc t.0 x o t.1.1.0 lab) (picked_does a.0 f (Writes t.0) t.1.1.1 t.1.0 a.1.0)

    touch_is_root : (x : Loc) (o : ℕ) → label_of x ≡ Some o → (f : ℕ) → Does m f (Touches x) → IsRootOf (filter_map touch_root acts) o f
    touch_is_root x o lab f does =
        in_picked touch_root acts (record { func = f; deed = Touches x }) (record { label = o; node = f })
        ((exact (record { func = f; deed = Touches x })).1 does) (ap (root_at f) lab)

    write_is_root : (x : Loc) (o : ℕ) → label_of x ≡ Some o → (f : ℕ) → Does m f (Writes x) → IsRootOf (filter_map write_root acts) o f
    write_is_root x o lab f does =
        in_picked write_root acts (record { func = f; deed = Writes x }) (record { label = o; node = f })
        ((exact (record { func = f; deed = Writes x })).1 does) (ap (root_at f) lab)

    below : (f : ℕ) → IsFunction m f → f < functions classes
    below f lt = omega (arith, same, lt)

    abbrev Spread : Pairs → List Root → Type 0
    Spread pairs roots = (x o : ℕ) → HasPair pairs x o ↔ ((x < functions classes) × graph.Reached (IsRootOf roots o) E x)

    pub touches_tell : (pairs : Pairs) (roots : List Root) → roots ≡ filter_map touch_root acts → Spread pairs roots
        → (f : ℕ) (x : Loc) → TellsLoc pairs f x ↔ MayTouch m f x
    touches_tell pairs roots are spread f x = (
      λ (o, (lab, has)).
          let s = (spread f o).0 has in
          spread_sound m classes same targets (λ (g : ℕ). MayTouch m g x) (call_touches m x) (IsRootOf roots o)
          (λ g r. let does = touched_by x o lab g (rw are at r) in (below g (does_below m g (Touches x) does), does_touch m g x does)) E edges f s.0 s.1,
      λ t.
          let g = touch_does m f x t in
          let lab = has_label x (touch_outer m g.0 x g.1.1) in
          let lt = does_below m g.0 (Touches x) g.1.1 in (
            lab.0,
            (
              lab.1,
              (spread f lab.0).1 (
                below f (reached_below m f g.0 g.1.0 lt),
                spread_complete m classes same targets (λ (g : ℕ). MayTouch m g x) (call_touches m x) (IsRootOf roots lab.0)
                    (λ g r. let does = touched_by x lab.0 lab.1 g (rw are at r) in (below g (does_below m g (Touches x) does), does_touch m g x does)) E edges f g.0 g.1.0 lt
                    (root (rw are (touch_is_root x lab.0 lab.1 g.0 g.1.1))),
              ),
            ),
          ),
    )

    pub writes_tell : (pairs : Pairs) (roots : List Root) → roots ≡ filter_map write_root acts → Spread pairs roots
        → (f : ℕ) (x : Loc) → TellsLoc pairs f x ↔ MayWrite m f x
    writes_tell pairs roots are spread f x = (
      λ (o, (lab, has)).
          let s = (spread f o).0 has in
          spread_sound m classes same targets (λ (g : ℕ). MayWrite m g x) (call_writes m x) (IsRootOf roots o)
          (λ g r. let does = written_by x o lab g (rw are at r) in (below g (does_below m g (Writes x) does), does_write m g x does)) E edges f s.0 s.1,
      λ t.
          let g = write_does m f x t in
          let lab = has_label x (write_outer m g.0 x g.1.1) in
          let lt = does_below m g.0 (Writes x) g.1.1 in (
            lab.0,
            (
              lab.1,
              (spread f lab.0).1 (
                below f (reached_below m f g.0 g.1.0 lt),
                spread_complete m classes same targets (λ (g : ℕ). MayWrite m g x) (call_writes m x) (IsRootOf roots lab.0)
                    (λ g r. let does = written_by x lab.0 lab.1 g (rw are at r) in (below g (does_below m g (Writes x) does), does_write m g x does)) E edges f g.0 g.1.0 lt
                    (root (rw are (write_is_root x lab.0 lab.1 g.0 g.1.1))),
              ),
            ),
          ),
    )

  pub calls_tell : (g : CallGraph) → g.classes ≡ classes → ((x y : ℕ) → LeadsTo g x y ↔ ((x < functions classes) × IsEdge classes acts x y))
      → (f h : ℕ) → IsFunction m h → TellsCall g f h ↔ CallsFunc m f h
  calls_tell g is has f h lh =
      let below : h < functions classes = omega (arith, same, lh) in (
        λ t. ⊎_elim
            (λ k. let p = (has f h).0 k in edge_calls m classes same targets f h p.0 below ((edge_leads f h).0 p.1))
            (λ k.
            let node = functions classes + k.0 in
            let member : slice_get classes.by_func.items h ≡ Some (Some k.0) = subst (λ (z : Classes). slice_get z.by_func.items h ≡ Some (Some k.0)) is k.1.0 in
            let p = (has f node).0 (subst (λ (z : Classes). LeadsTo g f (functions z + k.0)) is k.1.1) in
            pair_calls m classes same targets f h k.0 p.0 member ((edge_leads f node).0 p.1))
            t,
        λ c.
            let lf = calls_below m f h c in
            let bf : f < functions classes = omega (arith, same, lf) in
            ⊎_elim
            (λ e. inl ((has f h).1 (bf, (edge_leads f h).1 e)))
            (λ e. inr (
              e.0,
              (
                subst (λ (z : Classes). slice_get z.by_func.items h ≡ Some (Some e.0)) (sym is) e.1.0,
                subst (λ (z : Classes). LeadsTo g f (functions z + e.0)) (sym is)
                    ((has f (functions classes + e.0)).1 (bf, (edge_leads f (functions classes + e.0)).1 e.1.1)),
              ),
            ))
            (call_edges m classes same targets f h below c),
      )

  -- the lists of callers tell calls by number
  numbers_tell : (g : CallGraph) → g.classes ≡ classes → ((f y : ℕ) → Has g.callers.next.items y f ↔ IsEdge classes acts f y) → (h f : ℕ) → IsFunction m h
      → TellsNumber g h f ↔ CallsNumber m f h
  numbers_tell g is callers h f lh =
      let below : h < functions classes = omega (arith, same, lh) in (
        λ (lt, has).
            let within = subst (λ (z : Classes). f < functions z) is lt in
            does_number m f h (number_does m classes same targets f h within below ((edge_leads f h).0 ((callers f h).0 has))),
        λ calls.
            let does = number_deed m f h calls in
            let lf = does_below m f (Calls h) does in
            let within : f < functions classes = omega (arith, same, lf) in (
              subst (λ (z : Classes). f < functions z) (sym is) within,
              (callers f h).1 ((edge_leads f h).1 (number_leads m classes same targets f h below does)),
            ),
      )

  -- nodes that are led to are functions that are reached
  reached_tell : (g : CallGraph) → ((f y : ℕ) → Has g.callees.next.items f y ↔ IsEdge classes acts f y) → (f h : ℕ) → IsFunction m f → IsFunction m h
      → TellsReached g f h ↔ Reached m f h
  reached_tell g callees f h lf lh =
      led_exact m classes same targets f (omega (arith, same, lf)) (Contains (f ∷ [])) (λ x. (one_in f x, λ e. in_first f x [] (sym e)))
      (Has g.callees.next.items) (λ x y. (λ k. (edge_leads x y).0 ((callees x y).0 k), λ e. (callees x y).1 ((edge_leads x y).1 e))) h lh

  pub graph_tells : AreAlike m classes → (g : CallGraph) → IsGraphBy classes acts g → IsCallGraph m g
  graph_tells alike g b =
      let E : ℕ → ℕ → Type 0 = λ x y. IsEdge classes acts y x in
      let edges : (x y : ℕ) → E x y ↔ Leads m classes y x = λ x y. edge_leads y x in
      let leads : (f y : ℕ) → LeadsTo g f y ↔ ((f < functions classes) × IsEdge classes acts f y) = λ f y. (
        λ h. (subst (λ (z : Classes). f < functions z) b.same h.0, (b.callees f y).0 h.1),
        λ p. (subst (λ (z : Classes). f < functions z) (sym b.same) p.0, (b.callees f y).1 p.1),
      ) in
      let turned : (f y : ℕ) → LeadsTo g f y ↔ ((f < functions g.classes) × Has g.callers.next.items y f) = λ f y. (
        λ h. (h.0, (b.callers f y).1 ((b.callees f y).0 h.1)),
        λ p. (p.0, (b.callees f y).1 ((b.callers f y).0 p.1)),
      ) in
      record {
        count = ap functions b.same ∙ same;
        targets = subst (TellsTargets m) (sym b.same) targets;
        calls = calls_tell g b.same leads;
        callers = λ h f lh. callers_tell g turned h f (calls_tell g b.same leads f h lh);
        numbers = numbers_tell g b.same b.callers;
        nodes = subst (λ (z : Classes). functions z ≤ length g.callees.next.items) (sym b.same) b.nodes;
        reached = reached_tell g b.callees;
        touches = touches_tell E edges g.touches (filter_map touch_root acts) refl b.touches;
        members = subst (λ (z : Classes). (c f : ℕ) → Has g.members.items c f ↔ (slice_get z.by_func.items f ≡ Some (Some c))) (sym b.same) b.members;
        order = λ f. subst (λ (n : ℕ). Contains g.order.items f ↔ (f < n)) same (b.order f);
        writes = writes_tell E edges g.writes (filter_map write_root acts) refl b.writes;
        alike = subst (AreAlike m) (sym b.same) alike;
      }

-- each function that does something is a function
pub acts_below : (m : Module) (n : ℕ) (acts : List Act) → n ≡ length (func_types m) → ((a : Act) → Contains acts a ↔ Does m a.func a.deed)
    → All (λ (a : Act). a.func < n) acts
acts_below m n acts same exact = λ k d lt.
    let a = get_or acts k d in
    let below = does_below m a.func a.deed ((exact a).0 (Contains-get_or acts k d lt)) in omega (arith, same, below)
