-- The tables that are made of edges and roots.
use Rattle.std.proofs.Common.{◌≡◌, ◌↔◌, ℕ, ◌+◌, ◌<◌, ◌≤◌, List, Vec, Global, Option, Some, None, get_or, refl, ap, subst, arith, ◌⊎◌, ⊎_elim}
use Rattle.std.specs.Prelude.{slice_get, nat_lt}
use Rattle.std.specs.List.{All, Contains, filter_map}
use Rattle.std.specs.Option.{option_map}
use Rattle.std.proofs.lemmas.List.Elements.{Contains-get_or, All-contains}
use Rattle.std.proofs.lemmas.Option.{slice_get_within}
use Rattle.worklist.specs.declared.labels.Root.{Root}
use Rattle.worklist.specs.Lists.{Has}
use Rattle.worklist.specs.Reached as graph
use Rattle.worklist.specs.Roots.{IsRootOf}
use Rattle.worklist.proofs.Reaching.{reached_more}
use Rattle.call_graph.specs.declared.acts.Act.{Act}
use Rattle.call_graph.specs.declared.classes.Classes.{Classes}
use Rattle.call_graph.specs.declared.deeds.Deed.{Deed}
use Rattle.call_graph.specs.declared.deeds.Deed.TheVariants.{Calls, CallsThrough, Touches, Writes}
use Rattle.call_graph.specs.declared.edges.Edge.{Edge}
use Rattle.call_graph.specs.declared.edges.Way.{Way}
use Rattle.call_graph.specs.declared.pairs.Pairs.{Pairs}
use Rattle.call_graph.specs.Below.{AllBelow}
use Rattle.call_graph.specs.Built.{IsEdge, IsSpread}
use Rattle.call_graph.specs.Edges.{functions, edge_along, edge_of, target_of, IsMember}
use Rattle.call_graph.specs.Labels.{root_at, touch_by, touch_root, write_by, write_root}
use Rattle.call_graph.specs.Pairs.{HasPair}
use Rattle.call_graph.proofs.Members.{picked_in}
use Rattle.call_graph.proofs.Spreading.{number_there, class_there}

module _ (classes : Classes) (acts : List Act) (edges : List Edge)
    (exact : (e : Edge) → Contains edges e ↔ (Contains (filter_map (edge_of classes) acts) e ⊎ IsMember classes e)) where
  pub spread_made : (next : List (Vec ℕ Global)) (roots : List Root) (pairs : Pairs)
      → ((x y : ℕ) → Has next x y ↔ Contains edges (record { from = y; to = x }))
      → ((x o : ℕ) → HasPair pairs x o ↔ ((x < functions classes) × graph.Reached (IsRootOf roots o) (Has next) x)) → IsSpread classes acts roots pairs
  spread_made next roots pairs callers has x o = (
    λ h. let p = (has x o).0 h in (
      p.0,
      reached_more (IsRootOf roots o) (IsRootOf roots o) (Has next) (λ a b. IsEdge classes acts b a) (λ a r. r)
          (λ a b e. (exact (record { from = b; to = a })).0 ((callers a b).0 e)) x p.1,
    ),
    λ p. (has x o).1 (
      p.0,
      reached_more (IsRootOf roots o) (IsRootOf roots o) (λ a b. IsEdge classes acts b a) (Has next) (λ a r. r)
          (λ a b e. (callers a b).1 ((exact (record { from = b; to = a })).1 e)) x p.1,
    ),
  )

  pub spread_by : (next : List (Vec ℕ Global)) (roots given : List Root) (pairs : Pairs) (count : ℕ) → count ≡ functions classes → given ≡ roots
      → ((x y : ℕ) → Has next x y ↔ Contains edges (record { from = y; to = x }))
      → ((x o : ℕ) → HasPair pairs x o ↔ ((x < count) × graph.Reached (IsRootOf given o) (Has next) x)) → IsSpread classes acts roots pairs
  spread_by next roots given pairs count many same callers has =
      spread_made next roots pairs callers
      (subst (λ (n : ℕ). (x o : ℕ) → HasPair pairs x o ↔ ((x < n) × graph.Reached (IsRootOf roots o) (Has next) x)) many
      (subst (λ (rs : List Root). (x o : ℕ) → HasPair pairs x o ↔ ((x < count) × graph.Reached (IsRootOf rs o) (Has next) x)) same has))

  pub listed_by : (way : Way) (next : List (Vec ℕ Global)) (given : List Edge) → given ≡ edges
      → ((x y : ℕ) → Has next x y ↔ Contains given (edge_along way (record { from = x; to = y })))
      → (x y : ℕ) → Has next x y ↔ Contains edges (edge_along way (record { from = x; to = y }))
  listed_by way next given same has =
      subst (λ (es : List Edge). (x y : ℕ) → Has next x y ↔ Contains es (edge_along way (record { from = x; to = y }))) same has

  module _ (doers : All (λ (a : Act). a.func < functions classes) acts) (counts : AllBelow classes.count classes.by_func.items)
      (types : AllBelow classes.count classes.by_type.items) (nodes : ℕ) (many : nodes ≡ functions classes + classes.count) where
    to_below : (d : Deed) (y : ℕ) → target_of classes d ≡ Some y → y < nodes
    to_below (Calls g) y e =
        let p = number_there g (functions classes) y (nat_lt g (functions classes)) refl e in let lt = p.0 in let s = p.1 in omega (arith, many, lt, s)
    to_below (CallsThrough t) y e =
        let p = class_there classes (slice_get classes.by_type.items t) y e in
        let lt = types t p.0 p.1.0 in let s = p.1.1 in omega (arith, many, lt, s)
    to_below (Touches x) y e = absurd cc
    to_below (Writes x) y e = absurd cc

    ends : (f : ℕ) (o : Option ℕ) (e : Edge) → option_map (λ (to : ℕ). let z : Edge = record { from = f; to = to } in z) o ≡ Some e
        → (f ≡ e.from) × (o ≡ Some e.to)
    ends f None e is = absurd cc
    ends f (Some t) e is =
        let q : record { from = f; to = t } ≡ e = cc in (ap (λ (z : Edge). z.from) q, ap (λ (z : Edge). Some z.to) q)

    pub within : (e : Edge) → Contains edges e → (e.from < nodes) × (e.to < nodes)
    within e h = ⊎_elim
        (λ k.
        let a = picked_in (edge_of classes) acts e k in
        let p = ends a.0.func (target_of classes a.0.deed) e a.1.1 in
        let lt = All-contains (λ (z : Act). z.func < functions classes) acts a.0 doers a.1.0 in
        let s = p.0 in
        (omega (arith, many, lt, s), to_below a.0.deed e.to p.1))
        (λ (c, (is, from)).
        let lc = counts e.to c is in
        let lt = slice_get_within classes.by_func.items e.to (Some c) is in
        (omega (arith, many, lc, from), omega (arith, many, lt)))
        ((exact e).0 h)

    pub all_within : All (λ (e : Edge). (e.from < nodes) × (e.to < nodes)) edges
    all_within = λ k d lt. within (get_or edges k d) (Contains-get_or edges k d lt)

-- ---- roots stand at functions

node_at : (f : ℕ) (label : Option ℕ) (r : Root) → root_at f label ≡ Some r → f ≡ r.node
node_at f None r e = absurd cc
node_at f (Some k) r e = let q : record { label = k; node = f } ≡ r = cc in ap (λ (z : Root). z.node) q

touch_node : (f : ℕ) (d : Deed) (r : Root) → touch_by f d ≡ Some r → f ≡ r.node
touch_node f (Touches x) r e = node_at f _ r e
touch_node f (Writes x) r e = absurd cc
touch_node f (Calls x) r e = absurd cc
touch_node f (CallsThrough x) r e = absurd cc

write_node : (f : ℕ) (d : Deed) (r : Root) → write_by f d ≡ Some r → f ≡ r.node
write_node f (Writes x) r e = node_at f _ r e
write_node f (Touches x) r e = absurd cc
write_node f (Calls x) r e = absurd cc
write_node f (CallsThrough x) r e = absurd cc

module _ (acts : List Act) (n nodes : ℕ) (le : n ≤ nodes) (doers : All (λ (a : Act). a.func < n) acts) (roots : List Root) where
  pub touch_nodes : roots ≡ filter_map touch_root acts → All (λ (r : Root). r.node < nodes) roots
  touch_nodes are = λ k d lt.
      let a = picked_in touch_root acts (get_or roots k d) (subst (λ (rs : List Root). Contains rs (get_or roots k d)) are (Contains-get_or roots k d lt)) in
      let s = touch_node a.0.func a.0.deed (get_or roots k d) a.1.1 in
      let below = All-contains (λ (z : Act). z.func < n) acts a.0 doers a.1.0 in omega (arith, s, below)

  pub write_nodes : roots ≡ filter_map write_root acts → All (λ (r : Root). r.node < nodes) roots
  write_nodes are = λ k d lt.
      let a = picked_in write_root acts (get_or roots k d) (subst (λ (rs : List Root). Contains rs (get_or roots k d)) are (Contains-get_or roots k d lt)) in
      let s = write_node a.0.func a.0.deed (get_or roots k d) a.1.1 in
      let below = All-contains (λ (z : Act). z.func < n) acts a.0 doers a.1.0 in omega (arith, s, below)

-- ---- labels of roots

root_below : (roots : List Root) (columns o : ℕ) (E : ℕ → ℕ → Type 0) → All (λ (r : Root). r.label < columns) roots → (x : ℕ)
    → graph.Reached (IsRootOf roots o) E x → o < columns
root_below roots columns o E all x (graph.root r) = All-contains (λ (z : Root). z.label < columns) roots (record { label = o; node = x }) all r
root_below roots columns o E all x (graph.step w h e) = root_below roots columns o E all w h

pub spread_told : (pairs : Pairs) (n columns : ℕ) (roots : List Root) (E : ℕ → ℕ → Type 0) → All (λ (r : Root). r.label < columns) roots
    → ((x o : ℕ) → HasPair pairs x o ↔ ((x < n) × ((o < columns) × graph.Reached (IsRootOf roots o) E x)))
    → (x o : ℕ) → HasPair pairs x o ↔ ((x < n) × graph.Reached (IsRootOf roots o) E x)
spread_told pairs n columns roots E all has x o = (
  λ h. let p = (has x o).0 h in (p.0, p.1.1),
  λ p. (has x o).1 (p.0, (root_below roots columns o E all x p.1, p.1)),
)

pub both_all : (roots : List Root) (columns nodes : ℕ) → All (λ (r : Root). r.label < columns) roots → All (λ (r : Root). r.node < nodes) roots
    → All (λ (r : Root). (r.label < columns) × (r.node < nodes)) roots
both_all roots columns nodes labels ends = λ k d lt. (labels k d lt, ends k d lt)

pub spread_same : (classes : Classes) (acts : List Act) (roots are : List Root) (pairs : Pairs) → roots ≡ are → IsSpread classes acts roots pairs
    → IsSpread classes acts are pairs
spread_same classes acts roots are pairs e h = subst (λ (rs : List Root). IsSpread classes acts rs pairs) e h
