-- A point to which one other leads, and the point furthest up from there, have the same definitions where that one doesn't write the location.
use Rattle.std.proofs.Common.{◌≡◌, ◌≢◌, ℕ, zero, suc, ◌<◌, List, [], ◌∷◌, length, get_or, refl, sym, ◌∙◌, ap, subst, inl, inr, ◌⊎◌, ⊎_elim, arith}
use Rattle.std.specs.List.{Contains}
use Rattle.wasm_types.specs.declared.place.Def.{Def}
use Rattle.wasm_types.specs.declared.place.Loc.{Loc}
use Rattle.wasm_types.specs.declared.place.Node.{Node}
use Rattle.wasm_types.specs.Nodes.{At}
use Rattle.wasm_types.specs.Sites.{Sites}
use Rattle.wasm_types.specs.Reaching.{Writes, Path, Reaches, from_entry, from_write}
use Rattle.block_cfg.specs.Graph.{Graph, row_of}
use Rattle.block_cfg.specs.Points.{IsGraphOf}
use Rattle.block_cfg.proofs.MemberLemmas.{number_injective}
use Rattle.flow_domain.specs.LocTables.{Rows, WritesIn}
use Rattle.worklist.specs.Reached.{Reached, root, step}
use Rattle.single_entry.specs.declared.skips.Skips.{Skips}
use Rattle.single_entry.specs.Entries.{Inner, enters, goes, IsGraph}
use Rattle.single_entry.specs.Climbs.{Climbs, stays, climbs, Tops, AreEntries}
use Rattle.single_entry.proofs.Climbing.{tops_once}
use Rattle.def_use.specs.Kept.{Serves}
use Rattle.def_use.specs.Places.{point_at, place_of, IsPlaces, Steps, GoesBack, AreWriters}
use Rattle.def_use.proofs.Backwards.{first_edge, written_there, place_is, of_point, earlier_is}
use Rattle.def_use.proofs.Upwards.{means, path_met, entry_met}

one_of : (a b : Node) → Contains (a ∷ []) b → b ≡ a
one_of a b (zero, lt, is) = sym is
one_of a b (suc k, lt, is) = absurd (omega arith)

module _ (S : Sites) (start : Node) (g : Graph) (graph : IsGraphOf S start g) (places : List ℕ) (placed : IsPlaces g places) (s : Skips)
    (entries : AreEntries g s) where
  leads_there : (b a : Node) → Contains (row_of g.before b) a → Contains g.points a
  leads_there b a has = of_point S start g graph places placed a (graph.stays a b ((graph.before a b).0 has)).0

  inner_there : (first last : ℕ) (from n : Node) → Inner g first last from n → Contains g.points from
  inner_there first last from n (enters inside has) = leads_there n from has
  inner_there first last from n (goes m inner inside has) = inner_there first last from m inner

  climbs_there : (writers : List ℕ) (a b : Node) → Climbs s writers a b → Contains g.points a → Contains g.points b
  climbs_there writers a b stays there = there
  climbs_there writers a b (climbs e from has is quiet more) there =
      let i = entries a e has in
      let same : i.from ≡ from = number_injective i.from from (i.is ∙ sym is) in
      climbs_there writers from b more (subst (λ z. Contains g.points z) same (inner_there i.first i.last i.from a i.inner))

  module _ (T : Rows) (x : Loc) (writers : List ℕ) (write : AreWriters T x writers) (top : Node) (high : Contains g.points top)
      (free : Writes (WritesIn T) x top → ⊥) where
    abbrev MetFrom : Node → ℕ → Type 0
    MetFrom q y = Reached (Steps g s places writers (place_of places q)) (GoesBack g T s places writers x) y

    -- what is met from one point is met from another
    carried : (q r : Node) → Contains g.points q → Contains g.points r → ((y : ℕ) → MetFrom q y → (y ≡ place_of places top) ⊎ MetFrom r y) → (d : Def)
        → Reaches (WritesIn T) S start x q d → Reaches (WritesIn T) S start x r d
    carried q r there here moves _ (from_entry e) = ⊎_elim
        (λ same. let at = place_is S start g graph places placed top high in absurd (omega (arith, at.0, same)))
        (λ met. ⊎_elim (λ (is, on). from_entry on) (λ (lt, path). absurd (omega arith))
        (means S start g graph places placed s entries T x writers write r here (length g.points) met))
        (moves (length g.points) (entry_met S start g graph places placed s entries T x writers write q there e))
    carried q r there here moves _ (from_write {d} w path) =
        let first = first_edge (WritesIn T) S x (At d) q path in
        let at = earlier_is S start g graph places placed (At d) first.0 first.1 in
        ⊎_elim
        (λ same.
        let is : At d ≡ top = sym at.1 ∙ (ap (point_at g.points) same ∙ (place_is S start g graph places placed top high).1) in
        absurd (free (subst (λ z. Writes (WritesIn T) x z) is w)))
        (λ met. ⊎_elim
        (λ (is, on). absurd (omega (arith, at.0)))
        (λ (lt, on). from_write w (subst (λ z. Path (WritesIn T) S x z r) at.1 on))
        (means S start g graph places placed s entries T x writers write r here (place_of places (At d)) met))
        (moves (place_of places (At d)) (path_met S start g graph places placed s entries T x writers write q there d
        (written_there (WritesIn T) x d w) path at.1))

    module _ (q a : Node) (there : Contains g.points q) (later : place_of places q ≢ 0) (only : row_of g.before q ≡ a ∷ []) (up : Tops s writers a top) where
      q_is : (place_of places q < length g.points) × (point_at g.points (place_of places q) ≡ q)
      q_is = place_is S start g graph places placed q there

      top_is : (place_of places top < length g.points) × (point_at g.points (place_of places top) ≡ top)
      top_is = place_is S start g graph places placed top high

      row_is : row_of g.before (point_at g.points (place_of places q)) ≡ a ∷ []
      row_is = ap (row_of g.before) q_is.1 ∙ only

      step_is : (y : ℕ) → Steps g s places writers (place_of places q) y → y ≡ place_of places top
      step_is y st = ⊎_elim
          (λ (first, is). absurd (later first))
          (λ (b, (has, (c, (tops, is)))).
          let same : b ≡ a = one_of a b (subst (λ row. Contains row b) row_is has) in
          is ∙ ap (place_of places) (tops_once s writers a c top (subst (λ z. Tops s writers z c) same tops) up))
          st

      is_step : Steps g s places writers (place_of places q) (place_of places top)
      is_step = inr (a, (subst (λ row. Contains row a) (sym row_is) (0, omega arith, refl), (top, (up, refl))))

      to_top : (y : ℕ) → MetFrom q y → (y ≡ place_of places top) ⊎ MetFrom top y
      to_top y (root st) = inl (step_is y st)
      to_top y (step w h e) = ⊎_elim
          (λ same. inr (root (subst (λ z. Steps g s places writers z y) same e.1.1)))
          (λ met. inr (step w met e))
          (to_top w h)

      from_top : (y : ℕ) → MetFrom top y → MetFrom q y
      from_top y (root st) =
          step (place_of places top) (root is_step) (top_is.0, (λ w. free (subst (λ z. Writes (WritesIn T) x z) top_is.1 w), st))
      from_top y (step w h e) = step w (from_top w h) e

      pub same_definitions : (d : Def) → (Reaches (WritesIn T) S start x top d → Reaches (WritesIn T) S start x q d)
          × (Reaches (WritesIn T) S start x q d → Reaches (WritesIn T) S start x top d)
      same_definitions d = (carried top q high there (λ y met. inr (from_top y met)) d, carried q top there high to_top d)

pub one_long : (list : List Node) (d : Node) → length list ≡ 1 → list ≡ get_or list 0 d ∷ []
one_long [] d e = absurd (omega (arith, e))
one_long (a ∷ []) d e = refl
one_long (a ∷ b ∷ list) d e = absurd (omega (arith, e))

pub serves : (g : Graph) (T : Rows) (x : Loc) (places : List ℕ) (s : Skips) (writers : List ℕ) (q a top : Node) → IsGraph g → IsPlaces g places → AreEntries g s
    → AreWriters T x writers → Contains g.points q → place_of places q ≢ 0 → row_of g.before q ≡ a ∷ [] → Tops s writers a top
    → (Writes (WritesIn T) x top → ⊥) → Contains g.points top × Serves g T x top q
serves g T x places s writers q a top (S, (start, graph)) placed entries write there later only up free =
    let earlier = leads_there S start g graph places placed s entries q a (subst (λ row. Contains row a) (sym only) (0, omega arith, refl)) in
    let high = climbs_there S start g graph places placed s entries writers a top up.climbs earlier in (
      high,
      λ defs ans. record {
        sorted = ans.sorted;
        exact = λ S' start' graph' d.
            let same = same_definitions S' start' g graph' places placed s entries T x writers write top high free q a there later only up d in
            let is = ans.exact S' start' graph' d in
            (λ c. same.0 (is.0 c), λ r. is.1 (same.1 r));
      },
    )
