-- What a search backwards meets that goes by edges, in terms of paths.
use Rattle.std.proofs.Common.{◌≡◌, ℕ, zero, suc, ◌+◌, ◌<◌, List, [], ◌∷◌, Some, length, get_or, refl, sym, ◌∙◌, ap, subst, inl, inr, ◌⊎◌, ⊎_elim, arith}
use Rattle.std.specs.Prelude.{slice_get, slice_index_or}
use Rattle.std.specs.List.{All, Contains}
use Rattle.std.proofs.lemmas.List.{get_or_read}
use Rattle.std.proofs.lemmas.List.Elements.{All-contains, All-contains_itself}
use Rattle.wasm_types.specs.declared.place.Loc.{Loc}
use Rattle.wasm_types.specs.declared.place.Node.{Node}
use Rattle.wasm_types.specs.declared.place.Node.TheVariants as node
use Rattle.wasm_types.specs.declared.place.Node.TheVariants.{Exit}
use Rattle.wasm_types.specs.Nodes.{At}
use Rattle.wasm_types.specs.Sites.{Sites, Leads}
use Rattle.wasm_types.specs.Reaching.{Table, Writes, writes_it, Path, edge, along, Enters, stands, steps}
use Rattle.block_cfg.specs.Graph.{Graph, number, row_of}
use Rattle.block_cfg.specs.Points.{IsPoint, IsGraphOf}
use Rattle.flow_domain.specs.LocTables.{Rows, WritesIn}
use Rattle.worklist.specs.Gains.{Gains}
use Rattle.worklist.specs.Reached.{Reached, root, step}
use Rattle.single_entry.specs.declared.skips.Skips.{Skips}
use Rattle.single_entry.specs.Entries.{Inner, enters, goes}
use Rattle.single_entry.specs.Climbs.{Climbs, stays, climbs, Tops, AreEntries}
use Rattle.def_use.specs.Places.{point_at, place_of, IsPlaces, IsPlaced, AllPlaced, TopsPlaced, IsEarlier, IsEntry, IsWriter}
use Rattle.def_use.specs.PlacesLaws.{earlier_placed}

-- ---- paths

module _ (W : Table) (S : Sites) (x : Loc) where
  pub path_enters : (a q : Node) → Path W S x a q → (Writes W x a → ⊥) → Enters W S x a q
  path_enters a q (edge l) free = steps q l free stands
  path_enters a q (along b l next p) free = steps b l free (path_enters b q p next)

  pub leads_path : (a b q : Node) → Leads S a b → Enters W S x b q → Path W S x a q
  leads_path a b q l stands = edge l
  leads_path a b q l (steps c m free e) = along b l free (leads_path b c q m e)

pub writes_is : (W : Table) (x : Loc) (n : Node) → Writes W x n → (p : ℕ) × ((n ≡ At p) × W p x)
writes_is W x _ (writes_it {p} w) = (p, (refl, w))

pub writer_writes : (g : Graph) (T : Rows) (x : Loc) (k p : ℕ) → IsWriter g T x k p → Writes (WritesIn T) x (point_at g.points k)
writer_writes g T x k p w = subst (λ n. Writes (WritesIn T) x n) (sym w.1.0) (writes_it w.1.1)

pub first_edge : (W : Table) (S : Sites) (x : Loc) (a q : Node) → Path W S x a q → (b : Node) × Leads S a b
first_edge W S x a q (edge l) = (q, l)
first_edge W S x a q (along b l free p) = (b, l)

pub written_there : (W : Table) (x : Loc) (p : ℕ) → Writes W x (At p) → W p x
written_there W x p (writes_it w) = w

-- ---- places

read_itself : (points : List Node) (k : ℕ) (d : Node) → k < length points → get_or points k (get_or points k d) ≡ get_or points k d
read_itself [] k d lt = absurd (omega arith)
read_itself (p ∷ points) zero d lt = refl
read_itself (p ∷ points) (suc k) d lt = read_itself points k d (omega arith)

pub point_same : (points : List Node) (k : ℕ) (d : Node) → k < length points → get_or points k d ≡ point_at points k
point_same points k d lt = get_or_read points k (get_or points k d) lt (sym (read_itself points k d lt)) Exit

-- what a search finds before a point
module _ (g : Graph) (s : Skips) (places writers : List ℕ) (k : ℕ) (list front : List Node) (p : Node) (xs ys : List ℕ) where
  pub gains_earlier : list ≡ row_of g.before p → p ≡ point_at g.points k → front ≡ list
      → Gains (λ y. (a : Node) × (Contains front a × ((b : Node) × (Tops s writers a b × (y ≡ place_of places b))))) xs ys
      → Gains (IsEarlier g s places writers k) xs ys
  gains_earlier is at whole gains =
      let all : front ≡ row_of g.before (point_at g.points k) = whole ∙ (is ∙ ap (row_of g.before) at) in
      rw all at gains

module _ (g : Graph) (s : Skips) (places writers : List ℕ) (placed : AllPlaced g places) where
  -- the top of what leads there has a place
  pub top_fits : TopsPlaced g s places writers → (list : List Node) (p b : Node) (j : ℕ) (d : Node) → list ≡ row_of g.before p → j < length list
      → Tops s writers (get_or list j d) b → number b < length places
  top_fits tops list p b j d is less top =
      let all : All (IsPlaced g places) list = rw is (placed (number p)) in
      (tops (get_or list j d) b top (all j d less)).0

  inner_placed : (first last : ℕ) (from n : Node) → Inner g first last from n → IsPlaced g places from
  inner_placed first last from n (enters inside has) = earlier_placed g places placed n from has
  inner_placed first last from n (goes m inner inside has) = inner_placed first last from m inner

  climbs_placed : AreEntries g s → (a b : Node) → Climbs s writers a b → IsPlaced g places a → IsPlaced g places b
  climbs_placed entries a b stays at = at
  climbs_placed entries a b (climbs e from has is quiet more) at =
      let i = entries a e has in
      let same : number i.from ≡ number from = i.is ∙ sym is in
      climbs_placed entries from b more
      (subst (λ n. (n < length places) × (slice_index_or places n 0 < length g.points)) same (inner_placed i.first i.last i.from a i.inner))

  pub tops_placed : AreEntries g s → TopsPlaced g s places writers
  tops_placed entries a b top at = climbs_placed entries a b top.climbs at

first_at : (points : List Node) (n : Node) → slice_get points 0 ≡ Some n → (0 < length points) × (point_at points 0 ≡ n)
first_at [] n e = absurd cc
first_at (p ∷ points) n e = (omega arith, cc)

-- the point two numbers on
next_node : (b : Node) → (c : Node) × (number c ≡ number b + 2)
next_node Exit = (node.Join (record { 0 = 0 }), omega arith)
next_node (node.At p) = (node.At (record { 0 = p.0 + 1 }), omega arith)
next_node (node.Join p) = (node.Join (record { 0 = p.0 + 1 }), omega arith)

-- each number is a point's
node_of : (n : ℕ) → (b : Node) × (number b ≡ n)
node_of zero = (Exit, refl)
node_of (suc zero) = (node.At (record { 0 = 0 }), omega arith)
node_of (suc (suc n)) = let b = node_of n in let c = next_node b.0 in (c.0, omega (arith, c.1, b.1))

module _ (S : Sites) (start : Node) (g : Graph) (graph : IsGraphOf S start g) (places : List ℕ) (placed : IsPlaces g places) where
  pub place_is : (a : Node) → Contains g.points a → (place_of places a < length g.points) × (point_at g.points (place_of places a) ≡ a)
  place_is a (k, lt, is) =
      let at : a ≡ point_at g.points k = get_or_read g.points k a lt (sym is) Exit in
      let k_is : place_of places a ≡ k = ap (place_of places) at ∙ placed.placed k lt in
      (rw k_is lt, rw k_is (sym at))

  pub of_point : (a : Node) → IsPoint S a → Contains g.points a
  of_point a p = (graph.points a).1 p

  pub earlier_is : (a b : Node) → Leads S a b → (place_of places a < length g.points) × (point_at g.points (place_of places a) ≡ a)
  earlier_is a b l = place_is a (of_point a (graph.stays a b l).0)

  pub later_is : (a b : Node) → Leads S a b → (place_of places b < length g.points) × (point_at g.points (place_of places b) ≡ b)
  later_is a b l = place_is b (of_point b (graph.stays a b l).1)

  pub start_is : (0 < length g.points) × (point_at g.points 0 ≡ start)
  start_is = first_at g.points start graph.first

  pub point_fits : (a : Node) → Contains g.points a → number a < length places
  point_fits a h = All-contains (λ (point : Node). number point < length places) g.points a placed.fits h

  pub all_placed : AllPlaced g places
  all_placed n j d less =
      let b = node_of n in
      let row : List Node = row_of g.before b.0 in
      let same : get_or g.before n [] ≡ row = ap (λ m. get_or g.before m []) (sym b.1) in
      let below : j < length row = rw (← same) less in
      let a = get_or row j d in
      let l : Leads S a b.0 = (graph.before a b.0).0 (All-contains_itself row j d below) in
      let there : Contains g.points a = of_point a (graph.stays a b.0 l).0 in
      rw same (point_fits a there, (place_is a there).0)

  -- places of one point are one
  pub same_place : (j k : ℕ) → j < length g.points → k < length g.points → point_at g.points j ≡ point_at g.points k → j ≡ k
  same_place j k lt below e = sym (placed.placed j lt) ∙ (ap (place_of places) e ∙ placed.placed k below)

  -- what leads to the point at place k, and the entry, where it is the first point
  abbrev pub Before : ℕ → ℕ → Type 0
  Before k y = IsEntry g k y ⊎ ((a : Node) × (Contains (row_of g.before (point_at g.points k)) a × (y ≡ place_of places a)))

  pub leads_before : (a b : Node) → Leads S a b → Before (place_of places b) (place_of places a)
  leads_before a b l =
      let at = later_is a b l in
      inr (a, (subst (λ z. Contains (row_of g.before z) a) (sym at.1) ((graph.before a b).1 l), refl))

  module _ (T : Rows) (x : Loc) (q : Node) (there : Contains g.points q) where
    -- from a point that doesn't write x
    abbrev pub Edge : ℕ → ℕ → Type 0
    Edge k y = (k < length g.points) × ((Writes (WritesIn T) x (point_at g.points k) → ⊥) × Before k y)

    abbrev pub Met : ℕ → Type 0
    Met y = Reached (Before (place_of places q)) Edge y

    -- what it means that a place is met
    abbrev pub Means : ℕ → Type 0
    Means y = ((y ≡ length g.points) × Enters (WritesIn T) S x start q) ⊎ ((y < length g.points) × Path (WritesIn T) S x (point_at g.points y) q)

    means_before : (k y : ℕ) → Before k y → ((a : Node) → Leads S a (point_at g.points k) → Path (WritesIn T) S x a q)
        → (point_at g.points k ≡ start → Enters (WritesIn T) S x start q) → Means y
    means_before k y b on first = ⊎_elim
        (λ (zero_is, is). inl (is, first (ap (point_at g.points) zero_is ∙ start_is.1)))
        (λ (a, (has, is)).
        let l : Leads S a (point_at g.points k) = (graph.before a (point_at g.points k)).0 has in
        let at = earlier_is a (point_at g.points k) l in
        let y_is : y ≡ place_of places a = is in
        inr (rw y_is at.0, subst (λ z. Path (WritesIn T) S x z q) (sym (ap (point_at g.points) y_is ∙ at.1)) (on a l)))
        b

    q_is : (place_of places q < length g.points) × (point_at g.points (place_of places q) ≡ q)
    q_is = place_is q there

    pub means : (y : ℕ) → Met y → Means y
    means y (root b) = means_before (place_of places q) y b
        (λ a l. edge (subst (λ z. Leads S a z) q_is.1 l))
        (λ e. let same : q ≡ start = sym q_is.1 ∙ e in subst (λ z. Enters (WritesIn T) S x z q) same stands)
    means y (step k r (lt, (free, b))) = ⊎_elim
        (λ (end, e). absurd (omega arith))
        (λ (below, path). means_before k y b
        (λ a l. along (point_at g.points k) l free path)
        (λ e. subst (λ z. Enters (WritesIn T) S x z q) e (path_enters (WritesIn T) S x (point_at g.points k) q path free)))
        (means k r)

    not_written : (b : Node) → point_at g.points (place_of places b) ≡ b → (Writes (WritesIn T) x b → ⊥)
        → Writes (WritesIn T) x (point_at g.points (place_of places b)) → ⊥
    not_written b at free w = free (subst (λ z. Writes (WritesIn T) x z) at w)

    pub path_met : (a : Node) → Path (WritesIn T) S x a q → Met (place_of places a)
    path_met a (edge l) = root (leads_before a q l)
    path_met a (along b l free p) =
        let at = later_is a b l in
        step (place_of places b) (path_met b p) (at.0, (not_written b at.1 free, leads_before a b l))

    first_before : (a : Node) → Contains g.points a → a ≡ start → Before (place_of places a) (length g.points)
    first_before a has e =
        let at = place_is a has in
        inl (same_place (place_of places a) 0 at.0 start_is.0 (at.1 ∙ (e ∙ sym start_is.1)), refl)

    pub entry_met : (a : Node) → a ≡ start → Enters (WritesIn T) S x a q → Met (length g.points)
    entry_met a e stands = root (first_before a there e)
    entry_met a e (steps b l free n) =
        let at = earlier_is a b l in
        step (place_of places a) (path_met a (leads_path (WritesIn T) S x a b q l n))
        (at.0, (not_written a at.1 free, first_before a (of_point a (graph.stays a b l).0) e))
