-- What the walk found is the graph of the body.
use Rattle.std.proofs.Common.{◌≡◌, ℕ, ◌+◌, ◌*◌, ◌<◌, ◌↔◌, ◌⊎◌, inl, ⊎_elim, true, List, [], ◌∷◌, ◌++◌, Some, length, get_or, refl, sym, ap, ◌∙◌, subst, arith}
use Rattle.std.specs.List.{All, AllZip, Contains, slice_get}
use Rattle.std.proofs.lemmas.Bool.{cases_lt}
use Rattle.std.proofs.lemmas.List.{get_or_past}
use Rattle.std.proofs.lemmas.List.Elements.{All-get_or, All-nil, All-cons, Contains-get_or, length_all_zip}
use Rattle.wasm_types.specs.declared.module.Body.{Body}
use Rattle.wasm_types.specs.declared.place.Node.{Node}
use Rattle.wasm_types.specs.declared.place.Node.TheVariants as node
use Rattle.wasm_types.specs.declared.place.Node.TheVariants.{Exit}
use Rattle.wasm_types.specs.Code.{Code, done, one, block, repeat, branch, code_of, count}
use Rattle.wasm_types.specs.Marked.{marked, size}
use Rattle.wasm_types.specs.Nodes.{At}
use Rattle.wasm_types.specs.Labels.{body_label, first}
use Rattle.wasm_types.specs.Sites.{Site, Sites, IsSite, body_sites, Leads, Among, from_at, from_join}
use Rattle.block_cfg.specs.Graph.{Graph, number, row_of, IsInside, EachOnce, IsNumbered}
use Rattle.block_cfg.specs.Points.{IsPoint, IsGraphOf, IsCfgOf}
use Rattle.block_cfg.specs.Walk.{SameOnce, Adds, AreAround, points_in, lists, first_of}
use Rattle.block_cfg.specs.Stops.{stops_in}
use Rattle.block_cfg.proofs.MemberLemmas.{among_of, contains_of, among_left, among_right, among_cases, zip_once, zip_row, same_nil, once_nil}
use Rattle.block_cfg.proofs.SiteLemmas.{first_marked, shapes, sites_shapes}
use Rattle.block_cfg.proofs.PointLemmas.{points_from, sites_points, points_are, are_points, points_once, length_lists}
use Rattle.block_cfg.proofs.StopLemmas.{length_stops, site_stop}
use Rattle.block_cfg.proofs.EnterLemmas.{enters}
use Rattle.block_cfg.proofs.LeadLemmas.{all_rows, leads_of, of_leads, EachRow, each_among, each_from, row_each, lists_each, points_below}

-- what is to be found of code: its points, the lists of its points, and where contents end
abbrev pub all_points : Code → List Node
all_points c = points_in true c 0 ++ Exit ∷ []

abbrev pub all_lists : Code → List (List Node)
all_lists c = lists true (Exit ∷ []) Exit c 0

abbrev pub all_stops : Code → List ℕ
all_stops c = stops_in c 0

pub around_body : AreAround (Exit ∷ []) 0
around_body = record {
  rising = λ i j d lt in_labels. absurd (omega arith);
  below = All-cons (λ (label : Node). number label < 2 * 0 + 1) Exit [] (omega arith) (All-nil (λ (label : Node). number label < 2 * 0 + 1));
}

begins : (c : Code) → slice_get (all_points c) 0 ≡ Some (first_of 0 c Exit)
begins done = refl
begins (one i rest) = refl
begins (block kind inner rest) = refl
begins (repeat kind inner rest) = refl
begins (branch kind x y rest) = refl

at_end : (c : Code) → Among (all_points c) Exit
at_end c = among_right (points_in true c 0) (Exit ∷ []) Exit (inl refl)

among_front : (c : Code) (n : Node) → Among (points_in true c 0) n → Among (all_points c) n
among_front c n a = among_left (points_in true c 0) (Exit ∷ []) n a

below : (c : Code) (n : Node) → Among (all_points c) n → number n < 2 * count c + 1
below c n a = ⊎_elim
    (λ b. each_among (λ (z : Node). number z < 2 * count c + 1) (points_in true c 0) n (points_below true c 0 (count c) (omega arith)) b)
    (λ b. ⊎_elim (λ e. subst (λ z. number z < 2 * count c + 1) e (omega arith)) (λ no. absurd no) b)
    (among_cases (points_in true c 0) (Exit ∷ []) n a)

each_row : (rows : List (List Node)) → All EachOnce rows → (k : ℕ) → EachOnce (get_or rows k [])
each_row rows all k = ⊎_elim
    (λ lt. All-get_or EachOnce rows k [] lt all)
    (λ le. subst EachOnce (sym (get_or_past rows k [] le)) once_nil)
    (cases_lt k (length rows))

module _ (c : Code) (next : List (List Node)) (adds : Adds ([] ∷ []) next (all_lists c)) where
  fits : AllZip SameOnce next ([] ∷ all_lists c)
  fits = subst (λ z. AllZip SameOnce z ([] ∷ all_lists c)) (sym adds.is) (same_nil, adds.fits)

  pub next_length : length next ≡ 2 * count c + 1
  next_length = omega (arith, length_all_zip SameOnce next ([] ∷ all_lists c) fits, length_lists true (Exit ∷ []) Exit c 0)

  pub next_once : (a : Node) → EachOnce (row_of next a)
  next_once a = each_row next (zip_once next ([] ∷ all_lists c) fits) (number a)

  -- each row leads to what is so of all points
  pub next_each : (P : Node → Type 0) → ((n : Node) → Among (all_points c) n → P n) → (a b : Node) → Contains (row_of next a) b → P b
  next_each P good a b h =
      let x : P Exit = good Exit (at_end c) in
      let each : EachRow P ([] ∷ all_lists c) = (tt, lists_each P (Exit ∷ []) Exit c 0 x (x, tt) x (each_from P (points_in true c 0) (λ n m. good n (among_front c n m)))) in
      each_among P (get_or ([] ∷ all_lists c) (number a) []) b (row_each P ([] ∷ all_lists c) (number a) each) (among_of _ b ((zip_row next ([] ∷ all_lists c) (number a) b fits).0 h))

  pub within : (a b : Node) → Contains (row_of next a) b → number b < length next
  within a b h =
      let hi = count c in
      let low : (n : Node) → Among (all_points c) n → number n < 2 * hi + 1 = λ n m. below c n m in
      let r = next_each (λ (n : Node). number n < 2 * hi + 1) low a b h in omega (arith, next_length, r)

  pub numbered : (before : List (List Node)) → length before ≡ length next
      → IsNumbered (record { points = all_points c; next = next; before = before; stops = all_stops c })
  numbered before same = record {
    points = λ k d lt. let r = below c (get_or (all_points c) k d) (among_of (all_points c) _ (Contains-get_or (all_points c) k d lt)) in omega (arith, next_length, r);
    same = same;
    stops = omega (arith, next_length, length_stops c 0);
  }

  module _ (before : List (List Node)) (turned : (a b : Node) → Contains (row_of before b) a ↔ Contains (row_of next a) b) (once : (b : Node) → EachOnce (row_of before b)) where
    module _ (S : Sites) (start : Node) (rows : shapes S ≡ all_lists c) (points : points_from 0 S ≡ points_in true c 0) (starts : first_of 0 c Exit ≡ start)
        (ends : (p : ℕ) (s : Site) → IsSite S p s → slice_get (all_stops c) p ≡ Some s.stop) where
      found : (a b : Node) → (Contains (row_of next a) b → Leads S a b) × (Leads S a b → Contains (row_of next a) b)
      found a b =
          let e : all_rows S ≡ [] ∷ all_lists c = ap (λ (l : List (List Node)). [] ∷ l) rows in
          let r = zip_row next ([] ∷ all_lists c) (number a) b fits in (
            (λ h. leads_of S a b (subst (λ l. Contains (row_of l a) b) (sym e) (r.0 h))),
            (λ l. r.1 (subst (λ z. Contains (row_of z a) b) e (of_leads S a b l))),
          )

      there : (n : Node) → (Contains (all_points c) n → IsPoint S n) × (IsPoint S n → Contains (all_points c) n)
      there n =
          let e : points_from 0 S ++ Exit ∷ [] ≡ all_points c = ap (λ l. l ++ Exit ∷ []) points in (
            (λ h. points_are S n (subst (λ l. Among l n) (sym e) (among_of (all_points c) n h))),
            (λ h. contains_of (all_points c) n (subst (λ l. Among l n) e (are_points S n h))),
          )

      leads_from : (a b : Node) → Leads S a b → IsPoint S a
      leads_from a b (from_at s is g) = (s, is)
      leads_from a b (from_join s is j) = (s, (is, j))

      into : (p : ℕ) (s : Site) → IsSite S p s → (a n : Node) → Leads S a n → IsInside p s.stop n → IsInside p s.stop a ⊎ (a ≡ At p)
      into p s is a n l inside = enters c p s.stop (ends p s is) a n ((zip_row next ([] ∷ all_lists c) (number a) n fits).0 ((found a n).1 l)) inside

      graph : IsGraphOf S start (record { points = all_points c; next = next; before = before; stops = all_stops c })
      graph = record {
        points = there;
        points_once = subst EachOnce (ap (λ l. l ++ Exit ∷ []) points) (points_once S);
        first = begins c ∙ ap Some starts;
        next = found;
        next_once = next_once;
        before = λ a b. ((λ h. (found a b).0 ((turned a b).0 h)), (λ l. (turned a b).1 ((found a b).1 l)));
        before_once = once;
        stays = λ a b l. (leads_from a b l, next_each (IsPoint S) (λ n m. (there n).0 (contains_of (all_points c) n m)) a b ((found a b).1 l));
        stops = ends;
        entered = into;
      }

    pub is_cfg : (body : Body) → c ≡ code_of body.code → IsCfgOf body (record { points = all_points c; next = next; before = before; stops = all_stops c })
    is_cfg body e cs t w =
        let ctx = body_label t (size (marked w 0 c)) ∷ [] in
        let found : Graph = record { points = all_points c; next = next; before = before; stops = all_stops c } in
        subst (λ z. IsGraphOf (body_sites cs t (marked w 0 z)) (first 0 (marked w 0 z) node.Exit) found) e
        (graph (body_sites cs t (marked w 0 c)) (first 0 (marked w 0 c) Exit) (sites_shapes cs w c ctx Exit 0 [] refl) (sites_points cs w c ctx Exit 0 [] refl)
        (sym (first_marked w c 0 Exit)) (λ p s is. site_stop cs w c ctx Exit p s is))
