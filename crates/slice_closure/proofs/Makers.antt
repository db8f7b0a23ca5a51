-- What makes a value of a body is a point of it.
use Rattle.std.proofs.Common.{◌≡◌, ℕ, zero, suc, ◌+◌, ◌*◌, ◌<◌, List, [], ◌∷◌, ◌++◌, Some, None, take, drop, replicate, refl, ap, subst, inl, inr, ⊎_elim, arith}
use Rattle.std.specs.Prelude.{slice_get}
use Rattle.std.proofs.lemmas.Option.{slice_get_within}
use Rattle.wasm_types.specs.declared.place.Node.{Node}
use Rattle.wasm_types.specs.declared.place.Node.TheVariants as node
use Rattle.wasm_types.specs.declared.place.Node.TheVariants.{Exit}
use Rattle.wasm_types.specs.Marked.{Marked, End, Do, Block, Loop, If, Br, BrIf, BrTable, Return, Unreachable, size}
use Rattle.wasm_types.specs.Actions.{Callees, takes, leaves}
use Rattle.wasm_types.specs.Nodes.{At, Join, named, made}
use Rattle.wasm_types.specs.Labels.{Label, arity, carried, outermost, arities, join_of, block_label, loop_label, body_label}
use Rattle.wasm_types.specs.Sites.{Site, Sites, IsSite, Among, sites, body_sites}
use Rattle.wasm_types.specs.Takers.{joining, joining_each, joinings, joined_of}
use Rattle.block_cfg.specs.Graph.{number}
use Rattle.block_cfg.specs.Points.{IsPoint}
use Rattle.block_cfg.proofs.MemberLemmas.{among_cases}
use Rattle.slice_closure.proofs.Standing.{HasAt, has_front, has_back, has_all, length-sites}
use Rattle.slice_closure.proofs.Joined.{given_has}

abbrev pub PointsIn : Sites → List Node → Type 0
PointsIn S names = (x : Node) → Among names x → IsPoint S x

-- names of sites, and what comes together, are points
pub record Good (S xs : Sites) (pairs : List (Node × Node)) : Type 0 where
  pub names : (s : Site) → Among xs (Some s) → PointsIn S s.names
  pub joins : (j x : Node) → Among pairs (j, x) → IsPoint S x

points_drop : (S : Sites) (n : ℕ) (names : List Node) → PointsIn S names → PointsIn S (drop n names)
points_drop S zero names h = h
points_drop S (suc n) [] h = h
points_drop S (suc n) (d ∷ names) h = points_drop S n names (λ x a. h x (inr a))

points_take : (S : Sites) (n : ℕ) (names : List Node) → PointsIn S names → PointsIn S (take n names)
points_take S zero names h = λ x a. absurd a
points_take S (suc n) [] h = h
points_take S (suc n) (d ∷ names) h = λ x a. ⊎_elim (λ e. h x (inl e)) (λ b. points_take S n names (λ y c. h y (inr c)) x b) a

points_named : (S : Sites) (k : ℕ) (d : Node) (names : List Node) → IsPoint S d → PointsIn S names → PointsIn S (named k d names)
points_named S zero d names p h = h
points_named S (suc k) d names p h = λ x a. ⊎_elim (λ e. subst (IsPoint S) e p) (λ b. h x b) a

joining_points : (S : Sites) (k : Node) (names : List Node) → PointsIn S names → (j x : Node) → Among (joining k names) (j, x) → IsPoint S x
joining_points S k [] h j x a = absurd a
joining_points S k (n ∷ names) h j x a = ⊎_elim
    (λ e. h x (inl (ap (λ (z : Node × Node). z.1) e)))
    (λ b. joining_points S k names (λ y c. h y (inr c)) j x b)
    a

each_points : (S : Sites) (ks names : List Node) → PointsIn S names → (j x : Node) → Among (joining_each ks names) (j, x) → IsPoint S x
each_points S [] names h j x a = absurd a
each_points S (k ∷ ks) names h j x a =
    ⊎_elim (joining_points S k names h j x) (each_points S ks names h j x) (among_cases (joining k names) (joining_each ks names) (j, x) a)

same_site : (s t : Site) → Some s ≡ Some t → s ≡ t
same_site s t e = cc

none_some : (s : Site) → None ≡ Some s → ⊥
none_some s e = cc

good_none : (S : Sites) (n : ℕ) → Good S (replicate n None) []
good_none S n = record { names = λ s a. absurd (go n s a); joins = λ j x a. absurd a }
  where
    go : (k : ℕ) (s : Site) → Among (replicate k None) (Some s) → ⊥
    go zero s a = a
    go (suc k) s a = ⊎_elim (none_some s) (go k s) a

good_first : (S : Sites) (s : Site) (xs : Sites) (pairs : List (Node × Node)) → PointsIn S s.names → Good S xs pairs → Good S (Some s ∷ xs) pairs
good_first S s xs pairs here g = record {
  names = λ t a. ⊎_elim (λ e. subst (λ (z : Site). PointsIn S z.names) (same_site s t e) here) (λ b. g.names t b) a;
  joins = g.joins;
}

good_joins : (S xs : Sites) (js ks : List (Node × Node)) → ((j x : Node) → Among js (j, x) → IsPoint S x) → Good S xs ks → Good S xs (js ++ ks)
good_joins S xs js ks h g = record { names = g.names; joins = λ j x a. ⊎_elim (h j x) (g.joins j x) (among_cases js ks (j, x) a) }

good_both : (S xs ys : Sites) (js ks : List (Node × Node)) → Good S xs js → Good S ys ks → Good S (xs ++ ys) (js ++ ks)
good_both S xs ys js ks g h = record {
  names = λ s a. ⊎_elim (g.names s) (h.names s) (among_cases xs ys (Some s) a);
  joins = λ j x a. ⊎_elim (g.joins j x) (h.joins j x) (among_cases js ks (j, x) a);
}

good_ends : (S : Sites) (s : Site) (n : ℕ) (js : List (Node × Node)) → PointsIn S s.names → ((j x : Node) → Among js (j, x) → IsPoint S x)
    → Good S (Some s ∷ replicate n None) js
good_ends S s n js here h = good_first S s (replicate n None) js here (record { names = (good_none S n).names; joins = h })

module _ (cs : Callees) (S : Sites) where
  good : (c : Marked) (ctx : List Label) (k : Node) (p : ℕ) (names : List Node) → HasAt S p (sites cs ctx k c p names) → PointsIn S names
      → Good S (sites cs ctx k c p names) (joinings cs ctx k c p names)
  good End ctx k p names h n = record { names = λ s a. absurd a; joins = joining_points S k names n }
  good (Do m op rest) ctx k p names h n =
      good_first S _ (sites cs ctx k rest (p + 1) (made cs p op names)) (joinings cs ctx k rest (p + 1) (made cs p op names)) n
      (good rest ctx k (p + 1) (made cs p op names) h.1
      (points_named S (leaves cs op) (At p) (drop (takes cs op) names) (_, h.0) (points_drop S (takes cs op) names n)))
  good (Block m kind body rest) ctx k p names h n =
      let e = p + 1 + size body in
      let inside = block_label p (arity kind) e ∷ ctx in
      let after = named (arity kind) (Join p) names in
      let xs = sites cs inside (Join p) body (p + 1) [] in
      let ys = sites cs ctx k rest e after in
      let front : HasAt S (p + 1) xs = has_front S (p + 1) xs ys h.1 in
      let past : HasAt S e ys = has_back S (p + 1) e xs ys (omega (arith, length-sites cs body inside (Join p) (p + 1) [])) h.1 in
      good_first S _ (xs ++ ys) (joinings cs inside (Join p) body (p + 1) [] ++ joinings cs ctx k rest e after) n
      (good_both S xs ys (joinings cs inside (Join p) body (p + 1) []) (joinings cs ctx k rest e after)
      (good body inside (Join p) (p + 1) [] front (λ x a. absurd a))
      (good rest ctx k e after past (points_named S (arity kind) (Join p) names (_, (h.0, tt)) n)))
  good (Loop m kind body rest) ctx k p names h n =
      let e = p + 1 + size body in
      let inside = loop_label p e ∷ ctx in
      let after = named (arity kind) (Join p) names in
      let xs = sites cs inside (Join p) body (p + 1) [] in
      let ys = sites cs ctx k rest e after in
      let front : HasAt S (p + 1) xs = has_front S (p + 1) xs ys h.1 in
      let past : HasAt S e ys = has_back S (p + 1) e xs ys (omega (arith, length-sites cs body inside (Join p) (p + 1) [])) h.1 in
      good_first S _ (xs ++ ys) (joinings cs inside (Join p) body (p + 1) [] ++ joinings cs ctx k rest e after) n
      (good_both S xs ys (joinings cs inside (Join p) body (p + 1) []) (joinings cs ctx k rest e after)
      (good body inside (Join p) (p + 1) [] front (λ x a. absurd a))
      (good rest ctx k e after past (points_named S (arity kind) (Join p) names (_, (h.0, tt)) n)))
  good (If m kind x y rest) ctx k p names h n =
      let f = p + 1 + size x in
      let e = p + 1 + size x + size y in
      let inside = block_label p (arity kind) e ∷ ctx in
      let after = named (arity kind) (Join p) (drop 1 names) in
      let xs = sites cs inside (Join p) x (p + 1) [] in
      let ys = sites cs inside (Join p) y f [] in
      let zs = sites cs ctx k rest e after in
      let front : HasAt S (p + 1) xs = has_front S (p + 1) xs (ys ++ zs) h.1 in
      let others : HasAt S f (ys ++ zs) = has_back S (p + 1) f xs (ys ++ zs) (omega (arith, length-sites cs x inside (Join p) (p + 1) [])) h.1 in
      let middle : HasAt S f ys = has_front S f ys zs others in
      let past : HasAt S e zs = has_back S f e ys zs (omega (arith, length-sites cs y inside (Join p) f [])) others in
      let js = joinings cs inside (Join p) x (p + 1) [] in
      let ks = joinings cs inside (Join p) y f [] in
      let ls = joinings cs ctx k rest e after in
      good_first S _ (xs ++ (ys ++ zs)) (js ++ (ks ++ ls)) n
      (good_both S xs (ys ++ zs) js (ks ++ ls)
      (good x inside (Join p) (p + 1) [] front (λ z a. absurd a))
      (good_both S ys zs ks ls
      (good y inside (Join p) f [] middle (λ z a. absurd a))
      (good rest ctx k e after past (points_named S (arity kind) (Join p) (drop 1 names) (_, (h.0, tt)) (points_drop S 1 names n)))))
  good (Br m l rest) ctx k p names h n =
      good_ends S _ (size rest) (joining (join_of ctx l) (take (carried (arities ctx) l) names)) n
      (joining_points S (join_of ctx l) (take (carried (arities ctx) l) names) (points_take S (carried (arities ctx) l) names n))
  good (BrIf m l rest) ctx k p names h n =
      good_first S _ (sites cs ctx k rest (p + 1) (drop 1 names))
      (joining (join_of ctx l) (take (carried (arities ctx) l) (drop 1 names)) ++ joinings cs ctx k rest (p + 1) (drop 1 names)) n
      (good_joins S (sites cs ctx k rest (p + 1) (drop 1 names)) (joining (join_of ctx l) (take (carried (arities ctx) l) (drop 1 names)))
      (joinings cs ctx k rest (p + 1) (drop 1 names))
      (joining_points S (join_of ctx l) (take (carried (arities ctx) l) (drop 1 names)) (points_take S (carried (arities ctx) l) (drop 1 names)
      (points_drop S 1 names n)))
      (good rest ctx k (p + 1) (drop 1 names) h.1 (points_drop S 1 names n)))
  good (BrTable m labels other rest) ctx k p names h n =
      good_ends S _ (size rest) (joinings cs ctx k (BrTable m labels other rest) p names) n
      (each_points S _ (take (carried (arities ctx) other) (drop 1 names)) (points_take S (carried (arities ctx) other) (drop 1 names)
      (points_drop S 1 names n)))
  good (Return m rest) ctx k p names h n =
      let l = outermost (arities ctx) in
      good_ends S _ (size rest) (joining (join_of ctx l) (take (carried (arities ctx) l) names)) n
      (joining_points S (join_of ctx l) (take (carried (arities ctx) l) names) (points_take S (carried (arities ctx) l) names n))
  good (Unreachable m rest) ctx k p names h n = good_ends S _ (size rest) [] n (λ j x a. absurd a)

pub site_among : (S : Sites) (p : ℕ) (s : Site) → IsSite S p s → Among S (Some s)
site_among [] p s e = absurd cc
site_among (t ∷ S) zero s e = let same : t ≡ Some s = cc in inl same
site_among (t ∷ S) (suc p) s e = inr (site_among S p s e)

pub among_site : (S : Sites) (s : Site) → Among S (Some s) → (p : ℕ) × IsSite S p s
among_site [] s a = absurd a
among_site (t ∷ S) s (inl e) = (0, ap Some e)
among_site (t ∷ S) s (inr a) = let r = among_site S s a in (suc r.0, r.1)

among_get : (names : List Node) (k : ℕ) (x : Node) → slice_get names k ≡ Some x → Among names x
among_get [] k x e = absurd cc
among_get (n ∷ names) zero x e = let same : n ≡ x = cc in inl same
among_get (n ∷ names) (suc k) x e = inr (among_get names k x e)

module _ (cs : Callees) (t : ℕ) (c : Marked) where
  all_good : Good (body_sites cs t c) (body_sites cs t c) (joinings cs (body_label t (size c) ∷ []) Exit c 0 [])
  all_good = good cs (body_sites cs t c) c (body_label t (size c) ∷ []) Exit 0 [] (has_all [] (body_sites cs t c) 0 refl) (λ x a. absurd a)

  -- the names at a live position
  pub name_point : (p : ℕ) (s : Site) → IsSite (body_sites cs t c) p s → (k : ℕ) (x : Node) → slice_get s.names k ≡ Some x → IsPoint (body_sites cs t c) x
  name_point p s is k x e = all_good.names s (site_among (body_sites cs t c) p s is) x (among_get s.names k x e)

  -- what comes together
  pub joined_point : (j x : Node) → Among (joined_of cs t c j) x → IsPoint (body_sites cs t c) x
  joined_point j x a = all_good.joins j x (given_has j (joinings cs (body_label t (size c) ∷ []) Exit c 0 []) x a)

  pub position_below : (p : ℕ) (s : Site) → IsSite (body_sites cs t c) p s → p < size c
  position_below p s is =
      let lt = slice_get_within (body_sites cs t c) p (Some s) is in omega (arith, length-sites cs c (body_label t (size c) ∷ []) Exit 0 [])

  -- the numbers of points
  pub point_below : (n : Node) → IsPoint (body_sites cs t c) n → number n < 2 * size c + 1
  point_below (node.At p) h = let lt = position_below p.0 h.0 h.1 in omega arith
  point_below (node.Join p) h = let lt = position_below p.0 h.0 h.1.0 in omega arith
  point_below node.Exit h = omega arith
