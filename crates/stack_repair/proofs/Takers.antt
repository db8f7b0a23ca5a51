-- What an operand or a live end has is among its takers' pairs.
use Rattle.std.proofs.Common.{inl, inr, ◌≡◌, ℕ, zero, suc, ◌+◌, ◌<◌, List, [], ◌∷◌, ◌++◌, replicate, Option, Some, None, take, drop, length, slice_get, refl, sym, ap, subst, arith}
use Rattle.wasm_types.specs.declared.place.Node.{Node}
use Rattle.wasm_types.specs.declared.place.Taker.{Taker}
use Rattle.wasm_types.specs.declared.place.Taker.TheVariants as taker
use Rattle.wasm_types.specs.Marked.{Marked, End, Do, Block, Loop, If, Br, BrIf, BrTable, Return, Unreachable, size}
use Rattle.wasm_types.specs.Actions.{Callees, takes}
use Rattle.wasm_types.specs.Nodes.{Join, named, made}
use Rattle.wasm_types.specs.Labels.{arity, carried, outermost, Label, block_label, loop_label, arities}
use Rattle.wasm_types.specs.Sites.{Site, Sites, sites, EndAt, one_end, end_names, inner_ends, all_operands, Among}
use Rattle.wasm_types.specs.Takers.{taken, taken_at, takings}
use Rattle.flow_domain.specs.Presence.{AmongFirst}
use Rattle.stack_repair.proofs.Positions.{length-sites, among_left, among_right}

among_taken : (t : Taker) (n i : ℕ) (names : List Node) (d : Node) → i < n → slice_get names i ≡ Some d → Among (taken t (take n names)) (d, t)
among_taken t zero i names d lt e = absurd (omega arith)
among_taken t (suc n) i [] d lt e = absurd cc
among_taken t (suc n) zero (x ∷ names) d lt e = inl (let f : x ≡ d = cc in ap (λ z. (z, t)) f)
among_taken t (suc n) (suc i) (x ∷ names) d lt e = inr (among_taken t n i names d (omega arith) e)

among_all : (t : Taker) (i : ℕ) (names : List Node) (d : Node) → slice_get names i ≡ Some d → Among (taken t names) (d, t)
among_all t i [] d e = absurd cc
among_all t zero (x ∷ names) d e = inl (let f : x ≡ d = cc in ap (λ z. (z, t)) f)
among_all t (suc i) (x ∷ names) d e = inr (among_all t i names d e)

module _ (cs : Callees) (L : List (Node × Taker)) where
  abbrev Within : List (Node × Taker) → Type 0
  Within xs = (x : Node × Taker) → Among xs x → Among L x

  -- ---- operands

  abbrev SiteTaken : ℕ → Site → Type 0
  SiteTaken p s = (d : Node) → AmongFirst (all_operands cs s.around s.head) s.names d → Among L (d, taker.Instr (record { 0 = p }))

  abbrev pub EachSite : ℕ → Sites → Type 0
  EachSite p [] = Unit {0}
  EachSite p (None ∷ xs) = EachSite (p + 1) xs
  EachSite p (Some s ∷ xs) = SiteTaken p s × EachSite (p + 1) xs

  pub each_at : (xs : Sites) (p q r : ℕ) (s : Site) → r ≡ p + q → EachSite p xs → slice_get xs q ≡ Some (Some s) → SiteTaken r s
  each_at [] p q r s e h at = absurd cc
  each_at (None ∷ xs) p zero r s e h at = absurd cc
  each_at (None ∷ xs) p (suc q) r s e h at = each_at xs (p + 1) q r s (omega arith) h at
  each_at (Some x ∷ xs) p zero r s e h at = let f : r ≡ p = omega arith in let g : x ≡ s = cc in rw f (subst (λ z. SiteTaken p z) g h.0)
  each_at (Some x ∷ xs) p (suc q) r s e h at = each_at xs (p + 1) q r s (omega arith) h.1 at

  each_append : (xs ys : Sites) (p q : ℕ) → q ≡ p + length xs → EachSite p xs → EachSite q ys → EachSite p (xs ++ ys)
  each_append [] ys p q e h g = let f : q ≡ p = omega arith in subst (λ n. EachSite n ys) f g
  each_append (None ∷ xs) ys p q e h g = each_append xs ys (p + 1) q (omega arith) h g
  each_append (Some s ∷ xs) ys p q e h g = (h.0, each_append xs ys (p + 1) q (omega arith) h.1 g)

  each_nones : (n p : ℕ) → EachSite p (replicate n None)
  each_nones zero p = tt
  each_nones (suc n) p = each_nones n (p + 1)

  site_taken : (p n k : ℕ) (names : List Node) → n ≡ k → Within (taken_at p k names) → (d : Node) → AmongFirst n names d
      → Among L (d, taker.Instr (record { 0 = p }))
  site_taken p n k names e sub d (i, lt, a) = sub _ (among_taken (taker.Instr (record { 0 = p })) k i names d (omega arith) a)

  none_taken : (p : ℕ) (names : List Node) (d : Node) → AmongFirst 0 names d → Among L (d, taker.Instr (record { 0 = p }))
  none_taken p names d (i, lt, a) = absurd (omega arith)

  pub sites_taken : (code : Marked) (ctx : List Label) (k : Node) (p : ℕ) (names : List Node) → Within (takings cs ctx k code p names)
      → EachSite p (sites cs ctx k code p names)
  sites_taken End ctx k p names sub = tt
  sites_taken (Do m op rest) ctx k p names sub = (
    site_taken p (takes cs op) (takes cs op) names refl (λ x a. sub x (among_left (taken_at p (takes cs op) names) _ x a)),
    sites_taken rest ctx k (p + 1) (made cs p op names) (λ x a. sub x (among_right (taken_at p (takes cs op) names) _ x a)),
  )
  sites_taken (Block m kind body rest) ctx k p names sub =
      let e = p + 1 + size body in
      let B = block_label p (arity kind) e in
      let bs = sites cs (B ∷ ctx) (Join p) body (p + 1) [] in
      let b = takings cs (B ∷ ctx) (Join p) body (p + 1) [] in (
        none_taken p names,
        each_append bs (sites cs ctx k rest e (named (arity kind) (Join p) names)) (p + 1) e (omega (arith, length-sites cs body (B ∷ ctx) (Join p) (p + 1) []))
            (sites_taken body (B ∷ ctx) (Join p) (p + 1) [] (λ x a. sub x (among_left b _ x a))) (sites_taken rest ctx k e (named (arity kind) (Join p) names) (λ x a. sub x (among_right b _ x a))),
      )
  sites_taken (Loop m kind body rest) ctx k p names sub =
      let e = p + 1 + size body in
      let B = loop_label p e in
      let bs = sites cs (B ∷ ctx) (Join p) body (p + 1) [] in
      let b = takings cs (B ∷ ctx) (Join p) body (p + 1) [] in (
        none_taken p names,
        each_append bs (sites cs ctx k rest e (named (arity kind) (Join p) names)) (p + 1) e (omega (arith, length-sites cs body (B ∷ ctx) (Join p) (p + 1) []))
            (sites_taken body (B ∷ ctx) (Join p) (p + 1) [] (λ x a. sub x (among_left b _ x a))) (sites_taken rest ctx k e (named (arity kind) (Join p) names) (λ x a. sub x (among_right b _ x a))),
      )
  sites_taken (If m kind x y rest) ctx k p names sub =
      let f = p + 1 + size x in
      let e = p + 1 + size x + size y in
      let B = block_label p (arity kind) e in
      let names1 = named (arity kind) (Join p) (drop 1 names) in
      let xs = sites cs (B ∷ ctx) (Join p) x (p + 1) [] in
      let ys = sites cs (B ∷ ctx) (Join p) y f [] in
      let rs = sites cs ctx k rest e names1 in
      let t1 = taken_at p 1 names in
      let tx = takings cs (B ∷ ctx) (Join p) x (p + 1) [] in
      let ty = takings cs (B ∷ ctx) (Join p) y f [] in
      let tr = takings cs ctx k rest e names1 in (
        site_taken p 1 1 names refl (λ z a. sub z (among_left t1 _ z a)),
        each_append xs (ys ++ rs) (p + 1) f (omega (arith, length-sites cs x (B ∷ ctx) (Join p) (p + 1) []))
            (sites_taken x (B ∷ ctx) (Join p) (p + 1) [] (λ z a. sub z (among_right t1 _ z (among_left tx _ z a))))
            (each_append ys rs f e (omega (arith, length-sites cs y (B ∷ ctx) (Join p) f []))
            (sites_taken y (B ∷ ctx) (Join p) f [] (λ z a. sub z (among_right t1 _ z (among_right tx _ z (among_left ty _ z a)))))
            (sites_taken rest ctx k e names1 (λ z a. sub z (among_right t1 _ z (among_right tx _ z (among_right ty tr z a)))))),
      )
  sites_taken (Br m l rest) ctx k p names sub = (site_taken p (carried (arities ctx) l) (carried (arities ctx) l) names refl sub, each_nones (size rest) (p + 1))
  sites_taken (BrIf m l rest) ctx k p names sub =
      let n = carried (arities ctx) l in (
        site_taken p (suc n) (n + 1) names (omega arith) (λ x a. sub x (among_left (taken_at p (n + 1) names) _ x a)),
        sites_taken rest ctx k (p + 1) (drop 1 names) (λ x a. sub x (among_right (taken_at p (n + 1) names) _ x a)),
      )
  sites_taken (BrTable m labels other rest) ctx k p names sub =
      let n = carried (arities ctx) other in (site_taken p (suc n) (n + 1) names (omega arith) sub, each_nones (size rest) (p + 1))
  sites_taken (Return m rest) ctx k p names sub =
      let n = carried (arities ctx) (outermost (arities ctx)) in (site_taken p n n names refl sub, each_nones (size rest) (p + 1))
  sites_taken (Unreachable m rest) ctx k p names sub = (none_taken p names, each_nones (size rest) (p + 1))

  -- ---- live ends

  abbrev EndTaken : EndAt → Type 0
  EndTaken e = (d : Node) → AmongFirst e.count e.names d → Among L (d, taker.End e.owner)

  abbrev pub EachEnd : List EndAt → Type 0
  EachEnd [] = Unit {0}
  EachEnd (e ∷ es) = EndTaken e × EachEnd es

  pub end_in : (es : List EndAt) (e : EndAt) → EachEnd es → Among es e → EndTaken e
  end_in [] e h a = absurd a
  end_in (x ∷ es) e h (inl q) = subst (λ z. EndTaken z) q h.0
  end_in (x ∷ es) e h (inr q) = end_in es e h.1 q

  pub ends_append : (xs ys : List EndAt) → EachEnd xs → EachEnd ys → EachEnd (xs ++ ys)
  ends_append [] ys h g = g
  ends_append (x ∷ xs) ys h g = (h.0, ends_append xs ys h.1 g)

  end_taken : (code : Marked) (ctx : List Label) (k : Node) (p : ℕ) (names ns : List Node) → Within (takings cs ctx k code p names)
      → end_names cs code p names ≡ Some ns → (i : ℕ) (d : Node) → slice_get ns i ≡ Some d → Among L (d, taker.End k)
  end_taken End ctx k p names ns sub e i d a =
      let f : names ≡ ns = cc in sub _ (among_all (taker.End k) i names d (subst (λ z. slice_get z i ≡ Some d) (sym f) a))
  end_taken (Do m op rest) ctx k p names ns sub e i d a =
      end_taken rest ctx k (p + 1) (made cs p op names) ns (λ x b. sub x (among_right (taken_at p (takes cs op) names) _ x b)) e i d a
  end_taken (Block m kind body rest) ctx k p names ns sub e i d a =
      end_taken rest ctx k (p + 1 + size body) (named (arity kind) (Join p) names) ns (λ x b. sub x (among_right (takings cs (block_label p (arity kind) (p + 1 + size body) ∷ ctx) (Join p) body (p + 1) []) _ x b)) e i d a
  end_taken (Loop m kind body rest) ctx k p names ns sub e i d a =
      end_taken rest ctx k (p + 1 + size body) (named (arity kind) (Join p) names) ns (λ x b. sub x (among_right (takings cs (loop_label p (p + 1 + size body) ∷ ctx) (Join p) body (p + 1) []) _ x b)) e i d a
  end_taken (If m kind x y rest) ctx k p names ns sub e i d a =
      let B = block_label p (arity kind) (p + 1 + size x + size y) in
      end_taken rest ctx k (p + 1 + size x + size y) (named (arity kind) (Join p) (drop 1 names)) ns
      (λ z b. sub z (among_right (taken_at p 1 names) _ z (among_right (takings cs (B ∷ ctx) (Join p) x (p + 1) []) _ z (among_right (takings cs (B ∷ ctx) (Join p) y (p + 1 + size x) []) _ z b)))) e i d a
  end_taken (Br m l rest) ctx k p names ns sub e i d a = absurd cc
  end_taken (BrIf m l rest) ctx k p names ns sub e i d a =
      end_taken rest ctx k (p + 1) (drop 1 names) ns (λ x b. sub x (among_right (taken_at p (carried (arities ctx) l + 1) names) _ x b)) e i d a
  end_taken (BrTable m labels other rest) ctx k p names ns sub e i d a = absurd cc
  end_taken (Return m rest) ctx k p names ns sub e i d a = absurd cc
  end_taken (Unreachable m rest) ctx k p names ns sub e i d a = absurd cc

  pub one_end_taken : (code : Marked) (ctx : List Label) (k : Node) (n p : ℕ) (names : List Node) → Within (takings cs ctx k code p names)
      → EachEnd (one_end k n (end_names cs code p names))
  one_end_taken code ctx k n p names sub = go (end_names cs code p names) refl
    where
      go : (o : Option (List Node)) → end_names cs code p names ≡ o → EachEnd (one_end k n o)
      go None e = tt
      go (Some ns) e = ((λ d a. end_taken code ctx k p names ns sub e a.0 d a.2), tt)

  pub ends_taken : (code : Marked) (ctx : List Label) (k : Node) (p : ℕ) (names : List Node) → Within (takings cs ctx k code p names)
      → EachEnd (inner_ends cs code p names)
  ends_taken End ctx k p names sub = tt
  ends_taken (Do m op rest) ctx k p names sub =
      ends_taken rest ctx k (p + 1) (made cs p op names) (λ x b. sub x (among_right (taken_at p (takes cs op) names) _ x b))
  ends_taken (Block m kind body rest) ctx k p names sub =
      let e = p + 1 + size body in
      let B = block_label p (arity kind) e in
      let b = takings cs (B ∷ ctx) (Join p) body (p + 1) [] in
      let sub1 : Within b = λ x a. sub x (among_left b _ x a) in
      ends_append (one_end (Join p) (arity kind) (end_names cs body (p + 1) [])) _ (one_end_taken body (B ∷ ctx) (Join p) (arity kind) (p + 1) [] sub1)
      (ends_append (inner_ends cs body (p + 1) []) _ (ends_taken body (B ∷ ctx) (Join p) (p + 1) [] sub1)
      (ends_taken rest ctx k e (named (arity kind) (Join p) names) (λ x a. sub x (among_right b _ x a))))
  ends_taken (Loop m kind body rest) ctx k p names sub =
      let e = p + 1 + size body in
      let B = loop_label p e in
      let b = takings cs (B ∷ ctx) (Join p) body (p + 1) [] in
      let sub1 : Within b = λ x a. sub x (among_left b _ x a) in
      ends_append (one_end (Join p) (arity kind) (end_names cs body (p + 1) [])) _ (one_end_taken body (B ∷ ctx) (Join p) (arity kind) (p + 1) [] sub1)
      (ends_append (inner_ends cs body (p + 1) []) _ (ends_taken body (B ∷ ctx) (Join p) (p + 1) [] sub1)
      (ends_taken rest ctx k e (named (arity kind) (Join p) names) (λ x a. sub x (among_right b _ x a))))
  ends_taken (If m kind x y rest) ctx k p names sub =
      let f = p + 1 + size x in
      let e = p + 1 + size x + size y in
      let B = block_label p (arity kind) e in
      let names1 = named (arity kind) (Join p) (drop 1 names) in
      let t1 = taken_at p 1 names in
      let tx = takings cs (B ∷ ctx) (Join p) x (p + 1) [] in
      let ty = takings cs (B ∷ ctx) (Join p) y f [] in
      let tr = takings cs ctx k rest e names1 in
      let sx : Within tx = λ z a. sub z (among_right t1 _ z (among_left tx _ z a)) in
      let sy : Within ty = λ z a. sub z (among_right t1 _ z (among_right tx _ z (among_left ty tr z a))) in
      let sr : Within tr = λ z a. sub z (among_right t1 _ z (among_right tx _ z (among_right ty tr z a))) in
      ends_append (one_end (Join p) (arity kind) (end_names cs x (p + 1) [])) _ (one_end_taken x (B ∷ ctx) (Join p) (arity kind) (p + 1) [] sx)
      (ends_append (one_end (Join p) (arity kind) (end_names cs y f [])) _ (one_end_taken y (B ∷ ctx) (Join p) (arity kind) f [] sy)
      (ends_append (inner_ends cs x (p + 1) []) _ (ends_taken x (B ∷ ctx) (Join p) (p + 1) [] sx)
      (ends_append (inner_ends cs y f []) _ (ends_taken y (B ∷ ctx) (Join p) f [] sy) (ends_taken rest ctx k e names1 sr))))
  ends_taken (Br m l rest) ctx k p names sub = tt
  ends_taken (BrIf m l rest) ctx k p names sub =
      ends_taken rest ctx k (p + 1) (drop 1 names) (λ x b. sub x (among_right (taken_at p (carried (arities ctx) l + 1) names) _ x b))
  ends_taken (BrTable m labels other rest) ctx k p names sub = tt
  ends_taken (Return m rest) ctx k p names sub = tt
  ends_taken (Unreachable m rest) ctx k p names sub = tt
