-- The types of places as a recursion on live code, which the proofs follow, against the relation over sites.
use Rattle.std.proofs.Common.{◌≡◌, ℕ, zero, suc, ◌+◌, List, [], ◌∷◌, ◌++◌, map, Option, Some, None, take, drop, length, replicate, slice_get, refl, subst, arith}
use Rattle.wasm_types.specs.declared.module.ValType.{ValType}
use Rattle.wasm_types.specs.declared.place.Node.{Node}
use Rattle.wasm_types.specs.declared.place.Node.TheVariants.{Exit}
use Rattle.wasm_types.specs.declared.instr.Instr.{Instr}
use Rattle.wasm_types.specs.Marked.{Marked, End, Do, Block, Loop, If, Br, BrIf, BrTable, Return, Unreachable, size}
use Rattle.wasm_types.specs.Typing.{Context, Types}
use Rattle.wasm_types.specs.Actions.{callees, takes}
use Rattle.wasm_types.specs.Nodes.{At, Join, named, made}
use Rattle.wasm_types.specs.Labels.{arity, Label, block_label, loop_label, body_label}
use Rattle.wasm_types.specs.Sites.{DoHead, Site, Sites, IsSite, sites, body_sites}
use Rattle.wasm_types.specs.Places.{HasResult, TypesPlaces}
use Rattle.stack_repair.proofs.Positions.{HasAt, has_front, has_back, length-sites}

-- the place of an instruction on these operands has the type of what it leaves
abbrev pub HasResultType : Context → (Node → ValType) → Instr → List Node → Node → Type 0
HasResultType c T op operands n = (k : ValType) → Types c op (map T operands) (k ∷ []) → T n ≡ k

-- the place of a block has the type of its result
abbrev pub HasKind : (Node → ValType) → Option ValType → Node → Type 0
HasKind T None n = Unit {0}
HasKind T (Some k) n = T n ≡ k

-- T gives each place of the live code at p, with these names on its stack, its type
abbrev pub TypesLive : Context → (Node → ValType) → Marked → ℕ → List Node → Type 0
TypesLive c T End p names = Unit {0}
TypesLive c T (Do m op rest) p names =
    let cs = callees c.inside in HasResultType c T op (take (takes cs op) names) (At p) × TypesLive c T rest (p + 1) (made cs p op names)
TypesLive c T (Block m kind body rest) p names =
    HasKind T kind (Join p) × TypesLive c T body (p + 1) [] × TypesLive c T rest (p + 1 + size body) (named (arity kind) (Join p) names)
TypesLive c T (Loop m kind body rest) p names =
    HasKind T kind (Join p) × TypesLive c T body (p + 1) [] × TypesLive c T rest (p + 1 + size body) (named (arity kind) (Join p) names)
TypesLive c T (If m kind x y rest) p names =
    HasKind T kind (Join p) × TypesLive c T x (p + 1) [] × TypesLive c T y (p + 1 + size x) [] × TypesLive c T rest (p + 1 + size x + size y) (named (arity kind) (Join p) (drop 1 names))
TypesLive c T (BrIf m l rest) p names = TypesLive c T rest (p + 1) (drop 1 names)
TypesLive c T _ p names = Unit {0}

-- ---- from sites to code

kind_of : (T : Node → ValType) (kind : Option ValType) (n : Node) → ((k : ValType) → kind ≡ Some k → T n ≡ k) → HasKind T kind n
kind_of T None n f = tt
kind_of T (Some k) n f = f k refl

module _ (c : Context) (S : Sites) (T : Node → ValType) (ty : TypesPlaces c S T) where
  pub live_of : (code : Marked) (ctx : List Label) (k : Node) (p : ℕ) (names : List Node) → HasAt S p (sites (callees c.inside) ctx k code p names)
      → TypesLive c T code p names
  live_of End ctx k p names at = tt
  live_of (Do m op rest) ctx k p names at = ((λ v h. ty.left p _ op v at.0 refl h), live_of rest ctx k (p + 1) (made (callees c.inside) p op names) at.1)
  live_of (Block m kind body rest) ctx k p names at =
      let cs = callees c.inside in
      let e = p + 1 + size body in
      let bs = sites cs (block_label p (arity kind) e ∷ ctx) (Join p) body (p + 1) [] in
      let rs = sites cs ctx k rest e (named (arity kind) (Join p) names) in (
        kind_of T kind (Join p) (λ v h. ty.result p _ v at.0 h),
        live_of body (block_label p (arity kind) e ∷ ctx) (Join p) (p + 1) [] (has_front S (p + 1) bs rs at.1),
        live_of rest ctx k e (named (arity kind) (Join p) names) (has_back S (p + 1) e bs rs (omega (arith, length-sites cs body (block_label p (arity kind) e ∷ ctx) (Join p) (p + 1) [])) at.1),
      )
  live_of (Loop m kind body rest) ctx k p names at =
      let cs = callees c.inside in
      let e = p + 1 + size body in
      let bs = sites cs (loop_label p e ∷ ctx) (Join p) body (p + 1) [] in
      let rs = sites cs ctx k rest e (named (arity kind) (Join p) names) in (
        kind_of T kind (Join p) (λ v h. ty.result p _ v at.0 h),
        live_of body (loop_label p e ∷ ctx) (Join p) (p + 1) [] (has_front S (p + 1) bs rs at.1),
        live_of rest ctx k e (named (arity kind) (Join p) names) (has_back S (p + 1) e bs rs (omega (arith, length-sites cs body (loop_label p e ∷ ctx) (Join p) (p + 1) [])) at.1),
      )
  live_of (If m kind x y rest) ctx k p names at =
      let cs = callees c.inside in
      let f = p + 1 + size x in
      let e = p + 1 + size x + size y in
      let L = block_label p (arity kind) e in
      let xs = sites cs (L ∷ ctx) (Join p) x (p + 1) [] in
      let ys = sites cs (L ∷ ctx) (Join p) y f [] in
      let rs = sites cs ctx k rest e (named (arity kind) (Join p) (drop 1 names)) in
      let back_x = has_back S (p + 1) f xs (ys ++ rs) (omega (arith, length-sites cs x (L ∷ ctx) (Join p) (p + 1) [])) at.1 in (
        kind_of T kind (Join p) (λ v h. ty.result p _ v at.0 h),
        live_of x (L ∷ ctx) (Join p) (p + 1) [] (has_front S (p + 1) xs (ys ++ rs) at.1),
        live_of y (L ∷ ctx) (Join p) f [] (has_front S f ys rs back_x),
        live_of rest ctx k e (named (arity kind) (Join p) (drop 1 names)) (has_back S f e ys rs (omega (arith, length-sites cs y (L ∷ ctx) (Join p) f [])) back_x),
      )
  live_of (Br m l rest) ctx k p names at = tt
  live_of (BrIf m l rest) ctx k p names at = live_of rest ctx k (p + 1) (drop 1 names) at.1
  live_of (BrTable m labels other rest) ctx k p names at = tt
  live_of (Return m rest) ctx k p names at = tt
  live_of (Unreachable m rest) ctx k p names at = tt

-- ---- from code to sites

module _ (c : Context) (T : Node → ValType) where
  record SiteTyped (p : ℕ) (s : Site) : Type 0 where
    left : (op : Instr) (k : ValType) → s.head ≡ DoHead op → Types c op (map T (take (takes (callees c.inside) op) s.names)) (k ∷ []) → T (At p) ≡ k
    result : (k : ValType) → HasResult s.head k → T (Join p) ≡ k

  abbrev EachTyped : ℕ → Sites → Type 0
  EachTyped p [] = Unit {0}
  EachTyped p (None ∷ xs) = EachTyped (p + 1) xs
  EachTyped p (Some s ∷ xs) = SiteTyped p s × EachTyped (p + 1) xs

  each_at : (xs : Sites) (p q r : ℕ) (s : Site) → r ≡ p + q → EachTyped p xs → slice_get xs q ≡ Some (Some s) → SiteTyped r s
  each_at [] p q r s e h at = absurd cc
  each_at (None ∷ xs) p zero r s e h at = absurd cc
  each_at (None ∷ xs) p (suc q) r s e h at = each_at xs (p + 1) q r s (omega arith) h at
  each_at (Some x ∷ xs) p zero r s e h at = let f : r ≡ p = omega arith in let g : x ≡ s = cc in rw f (subst (λ z. SiteTyped p z) g h.0)
  each_at (Some x ∷ xs) p (suc q) r s e h at = each_at xs (p + 1) q r s (omega arith) h.1 at

  each_append : (xs ys : Sites) (p q : ℕ) → q ≡ p + length xs → EachTyped p xs → EachTyped q ys → EachTyped p (xs ++ ys)
  each_append [] ys p q e h g = let f : q ≡ p = omega arith in subst (λ n. EachTyped n ys) f g
  each_append (None ∷ xs) ys p q e h g = each_append xs ys (p + 1) q (omega arith) h g
  each_append (Some s ∷ xs) ys p q e h g = (h.0, each_append xs ys (p + 1) q (omega arith) h.1 g)

  each_nones : (n p : ℕ) → EachTyped p (replicate n None)
  each_nones zero p = tt
  each_nones (suc n) p = each_nones n (p + 1)

  kind_there : (kind : Option ValType) (n : Node) (k : ValType) → HasKind T kind n → kind ≡ Some k → T n ≡ k
  kind_there None n k h e = absurd cc
  kind_there (Some j) n k h e = let g : j ≡ k = cc in subst (λ z. T n ≡ z) g h

  left_same : (op o : Instr) (k : ValType) (names : List Node) (p : ℕ) → DoHead op ≡ DoHead o
      → HasResultType c T op (take (takes (callees c.inside) op) names) (At p) → Types c o (map T (take (takes (callees c.inside) o) names)) (k ∷ [])
      → T (At p) ≡ k
  left_same op o k names p e ty h = let g : o ≡ op = cc in ty k (subst (λ z. Types c z (map T (take (takes (callees c.inside) z) names)) (k ∷ [])) g h)

  each_live : (code : Marked) (ctx : List Label) (k : Node) (p : ℕ) (names : List Node) → TypesLive c T code p names
      → EachTyped p (sites (callees c.inside) ctx k code p names)
  each_live End ctx k p names ty = tt
  each_live (Do m op rest) ctx k p names ty = (
    record { left = λ o v e h. left_same op o v names p e ty.0 h; result = λ v h. absurd h },
    each_live rest ctx k (p + 1) (made (callees c.inside) p op names) ty.1,
  )
  each_live (Block m kind body rest) ctx k p names ty =
      let cs = callees c.inside in
      let e = p + 1 + size body in
      let L = block_label p (arity kind) e in (
        record { left = λ o v f h. absurd cc; result = λ v f. kind_there kind (Join p) v ty.0 f },
        each_append (sites cs (L ∷ ctx) (Join p) body (p + 1) []) (sites cs ctx k rest e (named (arity kind) (Join p) names)) (p + 1) e (omega (arith, length-sites cs body (L ∷ ctx) (Join p) (p + 1) []))
            (each_live body (L ∷ ctx) (Join p) (p + 1) [] ty.1) (each_live rest ctx k e (named (arity kind) (Join p) names) ty.2),
      )
  each_live (Loop m kind body rest) ctx k p names ty =
      let cs = callees c.inside in
      let e = p + 1 + size body in
      let L = loop_label p e in (
        record { left = λ o v f h. absurd cc; result = λ v f. kind_there kind (Join p) v ty.0 f },
        each_append (sites cs (L ∷ ctx) (Join p) body (p + 1) []) (sites cs ctx k rest e (named (arity kind) (Join p) names)) (p + 1) e (omega (arith, length-sites cs body (L ∷ ctx) (Join p) (p + 1) []))
            (each_live body (L ∷ ctx) (Join p) (p + 1) [] ty.1) (each_live rest ctx k e (named (arity kind) (Join p) names) ty.2),
      )
  each_live (If m kind x y rest) ctx k p names ty =
      let cs = callees c.inside in
      let f = p + 1 + size x in
      let e = p + 1 + size x + size y in
      let L = block_label p (arity kind) e in
      let xs = sites cs (L ∷ ctx) (Join p) x (p + 1) [] in
      let ys = sites cs (L ∷ ctx) (Join p) y f [] in
      let rs = sites cs ctx k rest e (named (arity kind) (Join p) (drop 1 names)) in (
        record { left = λ o v f h. absurd cc; result = λ v f. kind_there kind (Join p) v ty.0 f },
        each_append xs (ys ++ rs) (p + 1) f (omega (arith, length-sites cs x (L ∷ ctx) (Join p) (p + 1) [])) (each_live x (L ∷ ctx) (Join p) (p + 1) [] ty.1)
            (each_append ys rs f e (omega (arith, length-sites cs y (L ∷ ctx) (Join p) f [])) (each_live y (L ∷ ctx) (Join p) f [] ty.2) (each_live rest ctx k e (named (arity kind) (Join p) (drop 1 names)) ty.3)),
      )
  each_live (Br m l rest) ctx k p names ty = (record { left = λ o v f h. absurd cc; result = λ v h. absurd h }, each_nones (size rest) (p + 1))
  each_live (BrIf m l rest) ctx k p names ty =
      (record { left = λ o v f h. absurd cc; result = λ v h. absurd h }, each_live rest ctx k (p + 1) (drop 1 names) ty)
  each_live (BrTable m labels other rest) ctx k p names ty =
      (record { left = λ o v f h. absurd cc; result = λ v h. absurd h }, each_nones (size rest) (p + 1))
  each_live (Return m rest) ctx k p names ty = (record { left = λ o v f h. absurd cc; result = λ v h. absurd h }, each_nones (size rest) (p + 1))
  each_live (Unreachable m rest) ctx k p names ty = (record { left = λ o v f h. absurd cc; result = λ v h. absurd h }, each_nones (size rest) (p + 1))

  pub places_of : (n : ℕ) (code : Marked) → TypesLive c T code 0 [] → TypesPlaces c (body_sites (callees c.inside) n code) T
  places_of n code ty =
      let S = body_sites (callees c.inside) n code in
      let all = each_live code (body_label n (size code) ∷ []) Exit 0 [] ty in
      let there = λ (p : ℕ) (s : Site) (is : IsSite S p s). each_at S 0 p p s (omega arith) all is in
      record { left = λ p s op k is e h. (there p s is).left op k e h; result = λ p s k is h. (there p s is).result k h }
