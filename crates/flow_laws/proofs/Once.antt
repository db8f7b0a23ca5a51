-- A watched position that is live is watched once.
use Rattle.std.proofs.Common.{◌≡◌, ℕ, zero, suc, ◌+◌, ◌<◌, List, [], ◌∷◌, ◌++◌, Bool, true, false, Option, Some, None, drop, length, replicate, nat_eq, refl, sym, ap, ap₂, ◌∙◌, subst, arith, eq-eqb}
use Rattle.wasm_types.specs.declared.instr.Instr.{Instr}
use Rattle.wasm_types.specs.declared.instr.Instr as instr
use Rattle.wasm_types.specs.declared.module.Body.{Body}
use Rattle.wasm_types.specs.declared.place.Node.{Node}
use Rattle.wasm_types.specs.Code.{Code, done, one, block, repeat, branch, count, code_of}
use Rattle.wasm_types.specs.Marked.{Marked, End, Do, Block, Loop, If, Br, BrIf, BrTable, Return, Unreachable, size, plain, marked, marks}
use Rattle.wasm_types.specs.Actions.{Callees}
use Rattle.wasm_types.specs.Nodes.{Join, named, made}
use Rattle.wasm_types.specs.Labels.{Label, block_label, loop_label, body_label, arity}
use Rattle.wasm_types.specs.declared.place.Node.TheVariants.{Exit}
use Rattle.wasm_types.specs.Sites.{Site, Sites, IsSite, sites, body_sites}
use Rattle.flow_domain.specs.Cut.{one_more}
use Rattle.flow_domain.specs.Sliced.{watched_once}
use Rattle.flow_laws.proofs.Bridge.{length-sites}
use Rattle.flow_laws.proofs.Marks.{trues, live_marks, Pointwise, pointwise-split, length-marks}

-- ---- the marks of code that is marked by number

marks_leaf : (m : Bool) (op : Instr) (rest : Marked) → marks (plain m op rest) ≡ m ∷ marks rest
marks_leaf m instr.Return rest = refl
marks_leaf m _ rest = refl

size_leaf : (m : Bool) (op : Instr) (rest : Marked) → size (plain m op rest) ≡ 1 + size rest
size_leaf m instr.Return rest = refl
size_leaf m _ rest = refl

size_marked : (w : ℕ → Bool) (c : Code) (p : ℕ) → size (marked w p c) ≡ count c
size_marked w done p = refl
size_marked w (one op rest) p = omega (arith, size_leaf (w p) op (marked w (p + 1) rest), size_marked w rest (p + 1))
size_marked w (block kind body rest) p = omega (arith, size_marked w body (p + 1), size_marked w rest (p + 1 + count body))
size_marked w (repeat kind body rest) p = omega (arith, size_marked w body (p + 1), size_marked w rest (p + 1 + count body))
size_marked w (branch kind x y rest) p =
    omega (arith, size_marked w x (p + 1), size_marked w y (p + 1 + count x), size_marked w rest (p + 1 + count x + count y))

length_marked : (w : ℕ → Bool) (c : Code) (p : ℕ) → length (marks (marked w p c)) ≡ count c
length_marked w c p = length-marks (marked w p c) ∙ size_marked w c p

pointwise-both : (w : ℕ → Bool) (p q : ℕ) (xs ys : List Bool) → q ≡ p + length xs → Pointwise w p xs → Pointwise w q ys → Pointwise w p (xs ++ ys)
pointwise-both w p q [] ys e a b = let f : q ≡ p = omega arith in subst (λ z. Pointwise w z ys) f b
pointwise-both w p q (x ∷ xs) ys e a b = (a.0, pointwise-both w (p + 1) q xs ys (omega arith) a.1 b)

pointwise_marked : (w : ℕ → Bool) (c : Code) (p : ℕ) → Pointwise w p (marks (marked w p c))
pointwise_marked w done p = tt
pointwise_marked w (one op rest) p = subst (Pointwise w p) (sym (marks_leaf (w p) op (marked w (p + 1) rest))) (refl, pointwise_marked w rest (p + 1))
pointwise_marked w (block kind body rest) p =
    let e = p + 1 + count body in (
      refl,
      pointwise-both w (p + 1) e (marks (marked w (p + 1) body)) (marks (marked w e rest)) (omega (arith, length_marked w body (p + 1)))
          (pointwise_marked w body (p + 1)) (pointwise_marked w rest e),
    )
pointwise_marked w (repeat kind body rest) p =
    let e = p + 1 + count body in (
      refl,
      pointwise-both w (p + 1) e (marks (marked w (p + 1) body)) (marks (marked w e rest)) (omega (arith, length_marked w body (p + 1)))
          (pointwise_marked w body (p + 1)) (pointwise_marked w rest e),
    )
pointwise_marked w (branch kind x y rest) p =
    let f = p + 1 + count x in
    let e = p + 1 + count x + count y in (
      refl,
      pointwise-both w (p + 1) f (marks (marked w (p + 1) x)) (marks (marked w f y) ++ marks (marked w e rest)) (omega (arith, length_marked w x (p + 1)))
          (pointwise_marked w x (p + 1))
          (pointwise-both w f e (marks (marked w f y)) (marks (marked w e rest)) (omega (arith, length_marked w y f)) (pointwise_marked w y f) (pointwise_marked w rest e)),
    )

-- ---- the marks of sites

abbrev site_marks : Sites → List Bool
site_marks [] = []
site_marks (None ∷ xs) = site_marks xs
site_marks (Some s ∷ xs) = s.mark ∷ site_marks xs

abbrev MarksAre : (ℕ → Bool) → ℕ → Sites → Type 0
MarksAre w p [] = Unit {0}
MarksAre w p (None ∷ xs) = MarksAre w (p + 1) xs
MarksAre w p (Some s ∷ xs) = (s.mark ≡ w p) × MarksAre w (p + 1) xs

site_marks-append : (xs ys : Sites) → site_marks (xs ++ ys) ≡ site_marks xs ++ site_marks ys
site_marks-append [] ys = refl
site_marks-append (None ∷ xs) ys = site_marks-append xs ys
site_marks-append (Some s ∷ xs) ys = ap (λ z. s.mark ∷ z) (site_marks-append xs ys)

site_marks-dead : (n : ℕ) → site_marks (replicate {A = Option Site} n None) ≡ []
site_marks-dead zero = refl
site_marks-dead (suc n) = site_marks-dead n

marks_are-append : (w : ℕ → Bool) (p q : ℕ) (xs ys : Sites) → q ≡ p + length xs → MarksAre w p xs → MarksAre w q ys → MarksAre w p (xs ++ ys)
marks_are-append w p q [] ys e a b = let f : q ≡ p = omega arith in subst (λ z. MarksAre w z ys) f b
marks_are-append w p q (None ∷ xs) ys e a b = marks_are-append w (p + 1) q xs ys (omega arith) a b
marks_are-append w p q (Some s ∷ xs) ys e a b = (a.0, marks_are-append w (p + 1) q xs ys (omega arith) a.1 b)

marks_are-dead : (w : ℕ → Bool) (p n : ℕ) → MarksAre w p (replicate {A = Option Site} n None)
marks_are-dead w p zero = tt
marks_are-dead w p (suc n) = marks_are-dead w (p + 1) n

both_marks : (xs ys : Sites) (ms ns : List Bool) → site_marks xs ≡ ms → site_marks ys ≡ ns → site_marks (xs ++ ys) ≡ ms ++ ns
both_marks xs ys ms ns a b = site_marks-append xs ys ∙ ap₂ {A = List Bool} {B = List Bool} (λ x y. x ++ y) a b

-- those of live positions
marks_of : (cs : Callees) (c : Marked) (ctx : List Label) (k : Node) (p : ℕ) (names : List Node) → site_marks (sites cs ctx k c p names) ≡ live_marks c
marks_of cs End ctx k p names = refl
marks_of cs (Do m op rest) ctx k p names = ap (λ z. m ∷ z) (marks_of cs rest ctx k (p + 1) (made cs p op names))
marks_of cs (Block m r body rest) ctx k p names =
    let e = p + 1 + size body in
    let bs = sites cs (block_label p (arity r) e ∷ ctx) (Join p) body (p + 1) [] in
    let rs = sites cs ctx k rest e (named (arity r) (Join p) names) in
    ap (λ z. m ∷ z)
    (both_marks bs rs (live_marks body) (live_marks rest) (marks_of cs body (block_label p (arity r) e ∷ ctx) (Join p) (p + 1) [])
    (marks_of cs rest ctx k e (named (arity r) (Join p) names)))
marks_of cs (Loop m r body rest) ctx k p names =
    let e = p + 1 + size body in
    let bs = sites cs (loop_label p e ∷ ctx) (Join p) body (p + 1) [] in
    let rs = sites cs ctx k rest e (named (arity r) (Join p) names) in
    ap (λ z. m ∷ z)
    (both_marks bs rs (live_marks body) (live_marks rest) (marks_of cs body (loop_label p e ∷ ctx) (Join p) (p + 1) [])
    (marks_of cs rest ctx k e (named (arity r) (Join p) names)))
marks_of cs (If m r x y rest) ctx k p names =
    let f = p + 1 + size x in
    let e = p + 1 + size x + size y in
    let L = block_label p (arity r) e in
    let xs = sites cs (L ∷ ctx) (Join p) x (p + 1) [] in
    let ys = sites cs (L ∷ ctx) (Join p) y f [] in
    let rs = sites cs ctx k rest e (named (arity r) (Join p) (drop 1 names)) in
    ap (λ z. m ∷ z)
    (both_marks xs (ys ++ rs) (live_marks x) (live_marks y ++ live_marks rest) (marks_of cs x (L ∷ ctx) (Join p) (p + 1) [])
    (both_marks ys rs (live_marks y) (live_marks rest) (marks_of cs y (L ∷ ctx) (Join p) f []) (marks_of cs rest ctx k e (named (arity r) (Join p) (drop 1 names)))))
marks_of cs (Br m l rest) ctx k p names = ap (λ z. m ∷ z) (site_marks-dead (size rest))
marks_of cs (BrIf m l rest) ctx k p names = ap (λ z. m ∷ z) (marks_of cs rest ctx k (p + 1) (drop 1 names))
marks_of cs (BrTable m labels other rest) ctx k p names = ap (λ z. m ∷ z) (site_marks-dead (size rest))
marks_of cs (Return m rest) ctx k p names = ap (λ z. m ∷ z) (site_marks-dead (size rest))
marks_of cs (Unreachable m rest) ctx k p names = ap (λ z. m ∷ z) (site_marks-dead (size rest))

marks_at : (cs : Callees) (w : ℕ → Bool) (c : Marked) (ctx : List Label) (k : Node) (p : ℕ) (names : List Node) → Pointwise w p (marks c)
    → MarksAre w p (sites cs ctx k c p names)
marks_at cs w End ctx k p names h = tt
marks_at cs w (Do m op rest) ctx k p names h = (h.0, marks_at cs w rest ctx k (p + 1) (made cs p op names) h.1)
marks_at cs w (Block m r body rest) ctx k p names h =
    let e = p + 1 + size body in
    let bs = sites cs (block_label p (arity r) e ∷ ctx) (Join p) body (p + 1) [] in
    let rs = sites cs ctx k rest e (named (arity r) (Join p) names) in
    let s = pointwise-split w (p + 1) e (marks body) (marks rest) (omega (arith, length-marks body)) h.1 in (
      h.0,
      marks_are-append w (p + 1) e bs rs (omega (arith, length-sites cs body (block_label p (arity r) e ∷ ctx) (Join p) (p + 1) []))
          (marks_at cs w body (block_label p (arity r) e ∷ ctx) (Join p) (p + 1) [] s.0) (marks_at cs w rest ctx k e (named (arity r) (Join p) names) s.1),
    )
marks_at cs w (Loop m r body rest) ctx k p names h =
    let e = p + 1 + size body in
    let bs = sites cs (loop_label p e ∷ ctx) (Join p) body (p + 1) [] in
    let rs = sites cs ctx k rest e (named (arity r) (Join p) names) in
    let s = pointwise-split w (p + 1) e (marks body) (marks rest) (omega (arith, length-marks body)) h.1 in (
      h.0,
      marks_are-append w (p + 1) e bs rs (omega (arith, length-sites cs body (loop_label p e ∷ ctx) (Join p) (p + 1) []))
          (marks_at cs w body (loop_label p e ∷ ctx) (Join p) (p + 1) [] s.0) (marks_at cs w rest ctx k e (named (arity r) (Join p) names) s.1),
    )
marks_at cs w (If m r x y rest) ctx k p names h =
    let f = p + 1 + size x in
    let e = p + 1 + size x + size y in
    let L = block_label p (arity r) e in
    let xs = sites cs (L ∷ ctx) (Join p) x (p + 1) [] in
    let ys = sites cs (L ∷ ctx) (Join p) y f [] in
    let rs = sites cs ctx k rest e (named (arity r) (Join p) (drop 1 names)) in
    let a = pointwise-split w (p + 1) f (marks x) (marks y ++ marks rest) (omega (arith, length-marks x)) h.1 in
    let b = pointwise-split w f e (marks y) (marks rest) (omega (arith, length-marks y)) a.1 in (
      h.0,
      marks_are-append w (p + 1) f xs (ys ++ rs) (omega (arith, length-sites cs x (L ∷ ctx) (Join p) (p + 1) []))
          (marks_at cs w x (L ∷ ctx) (Join p) (p + 1) [] a.0)
          (marks_are-append w f e ys rs (omega (arith, length-sites cs y (L ∷ ctx) (Join p) f [])) (marks_at cs w y (L ∷ ctx) (Join p) f [] b.0) (marks_at cs w rest ctx k e (named (arity r) (Join p) (drop 1 names)) b.1)),
    )
marks_at cs w (Br m l rest) ctx k p names h = (h.0, marks_are-dead w (p + 1) (size rest))
marks_at cs w (BrIf m l rest) ctx k p names h = (h.0, marks_at cs w rest ctx k (p + 1) (drop 1 names) h.1)
marks_at cs w (BrTable m labels other rest) ctx k p names h = (h.0, marks_are-dead w (p + 1) (size rest))
marks_at cs w (Return m rest) ctx k p names h = (h.0, marks_are-dead w (p + 1) (size rest))
marks_at cs w (Unreachable m rest) ctx k p names h = (h.0, marks_are-dead w (p + 1) (size rest))

-- ---- one of them

here_on : (i p : ℕ) → i ≡ p → nat_eq i p ≡ true
here_on i p e = eq-eqb i p e

before_off : (i p : ℕ) → i < p → nat_eq i p ≡ false
before_off i p lt = grind arith

after_off : (i p : ℕ) → p < i → nat_eq i p ≡ false
after_off i p lt = grind arith

marked_off : (m : Bool) (n k : ℕ) → m ≡ false → n ≡ k → one_more m n ≡ k
marked_off m n k e q = rw e q

marked_on : (m : Bool) (n : ℕ) → m ≡ true → n ≡ 0 → one_more m n ≡ 1
marked_on m n e q = rw e (ap suc q)

none_past : (i p : ℕ) (xs : Sites) → i < p → MarksAre (nat_eq i) p xs → trues (site_marks xs) ≡ 0
none_past i p [] lt h = refl
none_past i p (None ∷ xs) lt h = none_past i (p + 1) xs (omega arith) h
none_past i p (Some s ∷ xs) lt h = marked_off s.mark _ 0 (h.0 ∙ before_off i p lt) (none_past i (p + 1) xs (omega arith) h.1)

no_site : {A : Type 0} (s : Site) → None ≡ Some (Some s) → A
no_site s e = absurd cc

dead_site : {A : Type 0} (s : Site) → Some None ≡ Some (Some s) → A
dead_site s e = absurd cc

one_at : (i k p : ℕ) (xs : Sites) (s : Site) → i ≡ p + k → IsSite xs k s → MarksAre (nat_eq i) p xs → trues (site_marks xs) ≡ 1
one_at i k p [] s e is h = no_site s is
one_at i zero p (None ∷ xs) s e is h = dead_site s is
one_at i (suc k) p (None ∷ xs) s e is h = one_at i k (p + 1) xs s (omega arith) is h
one_at i zero p (Some t ∷ xs) s e is h = marked_on t.mark _ (h.0 ∙ here_on i p (omega arith)) (none_past i (p + 1) xs (omega arith) h.1)
one_at i (suc k) p (Some t ∷ xs) s e is h = marked_off t.mark _ 1 (h.0 ∙ after_off i p (omega arith)) (one_at i k (p + 1) xs s (omega arith) is h.1)

pub one_watched : (cs : Callees) (t : ℕ) (b : Body) (i : ℕ) (s : Site) → IsSite (body_sites cs t (watched_once b i)) i s
    → trues (live_marks (watched_once b i)) ≡ 1
one_watched cs t b i s is =
    let c = watched_once b i in
    let ctx = body_label t (size c) ∷ [] in
    ap trues (sym (marks_of cs c ctx Exit 0 []))
    ∙ one_at i i 0 (body_sites cs t c) s (omega arith) is (marks_at cs (nat_eq i) c ctx Exit 0 [] (pointwise_marked (nat_eq i) (code_of b.code) 0))
