-- The marks of a cut: the criterion is watched in it, at one position.
use Rattle.std.proofs.Common.{◌≡◌, ℕ, zero, suc, ◌+◌, ◌<◌, inr, List, [], ◌∷◌, ◌++◌, Bool, true, false, Option, Some, None, nat_eq, take, drop, length, refl, sym, ap, ap₂, ◌∙◌, subst, arith, true≢false, length-append, eq-eqb}
use Rattle.wasm_types.specs.Marked.{Marked, End, Do, Block, Loop, If, Br, BrIf, BrTable, Return, Unreachable, size, unmarked, plain, marked, marks, first_mark}
use Rattle.wasm_types.specs.declared.instr.Instr.{Instr}
use Rattle.wasm_types.specs.declared.module.ValType.{ValType}
use Rattle.wasm_types.specs.declared.place.Loc.{Loc}
use Rattle.flow_domain.specs.Bounds.{Cover}
use Rattle.wasm_meaning.specs.Effects.{Fixed, Calls}
use Rattle.wasm_types.specs.Actions.{callees, takes, leaves}
use Rattle.wasm_types.specs.Labels.{arity, Label}
use Rattle.wasm_types.specs.declared.place.Node.{Node}
use Rattle.wasm_types.specs.Nodes.{At, Join, named, made}
use Rattle.wasm_types.specs.Sites.{OneOf}
use Rattle.flow_domain.specs.Cut.{pick, one_more, shown, zero_const, drops, zeros, filler, result_of, cut}
use Rattle.flow_laws.proofs.Closed.{Cuts, Dark, Closed}
use Rattle.flow_laws.proofs.Falls.{dark-sub}
use Rattle.wasm_types.specs.Code.{count}

-- how many marks there are
abbrev pub trues : List Bool → ℕ
trues [] = 0
trues (m ∷ ms) = one_more m (trues ms)

-- the marks of live positions
abbrev pub live_marks : Marked → List Bool
live_marks End = []
live_marks (Do m op rest) = m ∷ live_marks rest
live_marks (Block m kind body rest) = m ∷ (live_marks body ++ live_marks rest)
live_marks (Loop m kind body rest) = m ∷ (live_marks body ++ live_marks rest)
live_marks (If m kind x y rest) = m ∷ (live_marks x ++ (live_marks y ++ live_marks rest))
live_marks (Br m l rest) = m ∷ []
live_marks (BrIf m l rest) = m ∷ live_marks rest
live_marks (BrTable m labels other rest) = m ∷ []
live_marks (Return m rest) = m ∷ []
live_marks (Unreachable m rest) = m ∷ []

-- the marks of the positions from p on are those of w
abbrev pub Pointwise : (ℕ → Bool) → ℕ → List Bool → Type 0
Pointwise w p [] = Unit {0}
Pointwise w p (m ∷ ms) = (m ≡ w p) × Pointwise w (p + 1) ms

pub pointwise-split : (w : ℕ → Bool) (p q : ℕ) (xs ys : List Bool) → q ≡ p + length xs → Pointwise w p (xs ++ ys) → Pointwise w p xs × Pointwise w q ys
pointwise-split w p q [] ys e h = let f : p ≡ q = omega arith in (tt, subst (λ z. Pointwise w z ys) f h)
pointwise-split w p q (x ∷ xs) ys e h = let a = pointwise-split w (p + 1) q xs ys (omega arith) h.1 in ((h.0, a.0), a.1)

same_number : (a b : ℕ) → a ≡ b → nat_eq a b ≡ true
same_number a b e = eq-eqb a b e

other_number : (a b : ℕ) → a < b → nat_eq b a ≡ false
other_number a b lt = grind arith

trues-none : (w : ℕ) (p : ℕ) (ms : List Bool) → trues ms ≡ 0 → w < p → Pointwise (nat_eq w) p ms
trues-none w p [] e lt = tt
trues-none w p (true ∷ ms) e lt = absurd (omega arith)
trues-none w p (false ∷ ms) e lt = (sym (earlier_number w p lt), trues-none w (p + 1) ms e (omega arith))
  where
    earlier_number : (a b : ℕ) → a < b → nat_eq a b ≡ false
    earlier_number a b lt = grind arith

-- where there is one mark, it is the first
pub one_mark : (p w : ℕ) (ms : List Bool) → trues ms ≡ 1 → w ≡ p + first_mark ms → Pointwise (nat_eq w) p ms
one_mark p w [] e q = tt
one_mark p w (true ∷ ms) e q = (sym (same_number w p (omega arith)), trues-none w (p + 1) ms (omega arith) (omega arith))
one_mark p w (false ∷ ms) e q = (sym (other_number p w (omega arith)), one_mark (p + 1) w ms e (omega arith))

pub length-marks : (c : Marked) → length (marks c) ≡ size c
length-marks End = refl
length-marks (Do m op rest) = omega (arith, length-marks rest)
length-marks (Block m kind body rest) = omega (arith, length-marks body, length-marks rest, length-append (marks body) (marks rest))
length-marks (Loop m kind body rest) = omega (arith, length-marks body, length-marks rest, length-append (marks body) (marks rest))
length-marks (If m kind x y rest) =
    omega (arith, length-marks x, length-marks y, length-marks rest, length-append (marks x) (marks y ++ marks rest), length-append (marks y) (marks rest))
length-marks (Br m l rest) = omega (arith, length-marks rest)
length-marks (BrIf m l rest) = omega (arith, length-marks rest)
length-marks (BrTable m labels other rest) = omega (arith, length-marks rest)
length-marks (Return m rest) = omega (arith, length-marks rest)
length-marks (Unreachable m rest) = omega (arith, length-marks rest)

pub count-unmarked : (c : Marked) → count (unmarked c) ≡ size c
count-unmarked End = refl
count-unmarked (Do m op rest) = omega (arith, count-unmarked rest)
count-unmarked (Block m kind body rest) = omega (arith, count-unmarked body, count-unmarked rest)
count-unmarked (Loop m kind body rest) = omega (arith, count-unmarked body, count-unmarked rest)
count-unmarked (If m kind x y rest) = omega (arith, count-unmarked x, count-unmarked y, count-unmarked rest)
count-unmarked (Br m l rest) = omega (arith, count-unmarked rest)
count-unmarked (BrIf m l rest) = omega (arith, count-unmarked rest)
count-unmarked (BrTable m labels other rest) = omega (arith, count-unmarked rest)
count-unmarked (Return m rest) = omega (arith, count-unmarked rest)
count-unmarked (Unreachable m rest) = omega (arith, count-unmarked rest)

-- each instruction stands by its kind
abbrev pub IsKind : Instr → Type 0
IsKind op = (m : Bool) (rest : Marked) → plain m op rest ≡ Do m op rest

abbrev pub ByKind : Marked → Type 0
ByKind End = Unit {0}
ByKind (Do m op rest) = IsKind op × ByKind rest
ByKind (Block m kind body rest) = ByKind body × ByKind rest
ByKind (Loop m kind body rest) = ByKind body × ByKind rest
ByKind (If m kind x y rest) = ByKind x × ByKind y × ByKind rest
ByKind (Br m l rest) = ByKind rest
ByKind (BrIf m l rest) = ByKind rest
ByKind (BrTable m labels other rest) = ByKind rest
ByKind (Return m rest) = ByKind rest
ByKind (Unreachable m rest) = ByKind rest

-- a sequence without its marks, marked as it was
pub marked_again : (w : ℕ → Bool) (c : Marked) (p : ℕ) → ByKind c → Pointwise w p (marks c) → marked w p (unmarked c) ≡ c
marked_again w End p k a = refl
marked_again w (Do m op rest) p k a =
    k.0 (w p) (marked w (p + 1) (unmarked rest)) ∙ ap₂ {A = Bool} {B = Marked} (λ x y. Do x op y) (sym a.0) (marked_again w rest (p + 1) k.1 a.1)
marked_again w (Block m kind body rest) p k a =
    let e : p + 1 + count (unmarked body) ≡ p + 1 + size body = omega (arith, count-unmarked body) in
    let s = pointwise-split w (p + 1) (p + 1 + count (unmarked body)) (marks body) (marks rest) (omega (arith, length-marks body, count-unmarked body)) a.1 in
    ap (λ z. Block z kind (marked w (p + 1) (unmarked body)) (marked w (p + 1 + count (unmarked body)) (unmarked rest))) (sym a.0)
    ∙ ap₂ {A = Marked} {B = Marked} (λ x y. Block m kind x y) (marked_again w body (p + 1) k.0 s.0) (marked_again w rest _ k.1 s.1)
marked_again w (Loop m kind body rest) p k a =
    let s = pointwise-split w (p + 1) (p + 1 + count (unmarked body)) (marks body) (marks rest) (omega (arith, length-marks body, count-unmarked body)) a.1 in
    ap (λ z. Loop z kind (marked w (p + 1) (unmarked body)) (marked w (p + 1 + count (unmarked body)) (unmarked rest))) (sym a.0)
    ∙ ap₂ {A = Marked} {B = Marked} (λ x y. Loop m kind x y) (marked_again w body (p + 1) k.0 s.0) (marked_again w rest _ k.1 s.1)
marked_again w (If m kind x y rest) p k a =
    let q = p + 1 + count (unmarked x) in
    let r = p + 1 + count (unmarked x) + count (unmarked y) in
    let s = pointwise-split w (p + 1) q (marks x) (marks y ++ marks rest) (omega (arith, length-marks x, count-unmarked x)) a.1 in
    let s2 = pointwise-split w q r (marks y) (marks rest) (omega (arith, length-marks y, count-unmarked y)) s.1 in
    ap (λ z. If z kind (marked w (p + 1) (unmarked x)) (marked w q (unmarked y)) (marked w r (unmarked rest))) (sym a.0)
    ∙ ap (λ z. If m kind z (marked w q (unmarked y)) (marked w r (unmarked rest))) (marked_again w x (p + 1) k.0 s.0)
    ∙ ap₂ {A = Marked} {B = Marked} (λ z v. If m kind x z v) (marked_again w y q k.1 s2.0) (marked_again w rest r k.2 s2.1)
marked_again w (Br m l rest) p k a = ap₂ {A = Bool} {B = Marked} (λ x y. Br x l y) (sym a.0) (marked_again w rest (p + 1) k a.1)
marked_again w (BrIf m l rest) p k a = ap₂ {A = Bool} {B = Marked} (λ x y. BrIf x l y) (sym a.0) (marked_again w rest (p + 1) k a.1)
marked_again w (BrTable m labels other rest) p k a = ap₂ {A = Bool} {B = Marked} (λ x y. BrTable x labels other y) (sym a.0) (marked_again w rest (p + 1) k a.1)
marked_again w (Return m rest) p k a = ap₂ {A = Bool} {B = Marked} (λ x y. Return x y) (sym a.0) (marked_again w rest (p + 1) k a.1)
marked_again w (Unreachable m rest) p k a = ap₂ {A = Bool} {B = Marked} (λ x y. Unreachable x y) (sym a.0) (marked_again w rest (p + 1) k a.1)

-- ---- the marks of a cut

pub trues-append : (xs ys : List Bool) → trues (xs ++ ys) ≡ trues xs + trues ys
trues-append [] ys = omega arith
trues-append (true ∷ xs) ys = omega (arith, trues-append xs ys)
trues-append (false ∷ xs) ys = trues-append xs ys

trues-drops : (n : ℕ) (c : Marked) → trues (marks (drops n c)) ≡ trues (marks c)
trues-drops zero c = refl
trues-drops (suc n) c = trues-drops n c

trues-zeros : (t : Option ValType) (c : Marked) → trues (marks (zeros t c)) ≡ trues (marks c)
trues-zeros None c = refl
trues-zeros (Some t) c = refl

trues-pick : (q : Bool) (t : ValType) (c : Marked) → trues (marks (pick q (Do false (zero_const t) c) c)) ≡ trues (marks c)
trues-pick true t c = refl
trues-pick false t c = refl

trues-filler : (P : Node → Bool) (t : Option ValType) (n : Node) (c : Marked) → trues (marks (filler P t n c)) ≡ trues (marks c)
trues-filler P None n c = refl
trues-filler P (Some t) n c = trues-pick (P n) t c

-- a branch that goes leaves no mark
trues-gone : (P : Node → Bool) (t : Option ValType) (names : List Node) → trues (marks (drops (shown P names) (zeros t End))) ≡ 0
trues-gone P t names = trues-drops (shown P names) (zeros t End) ∙ trues-zeros t End

not_marked : (K : Node → Bool) (p : ℕ) (m : Bool) → (m ≡ true → K (At p) ≡ true) → K (At p) ≡ false → m ≡ false
not_marked K p true f off = absurd (true≢false (sym (f refl) ∙ off))
not_marked K p false f off = refl

one_more-on : (m : Bool) (a b : ℕ) → a ≡ b → one_more m a ≡ one_more m b
one_more-on m a b e = ap (one_more m) e

one_more-off : (m : Bool) (a b : ℕ) → m ≡ false → a ≡ b → a ≡ one_more m b
one_more-off true a b off e = absurd (true≢false off)
one_more-off false a b off e = e

last_label : (labels : List ℕ) (other : ℕ) → OneOf labels other other
last_label [] other = refl
last_label (l ∷ ls) other = inr (last_label ls other)

by_pick : (q : Bool) (a b : Marked) (n : ℕ) → (q ≡ true → trues (marks a) ≡ n) → (q ≡ false → trues (marks b) ≡ n) → trues (marks (pick q a b)) ≡ n
by_pick true a b n f g = f refl
by_pick false a b n f g = g refl

trues-both : (xs ys xs' ys' : List Bool) → trues xs ≡ trues xs' → trues ys ≡ trues ys' → trues (xs ++ ys) ≡ trues (xs' ++ ys')
trues-both xs ys xs' ys' e f = omega (arith, trues-append xs ys, trues-append xs' ys')

module _ (Z : Fixed) (W : Cover) (G : Calls → Type 0) (K M P : Node → Bool) (T : Node → ValType) (N : Node → Loc → Type 0) where
  -- where nothing is kept nothing is marked
  dark_marks : (c : Marked) (ctx : List Label) (o : Bool) (k : Node) (t p : ℕ) (names : List Node) → Closed Z W G Cuts K M P N ctx o k t c p names
      → Dark K p (p + size c) → trues (live_marks c) ≡ 0
  dark_marks End ctx o k t p names h d = refl
  dark_marks (Do m op rest) ctx o k t p names h d =
      sym
      (one_more-off m 0 _ (not_marked K p m h.0.marks (d p (omega arith) (omega arith)).0)
      (sym (dark_marks rest ctx o k t (p + 1) (made (callees Z.m) p op names) h.1 (dark-sub K p _ (p + 1) _ d (omega arith) (omega arith)))))
  dark_marks (Block m kind body rest) ctx o k t p names h d =
      let e = p + 1 + size body in
      let a = dark_marks body _ (K (At p)) (Join p) (arity kind) (p + 1) [] h.1 (dark-sub K p _ (p + 1) _ d (omega arith) (omega arith)) in
      let b = dark_marks rest ctx o k t e (named (arity kind) (Join p) names) h.2 (dark-sub K p _ e _ d (omega arith) (omega arith)) in
      sym
      (one_more-off m 0 _ (not_marked K p m h.0.marks (d p (omega arith) (omega arith)).0) (omega (arith, trues-append (live_marks body) (live_marks rest))))
  dark_marks (Loop m kind body rest) ctx o k t p names h d =
      let e = p + 1 + size body in
      let a = dark_marks body _ (K (At p)) (Join p) (arity kind) (p + 1) [] h.1 (dark-sub K p _ (p + 1) _ d (omega arith) (omega arith)) in
      let b = dark_marks rest ctx o k t e (named (arity kind) (Join p) names) h.2 (dark-sub K p _ e _ d (omega arith) (omega arith)) in
      sym
      (one_more-off m 0 _ (not_marked K p m h.0.marks (d p (omega arith) (omega arith)).0) (omega (arith, trues-append (live_marks body) (live_marks rest))))
  dark_marks (If m kind x y rest) ctx o k t p names h d =
      let f = p + 1 + size x in
      let e = p + 1 + size x + size y in
      let a = dark_marks x _ (K (At p)) (Join p) (arity kind) (p + 1) [] h.3 (dark-sub K p _ (p + 1) _ d (omega arith) (omega arith)) in
      let b = dark_marks y _ (K (At p)) (Join p) (arity kind) f [] h.4 (dark-sub K p _ f _ d (omega arith) (omega arith)) in
      let c = dark_marks rest ctx o k t e (named (arity kind) (Join p) (drop 1 names)) h.5 (dark-sub K p _ e _ d (omega arith) (omega arith)) in
      sym
      (one_more-off m 0 _ (not_marked K p m h.1.marks (d p (omega arith) (omega arith)).0)
      (omega (arith, trues-append (live_marks x) (live_marks y ++ live_marks rest), trues-append (live_marks y) (live_marks rest))))
  dark_marks (Br m l rest) ctx o k t p names h d = sym (one_more-off m 0 0 (not_marked K p m h.marks (d p (omega arith) (omega arith)).0) refl)
  dark_marks (BrIf m l rest) ctx o k t p names h d =
      sym
      (one_more-off m 0 _ (not_marked K p m h.1.marks (d p (omega arith) (omega arith)).0)
      (sym (dark_marks rest ctx o k t (p + 1) (drop 1 names) h.3 (dark-sub K p _ (p + 1) _ d (omega arith) (omega arith)))))
  dark_marks (BrTable m labels other rest) ctx o k t p names h d =
      sym (one_more-off m 0 0 (not_marked K p m (h.1 other (last_label labels other)).0.marks (d p (omega arith) (omega arith)).0) refl)
  dark_marks (Return m rest) ctx o k t p names h d = sym (one_more-off m 0 0 (not_marked K p m h.marks (d p (omega arith) (omega arith)).0) refl)
  dark_marks (Unreachable m rest) ctx o k t p names h d = sym (one_more-off m 0 0 (not_marked K p m h.0 (d p (omega arith) (omega arith)).0) refl)

  -- the cut has the marks of the live positions
  pub cut_marks : (c : Marked) (ctx : List Label) (o : Bool) (k : Node) (t : Option ValType) (p : ℕ) (names : List Node)
      → Closed Z W G Cuts K M P N ctx o k (arity t) c p names → trues (marks (cut (callees Z.m) K P T t c p names)) ≡ trues (live_marks c)
  cut_marks End ctx o k t p names h = refl
  cut_marks (Do m op rest) ctx o k t p names h =
      let a = cut_marks rest ctx o k t (p + 1) (made (callees Z.m) p op names) h.1 in
      by_pick (K (At p)) _ _ _ (λ on. one_more-on m _ _ a)
      (λ off. trues-drops (shown P (take (takes (callees Z.m) op) names)) _ ∙ trues-filler P (result_of (leaves (callees Z.m) op) (T (At p))) (At p) _ ∙ one_more-off m _ _ (not_marked K p m h.0.marks off) a)
  cut_marks (Block m kind body rest) ctx o k t p names h =
      let e = p + 1 + size body in
      let a = cut_marks body _ (K (At p)) (Join p) kind (p + 1) [] h.1 in
      let b = cut_marks rest ctx o k t e (named (arity kind) (Join p) names) h.2 in
      by_pick (K (At p)) _ _ _
      (λ on. one_more-on m _ _
      (trues-both (marks (cut (callees Z.m) K P T kind body (p + 1) [])) (marks (cut (callees Z.m) K P T t rest e (named (arity kind) (Join p) names))) (live_marks body) (live_marks rest) a b))
      (λ off.
      let d = dark_marks body _ (K (At p)) (Join p) (arity kind) (p + 1) [] h.1 (h.0.dark refl off) in
      trues-filler P kind (Join p) _
      ∙ one_more-off m _ _ (not_marked K p m h.0.marks off) (omega (arith, trues-append (live_marks body) (live_marks rest), b, d)))
  cut_marks (Loop m kind body rest) ctx o k t p names h =
      let e = p + 1 + size body in
      let a = cut_marks body _ (K (At p)) (Join p) kind (p + 1) [] h.1 in
      let b = cut_marks rest ctx o k t e (named (arity kind) (Join p) names) h.2 in
      by_pick (K (At p)) _ _ _
      (λ on. one_more-on m _ _
      (trues-both (marks (cut (callees Z.m) K P T kind body (p + 1) [])) (marks (cut (callees Z.m) K P T t rest e (named (arity kind) (Join p) names))) (live_marks body) (live_marks rest) a b))
      (λ off.
      let d = dark_marks body _ (K (At p)) (Join p) (arity kind) (p + 1) [] h.1 (h.0.dark refl off) in
      trues-filler P kind (Join p) _
      ∙ one_more-off m _ _ (not_marked K p m h.0.marks off) (omega (arith, trues-append (live_marks body) (live_marks rest), b, d)))
  cut_marks (If m kind x y rest) ctx o k t p names h =
      let f = p + 1 + size x in
      let e = p + 1 + size x + size y in
      let a = cut_marks x _ (K (At p)) (Join p) kind (p + 1) [] h.3 in
      let b = cut_marks y _ (K (At p)) (Join p) kind f [] h.4 in
      let c = cut_marks rest ctx o k t e (named (arity kind) (Join p) (drop 1 names)) h.5 in
      let cx = cut (callees Z.m) K P T kind x (p + 1) [] in
      let cy = cut (callees Z.m) K P T kind y f [] in
      let cr = cut (callees Z.m) K P T t rest e (named (arity kind) (Join p) (drop 1 names)) in
      by_pick (K (At p)) _ _ _
      (λ on. one_more-on m _ _
      (trues-both (marks cx) (marks cy ++ marks cr) (live_marks x) (live_marks y ++ live_marks rest) a (trues-both (marks cy) (marks cr) (live_marks y) (live_marks rest) b c)))
      (λ off.
      let dark = h.1.dark refl off in
      let d = dark_marks x _ (K (At p)) (Join p) (arity kind) (p + 1) [] h.3 (dark-sub K (p + 1) e (p + 1) f dark (omega arith) (omega arith)) in
      let d2 = dark_marks y _ (K (At p)) (Join p) (arity kind) f [] h.4 (dark-sub K (p + 1) e f e dark (omega arith) (omega arith)) in
      trues-drops (shown P (take 1 names)) _ ∙ trues-filler P kind (Join p) _
      ∙ one_more-off m _ _ (not_marked K p m h.1.marks off)
      (omega (arith, trues-append (live_marks x) (live_marks y ++ live_marks rest), trues-append (live_marks y) (live_marks rest), c, d, d2)))
  cut_marks (Br m l rest) ctx o k t p names h =
      by_pick (K (At p)) _ _ _ (λ on. refl) (λ off. trues-gone P t names ∙ one_more-off m 0 0 (not_marked K p m h.marks off) refl)
  cut_marks (BrIf m l rest) ctx o k t p names h =
      let a = cut_marks rest ctx o k t (p + 1) (drop 1 names) h.3 in
      by_pick (K (At p)) _ _ _ (λ on. one_more-on m _ _ a)
      (λ off. trues-drops (shown P (take 1 names)) _ ∙ one_more-off m _ _ (not_marked K p m h.1.marks off) a)
  cut_marks (BrTable m labels other rest) ctx o k t p names h =
      by_pick (K (At p)) _ _ _ (λ on. refl)
      (λ off. trues-gone P t names ∙ one_more-off m 0 0 (not_marked K p m (h.1 other (last_label labels other)).0.marks off) refl)
  cut_marks (Return m rest) ctx o k t p names h =
      by_pick (K (At p)) _ _ _ (λ on. refl) (λ off. trues-gone P t names ∙ one_more-off m 0 0 (not_marked K p m h.marks off) refl)
  cut_marks (Unreachable m rest) ctx o k t p names h =
      by_pick (K (At p)) _ _ _ (λ on. refl) (λ off. trues-gone P t names ∙ one_more-off m 0 0 (not_marked K p m h.0 off) refl)
