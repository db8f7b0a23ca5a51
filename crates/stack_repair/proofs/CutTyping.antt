-- The cut of typed code is typed: its stack has the types of the present places.
use Rattle.std.proofs.Common.{◌≡◌, ℕ, zero, suc, ◌+◌, List, [], ◌∷◌, ◌++◌, map, Bool, true, false, Option, Some, None, take, drop, length, slice_get, refl, ap, ◌∙◌, subst}
use Rattle.wasm_types.specs.declared.module.ValType.{ValType}
use Rattle.wasm_types.specs.declared.module.ValType.TheVariants.{I32, I64, F32, F64}
use Rattle.wasm_types.specs.declared.instr.Instr.{Drop}
use Rattle.wasm_types.specs.Marked.{Marked, End, Do, Block, Loop, If, Br, BrIf, BrTable, Return, Unreachable, unmarked, size}
use Rattle.wasm_types.specs.Typing.{Context}
use Rattle.wasm_types.specs.Validity.{values_of, Leads}
use Rattle.wasm_types.specs.Subset.{IsInteger, IsIntegerKind}
use Rattle.wasm_types.specs.Actions.{Callees, callees, takes, leaves}
use Rattle.wasm_types.specs.Labels.{arity, carried, outermost}
use Rattle.wasm_types.specs.declared.place.Node.{Node}
use Rattle.wasm_types.specs.Nodes.{At, Join, named, made, AllIn}
use Rattle.flow_domain.specs.Cut.{pick, one_more, shown, zero_const, drops, zeros, filler, result_of, cut}
use Rattle.stack_repair.proofs.Live.{HasKind}
use Rattle.flow_domain.proofs.Shapes.{Integers, passes_of}
use Rattle.stack_repair.proofs.Typed.{Carries, HasTest, KindTyped, Typed}

-- ---- the slice's stack

abbrev pub keep : Bool → ValType → List ValType → List ValType
keep true t s = t ∷ s
keep false t s = s

-- the types of the present places among these names
abbrev pub shown_types : (P : Node → Bool) → (Node → ValType) → List Node → List ValType
shown_types P T [] = []
shown_types P T (d ∷ names) = keep (P d) (T d) (shown_types P T names)

-- ---- what has to be present

-- Operands and results of kept instructions, what is left at the ends of kept blocks, loops and arms, and at the end. Of what is in an unkept block
-- nothing is asked.
abbrev pub Shows : Callees → (K P : Node → Bool) → List ℕ → ℕ → Marked → ℕ → List Node → Type 0
Shows cs K P ls t End p names = AllIn P t names
Shows cs K P ls t (Do m op rest) p names =
    (K (At p) ≡ true → AllIn P (takes cs op) names × (P (At p) ≡ true)) × Shows cs K P ls t rest (p + 1) (made cs p op names)
Shows cs K P ls t (Block m kind body rest) p names =
    (K (At p) ≡ true → (P (Join p) ≡ true) × Shows cs K P (arity kind ∷ ls) (arity kind) body (p + 1) []) × Shows cs K P ls t rest (p + 1 + size body) (named (arity kind) (Join p) names)
Shows cs K P ls t (Loop m kind body rest) p names =
    (K (At p) ≡ true → (P (Join p) ≡ true) × Shows cs K P (0 ∷ ls) (arity kind) body (p + 1) []) × Shows cs K P ls t rest (p + 1 + size body) (named (arity kind) (Join p) names)
Shows cs K P ls t (If m kind x y rest) p names =
    (K (At p) ≡ true → AllIn P 1 names × (P (Join p) ≡ true) × Shows cs K P (arity kind ∷ ls) (arity kind) x (p + 1) [] × Shows cs K P (arity kind ∷ ls) (arity kind) y (p + 1 + size x) []) × Shows cs K P ls t rest (p + 1 + size x + size y) (named (arity kind) (Join p) (drop 1 names))
Shows cs K P ls t (Br m l rest) p names = K (At p) ≡ true → AllIn P (carried ls l) names
Shows cs K P ls t (BrIf m l rest) p names = (K (At p) ≡ true → AllIn P (suc (carried ls l)) names) × Shows cs K P ls t rest (p + 1) (drop 1 names)
Shows cs K P ls t (BrTable m labels other rest) p names = K (At p) ≡ true → AllIn P (suc (carried ls other)) names
Shows cs K P ls t (Return m rest) p names = K (At p) ≡ true → AllIn P (carried ls (outermost ls)) names
Shows cs K P ls t (Unreachable m rest) p names = Unit {0}

-- ---- labels

-- the labels' numbers of values are those of their types, and the outermost is the function's
pub record Labelled (ls : List ℕ) (Ls : List (List ValType)) (res : List ValType) : Type 0 where
  pub at : (l : ℕ) (t : List ValType) → slice_get Ls l ≡ Some t → carried ls l ≡ length t
  pub outer : (x : ℕ) → carried (x ∷ ls) (length ls) ≡ length res
  pub last : carried ls (outermost ls) ≡ length res

some_is : {x y : List ValType} → Some x ≡ Some y → x ≡ y
some_is e = cc

pub label_more : (ls : List ℕ) (Ls : List (List ValType)) (res : List ValType) (n : ℕ) (t : List ValType) → n ≡ length t → Labelled ls Ls res
    → Labelled (n ∷ ls) (t ∷ Ls) res
label_more ls Ls res n t e h = record {
  at = go;
  outer = λ x. h.outer n;
  last = h.outer n;
}
  where
    go : (l : ℕ) (u : List ValType) → slice_get (t ∷ Ls) l ≡ Some u → carried (n ∷ ls) l ≡ length u
    go zero u f = e ∙ ap length (some_is f)
    go (suc l) u f = h.at l u f

pub label_body : (res : List ValType) → Labelled (length res ∷ []) (res ∷ []) res
label_body res = record { at = go; outer = λ x. refl; last = refl }
  where
    go : (l : ℕ) (u : List ValType) → slice_get (res ∷ []) l ≡ Some u → carried (length res ∷ []) l ≡ length u
    go zero u f = ap length (some_is f)
    go (suc l) u f = absurd cc

pub arity-values : (kind : Option ValType) → arity kind ≡ length (values_of kind)
arity-values None = refl
arity-values (Some k) = refl

-- ---- present operands

shown_first : (P : Node → Bool) (T : Node → ValType) (n : ℕ) (names : List Node) → AllIn P n names
    → shown_types P T names ≡ map T (take n names) ++ shown_types P T (drop n names)
shown_first P T zero names a = refl
shown_first P T (suc n) [] a = absurd a
shown_first P T (suc n) (d ∷ names) a = ap (λ b. keep b (T d) (shown_types P T names)) a.0 ∙ ap (λ z. T d ∷ z) (shown_first P T n names a.1)

shown_carries : (P : Node → Bool) (T : Node → ValType) (n : ℕ) (s : List ValType) (names : List Node) → n ≡ length s → Carries T s names → AllIn P n names
    → shown_types P T names ≡ s ++ shown_types P T (drop (length s) names)
shown_carries P T n s names e c a =
    shown_first P T (length s) names (subst (λ z. AllIn P z names) e a) ∙ ap (λ z. z ++ shown_types P T (drop (length s) names)) c

shown_test : (P : Node → Bool) (T : Node → ValType) (n : ℕ) (names : List Node) → HasTest T names → AllIn P (suc n) names
    → (shown_types P T names ≡ I32 ∷ shown_types P T (drop 1 names)) × AllIn P n (drop 1 names)
shown_test P T n [] h a = absurd h
shown_test P T n (d ∷ names) h a = (ap (λ b. keep b (T d) (shown_types P T names)) a.0 ∙ ap (λ z. z ∷ shown_types P T names) h, a.1)

shown_made : (P : Node → Bool) (T : Node → ValType) (k : ℕ) (d : Node) (names : List Node) → P d ≡ true
    → shown_types P T (named k d names) ≡ map T (named k d []) ++ shown_types P T names
shown_made P T zero d names e = refl
shown_made P T (suc k) d names e = ap (λ b. keep b (T d) (shown_types P T names)) e

shown_kind : (P : Node → Bool) (T : Node → ValType) (kind : Option ValType) (d : Node) (names : List Node) → HasKind T kind d → P d ≡ true
    → shown_types P T (named (arity kind) d names) ≡ values_of kind ++ shown_types P T names
shown_kind P T None d names h e = refl
shown_kind P T (Some k) d names h e = ap (λ b. keep b (T d) (shown_types P T names)) e ∙ ap (λ z. z ∷ shown_types P T names) h

shown_end : (P : Node → Bool) (T : Node → ValType) (t : Option ValType) (names : List Node) → map T names ≡ values_of t → AllIn P (arity t) names
    → shown_types P T names ≡ values_of t
shown_end P T None [] e a = refl
shown_end P T None (d ∷ names) e a = absurd cc
shown_end P T (Some k) [] e a = absurd cc
shown_end P T (Some k) (d ∷ []) e a = ap (λ b. keep b (T d) []) a.0 ∙ e
shown_end P T (Some k) (d ∷ d' ∷ names) e a = absurd cc

-- ---- drops and zero constants

module _ (c : Context) (Ls : List (List ValType)) where
  -- the code leads from one stack to another
  abbrev pub From : Marked → List ValType → List ValType → Type 0
  From k s s' = Leads c Ls (unmarked k) s s'

  one_drop : (k : Marked) (t : ValType) (s s' : List ValType) → From k s s' → From (Do false Drop k) (t ∷ s) s'
  one_drop k t s s' h = (s, (t ∷ [], [], s, (t, (refl, refl)), refl, refl), h)

  drops_more : (P : Node → Bool) (b : Bool) (k : Marked) (t : ValType) (n : ℕ) (s s' : List ValType) → From (drops n k) s s'
      → From (drops (one_more b n) k) (keep b t s) s'
  drops_more P true k t n s s' h = one_drop (drops n k) t s s' h
  drops_more P false k t n s s' h = h

  -- the present among the first n go
  drops_first : (P : Node → Bool) (T : Node → ValType) (k : Marked) (n : ℕ) (names : List Node) (s' : List ValType)
      → From k (shown_types P T (drop n names)) s' → From (drops (shown P (take n names)) k) (shown_types P T names) s'
  drops_first P T k zero names s' h = h
  drops_first P T k (suc n) [] s' h = h
  drops_first P T k (suc n) (d ∷ names) s' h = drops_more P (P d) k (T d) (shown P (take n names)) (shown_types P T names) s' (drops_first P T k n names s' h)

  -- all present go
  drops_all : (P : Node → Bool) (T : Node → ValType) (k : Marked) (names : List Node) (s' : List ValType) → From k [] s'
      → From (drops (shown P names) k) (shown_types P T names) s'
  drops_all P T k [] s' h = h
  drops_all P T k (d ∷ names) s' h = drops_more P (P d) k (T d) (shown P names) (shown_types P T names) s' (drops_all P T k names s' h)

  one_zero : (k : Marked) (t : ValType) (s s' : List ValType) → IsInteger t → From k (t ∷ s) s' → From (Do false (zero_const t) k) s s'
  one_zero k I32 s s' i h = (I32 ∷ s, ([], I32 ∷ [], s, (refl, refl), refl, refl), h)
  one_zero k I64 s s' i h = (I64 ∷ s, ([], I64 ∷ [], s, (refl, refl), refl, refl), h)
  one_zero k F32 s s' i h = absurd i
  one_zero k F64 s s' i h = absurd i

  zeros_end : (t : Option ValType) → IsIntegerKind t → From (zeros t End) [] (values_of t)
  zeros_end None i = refl
  zeros_end (Some k) i = one_zero End k [] (k ∷ []) i refl

  pick_zero : (b : Bool) (k : Marked) (t u : ValType) (s s' : List ValType) → IsInteger t → u ≡ t → From k (keep b u s) s'
      → From (pick b (Do false (zero_const t) k) k) s s'
  pick_zero true k t u s s' i e h = one_zero k t s s' i (subst (λ z. From k (z ∷ s) s') e h)
  pick_zero false k t u s s' i e h = h

  fill_kind : (P : Node → Bool) (T : Node → ValType) (kind : Option ValType) (d : Node) (k : Marked) (names : List Node) (s' : List ValType)
      → KindTyped T kind d → From k (shown_types P T (named (arity kind) d names)) s' → From (filler P kind d k) (shown_types P T names) s'
  fill_kind P T None d k names s' h f = f
  fill_kind P T (Some t) d k names s' h f = pick_zero (P d) k t (T d) (shown_types P T names) s' h.0 h.1 f

  fill_result : (P : Node → Bool) (T : Node → ValType) (n : ℕ) (d : Node) (k : Marked) (names : List Node) (s' : List ValType)
      → Integers (map T (named n d [])) → From k (shown_types P T (named n d names)) s' → From (filler P (result_of n (T d)) d k) (shown_types P T names) s'
  fill_result P T zero d k names s' i f = f
  fill_result P T (suc n) d k names s' i f = pick_zero (P d) k (T d) (T d) (shown_types P T names) s' i.0 refl f

  either : (b : Bool) (x y : Marked) (s s' : List ValType) → (b ≡ true → From x s s') → (b ≡ false → From y s s') → From (pick b x y) s s'
  either true x y s s' f g = f refl
  either false x y s s' f g = g refl

  -- an unkept transfer
  falls : (P : Node → Bool) (T : Node → ValType) (t : Option ValType) (names : List Node) → IsIntegerKind t
      → From (drops (shown P names) (zeros t End)) (shown_types P T names) (values_of t)
  falls P T t names i = drops_all P T (zeros t End) names (values_of t) (zeros_end t i)

-- ---- a sequence

pub cut_leads : (c : Context) (K P : Node → Bool) (T : Node → ValType) (ls : List ℕ) (Ls : List (List ValType)) (t : Option ValType) (code : Marked) (p : ℕ) (names : List Node)
    → Labelled ls Ls c.result → IsIntegerKind t → Typed c T Ls t code p names → Shows (callees c.inside) K P ls (arity t) code p names
    → Leads c Ls (unmarked (cut (callees c.inside) K P T t code p names)) (shown_types P T names) (values_of t)
cut_leads c K P T ls Ls t End p names lab i ty sh = shown_end P T t names ty sh
cut_leads c K P T ls Ls t (Do m op rest) p names lab i ty sh =
    let cs = callees c.inside in
    let after = drop (takes cs op) names in
    let h = cut_leads c K P T ls Ls t rest (p + 1) (made cs p op names) lab i ty.1 sh.1 in
    either c Ls (K (At p)) _ _ _ _
    (λ on. let a = sh.0 on in
    (shown_types P T (made cs p op names), passes_of c Ls op _ _ (map T (take (takes cs op) names)) (map T (named (leaves cs op) (At p) [])) (shown_types P T after) ty.0.types (shown_first P T (takes cs op) names a.0) (shown_made P T (leaves cs op) (At p) after a.1), h))
    (λ off. drops_first c Ls P T _ (takes cs op) names _ (fill_result c Ls P T (leaves cs op) (At p) _ after _ ty.0.integer h))
cut_leads c K P T ls Ls t (Block m kind body rest) p names lab i ty sh =
    let h = cut_leads c K P T ls Ls t rest (p + 1 + size body) (named (arity kind) (Join p) names) lab i ty.2 sh.1 in
    either c Ls (K (At p)) _ _ _ _
    (λ on. let a = sh.0 on in (
      cut_leads c K P T (arity kind ∷ ls) (values_of kind ∷ Ls) kind body (p + 1) [] (label_more ls Ls c.result (arity kind) (values_of kind) (arity-values kind) lab) ty.0.0 ty.1 a.1,
      subst (λ z. From c Ls (cut (callees c.inside) K P T t rest (p + 1 + size body) (named (arity kind) (Join p) names)) z (values_of t)) (shown_kind P T kind (Join p) names ty.0.1 a.0) h,
    ))
    (λ off. fill_kind c Ls P T kind (Join p) _ names _ ty.0 h)
cut_leads c K P T ls Ls t (Loop m kind body rest) p names lab i ty sh =
    let h = cut_leads c K P T ls Ls t rest (p + 1 + size body) (named (arity kind) (Join p) names) lab i ty.2 sh.1 in
    either c Ls (K (At p)) _ _ _ _
    (λ on. let a = sh.0 on in (
      cut_leads c K P T (0 ∷ ls) ([] ∷ Ls) kind body (p + 1) [] (label_more ls Ls c.result 0 [] refl lab) ty.0.0 ty.1 a.1,
      subst (λ z. From c Ls (cut (callees c.inside) K P T t rest (p + 1 + size body) (named (arity kind) (Join p) names)) z (values_of t)) (shown_kind P T kind (Join p) names ty.0.1 a.0) h,
    ))
    (λ off. fill_kind c Ls P T kind (Join p) _ names _ ty.0 h)
cut_leads c K P T ls Ls t (If m kind x y rest) p names lab i ty sh =
    let h = cut_leads c K P T ls Ls t rest (p + 1 + size x + size y) (named (arity kind) (Join p) (drop 1 names)) lab i ty.4 sh.1 in
    let lab' = label_more ls Ls c.result (arity kind) (values_of kind) (arity-values kind) lab in
    either c Ls (K (At p)) _ _ _ _
    (λ on. let a = sh.0 on in (
      shown_types P T (drop 1 names),
      (shown_test P T 0 names ty.0 a.0).0,
      cut_leads c K P T (arity kind ∷ ls) (values_of kind ∷ Ls) kind x (p + 1) [] lab' ty.1.0 ty.2 a.2,
      cut_leads c K P T (arity kind ∷ ls) (values_of kind ∷ Ls) kind y (p + 1 + size x) [] lab' ty.1.0 ty.3 a.3,
      subst (λ z. From c Ls (cut (callees c.inside) K P T t rest (p + 1 + size x + size y) (named (arity kind) (Join p) (drop 1 names))) z (values_of t)) (shown_kind P T kind (Join p) (drop 1 names) ty.1.1 a.1) h,
    ))
    (λ off. drops_first c Ls P T _ 1 names _ (fill_kind c Ls P T kind (Join p) _ (drop 1 names) _ ty.1 h))
cut_leads c K P T ls Ls t (Br m l rest) p names lab i (v, at, cr) sh =
    either c Ls (K (At p)) _ _ _ _
    (λ on. (values_of t, (v, shown_types P T (drop (length v) names), at, shown_carries P T (carried ls l) v names (lab.at l v at) cr (sh on)), refl))
    (λ off. falls c Ls P T t names i)
cut_leads c K P T ls Ls t (BrIf m l rest) p names lab i (test, (v, at, cr), ty) sh =
    let h = cut_leads c K P T ls Ls t rest (p + 1) (drop 1 names) lab i ty sh.1 in
    either c Ls (K (At p)) _ _ _ _
    (λ on.
    let a = shown_test P T (carried ls l) names test (sh.0 on) in
    let b = shown_carries P T (carried ls l) v (drop 1 names) (lab.at l v at) cr a.1 in
    (shown_types P T (drop 1 names), (v, shown_types P T (drop (length v) (drop 1 names)), at, a.0 ∙ ap (λ z. I32 ∷ z) b, b), h))
    (λ off. drops_first c Ls P T _ 1 names _ h)
cut_leads c K P T ls Ls t (BrTable m labels other rest) p names lab i (test, (v, at, each, cr)) sh =
    either c Ls (K (At p)) _ _ _ _
    (λ on.
    let a = shown_test P T (carried ls other) names test (sh on) in
    let b = shown_carries P T (carried ls other) v (drop 1 names) (lab.at other v at) cr a.1 in
    (values_of t, (v, shown_types P T (drop (length v) (drop 1 names)), at, each, a.0 ∙ ap (λ z. I32 ∷ z) b), refl))
    (λ off. falls c Ls P T t names i)
cut_leads c K P T ls Ls t (Return m rest) p names lab i ty sh =
    either c Ls (K (At p)) _ _ _ _
    (λ on. (values_of t, (shown_types P T (drop (length c.result) names), shown_carries P T (carried ls (outermost ls)) c.result names lab.last ty (sh on)), refl))
    (λ off. falls c Ls P T t names i)
cut_leads c K P T ls Ls t (Unreachable m rest) p names lab i ty sh =
    either c Ls (K (At p)) _ _ _ _
    (λ on. (values_of t, tt, refl))
    (λ off. falls c Ls P T t names i)
