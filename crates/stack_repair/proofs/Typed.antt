-- Live code with a name and a type for each value on its stack.
use Rattle.std.proofs.Common.{◌≡◌, ℕ, zero, suc, ◌+◌, ◌≤◌, List, [], ◌∷◌, ◌++◌, map, Bool, Option, Some, None, take, drop, length, slice_get, refl, sym, ap, ap₂, ◌∙◌, subst, arith}
use Rattle.std.specs.Prelude.{All}
use Rattle.wasm_types.specs.declared.module.ValType.{ValType}
use Rattle.wasm_types.specs.declared.module.ValType.TheVariants.{I32}
use Rattle.wasm_types.specs.declared.instr.Instr.{Instr}
use Rattle.wasm_types.specs.declared.instr.Instr as instr
use Rattle.wasm_types.specs.Code.{Code, done, one, block, repeat, branch, count}
use Rattle.wasm_types.specs.Marked.{Marked, End, Do, Block, Loop, If, Br, BrIf, BrTable, Return, Unreachable, plain, marked, unmarked, size}
use Rattle.wasm_types.specs.Typing.{Context, Types}
use Rattle.wasm_types.specs.Validity.{values_of, Leads}
use Rattle.wasm_types.specs.Subset.{IsIntegerKind, IsIntegerCode}
use Rattle.wasm_types.specs.Actions.{callees, takes, leaves}
use Rattle.wasm_types.specs.Labels.{arity}
use Rattle.wasm_types.specs.declared.place.Node.{Node}
use Rattle.wasm_types.specs.Nodes.{At, Join, named, made}
use Rattle.stack_repair.proofs.Live.{HasResultType, HasKind, TypesLive}
use Rattle.flow_domain.proofs.Shapes.{Integers, IsIntegerContext, shape, GoesOn, TypedPass, passed}

-- the first names have these types
abbrev pub Carries : (Node → ValType) → List ValType → List Node → Type 0
Carries T t names = map T (take (length t) names) ≡ t

-- there is a condition or an index on top
abbrev pub HasTest : (Node → ValType) → List Node → Type 0
HasTest T [] = ⊥
HasTest T (d ∷ names) = T d ≡ I32

pub record DoTyped (c : Context) (T : Node → ValType) (op : Instr) (p : ℕ) (names : List Node) : Type 0 where
  pub enough : takes (callees c.inside) op ≤ length names
  pub few : leaves (callees c.inside) op ≤ 1
  pub types : Types c op (map T (take (takes (callees c.inside) op) names)) (map T (named (leaves (callees c.inside) op) (At p) []))
  pub integer : Integers (map T (named (leaves (callees c.inside) op) (At p) []))

abbrev pub KindTyped : (Node → ValType) → Option ValType → Node → Type 0
KindTyped T kind n = IsIntegerKind kind × HasKind T kind n

-- The live part of the code at p leads from these names to the result t. Of dead code it says nothing.
abbrev pub Typed : Context → (Node → ValType) → List (List ValType) → Option ValType → Marked → ℕ → List Node → Type 0
Typed c T ls t End p names = map T names ≡ values_of t
Typed c T ls t (Do m op rest) p names = DoTyped c T op p names × Typed c T ls t rest (p + 1) (made (callees c.inside) p op names)
Typed c T ls t (Block m kind body rest) p names =
    KindTyped T kind (Join p) × Typed c T (values_of kind ∷ ls) kind body (p + 1) [] × Typed c T ls t rest (p + 1 + size body) (named (arity kind) (Join p) names)
Typed c T ls t (Loop m kind body rest) p names =
    KindTyped T kind (Join p) × Typed c T ([] ∷ ls) kind body (p + 1) [] × Typed c T ls t rest (p + 1 + size body) (named (arity kind) (Join p) names)
Typed c T ls t (If m kind x y rest) p names =
    HasTest T names × KindTyped T kind (Join p) × Typed c T (values_of kind ∷ ls) kind x (p + 1) [] × Typed c T (values_of kind ∷ ls) kind y (p + 1 + size x) [] × Typed c T ls t rest (p + 1 + size x + size y) (named (arity kind) (Join p) (drop 1 names))
Typed c T ls t (Br m l rest) p names = (s : List ValType) × (slice_get ls l ≡ Some s) × Carries T s names
Typed c T ls t (BrIf m l rest) p names =
    HasTest T names × ((s : List ValType) × (slice_get ls l ≡ Some s) × Carries T s (drop 1 names)) × Typed c T ls t rest (p + 1) (drop 1 names)
Typed c T ls t (BrTable m labels other rest) p names =
    HasTest T names × ((s : List ValType) × (slice_get ls other ≡ Some s) × All (λ k. slice_get ls k ≡ Some s) labels × Carries T s (drop 1 names))
Typed c T ls t (Return m rest) p names = Carries T c.result names
Typed c T ls t (Unreachable m rest) p names = Unit {0}

-- ---- marked code

-- an instruction that goes on stands as one
abbrev pub ByKind : Marked → Type 0
ByKind End = Unit {0}
ByKind (Do m op rest) = GoesOn op × ByKind rest
ByKind (Block m kind body rest) = ByKind body × ByKind rest
ByKind (Loop m kind body rest) = ByKind body × ByKind rest
ByKind (If m kind x y rest) = ByKind x × ByKind y × ByKind rest
ByKind (Br m l rest) = ByKind rest
ByKind (BrIf m l rest) = ByKind rest
ByKind (BrTable m labels other rest) = ByKind rest
ByKind (Return m rest) = ByKind rest
ByKind (Unreachable m rest) = ByKind rest

leaf_by_kind : (m : Bool) (op : Instr) (rest : Marked) → ByKind rest → ByKind (plain m op rest)
leaf_by_kind m (instr.Br l) rest h = h
leaf_by_kind m (instr.BrIf l) rest h = h
leaf_by_kind m (instr.BrTable labels other) rest h = h
leaf_by_kind m instr.Return rest h = h
leaf_by_kind m instr.Unreachable rest h = h
leaf_by_kind m _ rest h = (tt, h)

pub by_kind : (w : ℕ → Bool) (p : ℕ) (c : Code) → ByKind (marked w p c)
by_kind w p done = tt
by_kind w p (one op rest) = leaf_by_kind (w p) op (marked w (p + 1) rest) (by_kind w (p + 1) rest)
by_kind w p (block kind body rest) = (by_kind w (p + 1) body, by_kind w (p + 1 + count body) rest)
by_kind w p (repeat kind body rest) = (by_kind w (p + 1) body, by_kind w (p + 1 + count body) rest)
by_kind w p (branch kind x y rest) = (by_kind w (p + 1) x, by_kind w (p + 1 + count x) y, by_kind w (p + 1 + count x + count y) rest)

-- ---- a stack of named values, of which the first have the types t and the others r

pub record Parts (T : Node → ValType) (names : List Node) (n : ℕ) (t r : List ValType) : Type 0 where
  pub first : map T (take n names) ≡ t
  pub others : map T (drop n names) ≡ r
  pub enough : n ≤ length names

cons_front : {x y : ValType} {xs ys : List ValType} → x ∷ xs ≡ y ∷ ys → (x ≡ y) × (xs ≡ ys)
cons_front e = (cc, cc)

pub parts : (T : Node → ValType) (names : List Node) (t r : List ValType) → map T names ≡ t ++ r → Parts T names (length t) t r
parts T names [] r e = record { first = refl; others = e; enough = omega arith }
parts T [] (k ∷ t) r e = absurd cc
parts T (d ∷ names) (k ∷ t) r e =
    let h = cons_front e in
    let a = parts T names t r h.1 in
    let le = a.enough in
    record { first = ap₂ {A = ValType} {B = List ValType} (λ x xs. x ∷ xs) h.0 a.first; others = a.others; enough = omega arith }

tested : (T : Node → ValType) (names : List Node) (r : List ValType) → map T names ≡ I32 ∷ r → HasTest T names × (map T (drop 1 names) ≡ r)
tested T [] r e = absurd cc
tested T (d ∷ names) r e = cons_front e

integers_drop : (T : Node → ValType) (n : ℕ) (names : List Node) → Integers (map T names) → Integers (map T (drop n names))
integers_drop T zero names i = i
integers_drop T (suc n) [] i = tt
integers_drop T (suc n) (d ∷ names) i = integers_drop T n names i.1

integers_take : (T : Node → ValType) (n : ℕ) (names : List Node) → Integers (map T names) → Integers (map T (take n names))
integers_take T zero names i = tt
integers_take T (suc n) [] i = tt
integers_take T (suc n) (d ∷ names) i = (i.0, integers_take T n names i.1)

-- results before a stack
named_types : (T : Node → ValType) (k : ℕ) (d : Node) (names : List Node) (l r : List ValType) → map T (named k d []) ≡ l → map T names ≡ r
    → map T (named k d names) ≡ l ++ r
named_types T zero d names l r e f = f ∙ ap (λ z. z ++ r) e
named_types T (suc k) d names l r e f = ap (λ z. T d ∷ z) f ∙ ap (λ z. z ++ r) e

named_integers : (T : Node → ValType) (k : ℕ) (d : Node) (names : List Node) → Integers (map T (named k d [])) → Integers (map T names)
    → Integers (map T (named k d names))
named_integers T zero d names a i = i
named_integers T (suc k) d names a i = (a.0, i)

result_named : (c : Context) (T : Node → ValType) (op : Instr) (k : ℕ) (d : Node) (operands : List Node) (l : List ValType) → length l ≡ k → k ≤ 1
    → HasResultType c T op operands d → Types c op (map T operands) l → map T (named k d []) ≡ l
result_named c T op zero d operands [] e le h ty = refl
result_named c T op zero d operands (x ∷ l) e le h ty = absurd (omega arith)
result_named c T op (suc k) d operands [] e le h ty = absurd (omega arith)
result_named c T op (suc k) d operands (x ∷ []) e le h ty = ap (λ z. z ∷ []) (h x ty)
result_named c T op (suc k) d operands (x ∷ y ∷ l) e le h ty = absurd (omega arith)

kind_values : (T : Node → ValType) (kind : Option ValType) (d : Node) (names : List Node) (r : List ValType) → HasKind T kind d → map T names ≡ r
    → map T (named (arity kind) d names) ≡ values_of kind ++ r
kind_values T None d names r h e = e
kind_values T (Some k) d names r h e = ap₂ {A = ValType} {B = List ValType} (λ x xs. x ∷ xs) h e

kind_integers : (T : Node → ValType) (kind : Option ValType) (d : Node) (names : List Node) → KindTyped T kind d → Integers (map T names)
    → Integers (map T (named (arity kind) d names))
kind_integers T None d names h i = i
kind_integers T (Some k) d names h i = (subst (λ z. IsIntegerKind (Some z)) (sym h.1) h.0, i)

-- ---- one instruction

pub record DoStep (c : Context) (T : Node → ValType) (op : Instr) (p : ℕ) (names : List Node) (s' : List ValType) : Type 0 where
  pub typed : DoTyped c T op p names
  pub after : map T (made (callees c.inside) p op names) ≡ s'
  pub integer : Integers (map T (made (callees c.inside) p op names))

do_step : (c : Context) → IsIntegerContext c → (T : Node → ValType) (op : Instr) (p : ℕ) (names : List Node) (s s' : List ValType)
    → map T names ≡ s → Integers (map T names) → HasResultType c T op (take (takes (callees c.inside) op) names) (At p) → TypedPass c op s s'
    → DoStep c T op p names s'
do_step c ok T op p names s s' e i h (t, l, r, ty, f, g) =
    let sh = shape c ok op t l ty in
    let a = subst (λ n. Parts T names n t r) sh.taken (parts T names t r (e ∙ f)) in
    let ty' = subst (λ z. Types c op z l) (sym a.first) ty in
    let b = result_named c T op (leaves (callees c.inside) op) (At p) (take (takes (callees c.inside) op) names) l sh.left sh.few h ty' in
    let j = subst Integers (sym b) (sh.integer (subst Integers a.first (integers_take T (takes (callees c.inside) op) names i))) in
    record {
      typed =
          record { enough = a.enough; few = sh.few; types = subst (λ z. Types c op (map T (take (takes (callees c.inside) op) names)) z) (sym b) ty'; integer = j };
      after = named_types T (leaves (callees c.inside) op) (At p) (drop (takes (callees c.inside) op) names) l r b a.others ∙ sym g;
      integer =
          named_integers T (leaves (callees c.inside) op) (At p) (drop (takes (callees c.inside) op) names) j (integers_drop T (takes (callees c.inside) op) names i);
    }

-- ---- a sequence

pub typed_of : (c : Context) → IsIntegerContext c
    → (T : Node → ValType) (ls : List (List ValType)) (t : Option ValType) (code : Marked) (p : ℕ) (names : List Node) (s : List ValType)
    → ByKind code → IsIntegerCode (unmarked code) → Integers (map T names) → map T names ≡ s → Leads c ls (unmarked code) s (values_of t)
    → TypesLive c T code p names → Typed c T ls t code p names
typed_of c ok T ls t End p names s k ic i e h ty = e ∙ h
typed_of c ok T ls t (Do m op rest) p names s k ic i e (mid, q, h) ty =
    let a = do_step c ok T op p names s mid e i ty.0 (passed c ls op s mid k.0 q) in
    (a.typed, typed_of c ok T ls t rest (p + 1) (made (callees c.inside) p op names) mid k.1 ic.1 a.integer a.after h ty.1)
typed_of c ok T ls t (Block m kind body rest) p names s k ic i e h ty = (
  (ic.0, ty.0),
  typed_of c ok T (values_of kind ∷ ls) kind body (p + 1) [] [] k.0 ic.1 tt refl h.0 ty.1,
  typed_of c ok T ls t rest (p + 1 + size body) (named (arity kind) (Join p) names) (values_of kind ++ s) k.1 ic.2 (kind_integers T kind (Join p) names (ic.0, ty.0) i) (kind_values T kind (Join p) names s ty.0 e) h.1 ty.2,
)
typed_of c ok T ls t (Loop m kind body rest) p names s k ic i e h ty = (
  (ic.0, ty.0),
  typed_of c ok T ([] ∷ ls) kind body (p + 1) [] [] k.0 ic.1 tt refl h.0 ty.1,
  typed_of c ok T ls t rest (p + 1 + size body) (named (arity kind) (Join p) names) (values_of kind ++ s) k.1 ic.2 (kind_integers T kind (Join p) names (ic.0, ty.0) i) (kind_values T kind (Join p) names s ty.0 e) h.1 ty.2,
)
typed_of c ok T ls t (If m kind x y rest) p names s k ic i e (r, f, hx, hy, h) ty =
    let a = tested T names r (e ∙ f) in (
      a.0,
      (ic.0, ty.0),
      typed_of c ok T (values_of kind ∷ ls) kind x (p + 1) [] [] k.0 ic.1 tt refl hx ty.1,
      typed_of c ok T (values_of kind ∷ ls) kind y (p + 1 + size x) [] [] k.1 ic.2 tt refl hy ty.2,
      typed_of c ok T ls t rest (p + 1 + size x + size y) (named (arity kind) (Join p) (drop 1 names)) (values_of kind ++ r) k.2 ic.3 (kind_integers T kind (Join p) (drop 1 names) (ic.0, ty.0) (integers_drop T 1 names i)) (kind_values T kind (Join p) (drop 1 names) r ty.0 a.1) h ty.3,
    )
typed_of c ok T ls t (Br m l rest) p names s k ic i e (mid, (v, r, at, f), h) ty = (v, at, (parts T names v r (e ∙ f)).first)
typed_of c ok T ls t (BrIf m l rest) p names s k ic i e (mid, (v, r, at, f, g), h) ty =
    let a = tested T names (v ++ r) (e ∙ f) in
    (a.0, (v, at, (parts T (drop 1 names) v r a.1).first), typed_of c ok T ls t rest (p + 1) (drop 1 names) mid k ic.1 (integers_drop T 1 names i) (a.1 ∙ sym g) h ty)
typed_of c ok T ls t (BrTable m labels other rest) p names s k ic i e (mid, (v, r, at, each, f), h) ty =
    let a = tested T names (v ++ r) (e ∙ f) in (a.0, (v, at, each, (parts T (drop 1 names) v r a.1).first))
typed_of c ok T ls t (Return m rest) p names s k ic i e (mid, (r, f), h) ty = (parts T names c.result r (e ∙ f)).first
typed_of c ok T ls t (Unreachable m rest) p names s k ic i e h ty = tt
