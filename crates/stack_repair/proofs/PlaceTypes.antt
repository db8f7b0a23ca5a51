-- The places of every code have types, and the cut is the same with each such types.
use Rattle.std.proofs.Common.{◌≡◌, ℕ, zero, suc, ◌+◌, ◌≤◌, ◌<◌, List, [], ◌∷◌, map, reverse, Bool, false, Option, Some, None, take, drop, slice_get, nat_eq, refl, sym, ap, ap₂, ◌∙◌, subst, arith, if◌then◌else◌, eq-eqb}
use Rattle.wasm_types.specs.declared.ops.NumOp.{NumOp}
use Rattle.wasm_types.specs.declared.ops.NumOp.TheVariants as num
use Rattle.wasm_types.specs.declared.module.ValType.{ValType}
use Rattle.wasm_types.specs.declared.module.ValType.TheVariants.{I32, I64}
use Rattle.wasm_types.specs.declared.module.FuncType.{FuncType}
use Rattle.wasm_types.specs.declared.module.GlobalType.{GlobalType}
use Rattle.wasm_types.specs.declared.instr.Instr.{Instr}
use Rattle.wasm_types.specs.declared.instr.Instr as instr
use Rattle.wasm_types.specs.Marked.{Marked, End, Do, Block, Loop, If, Br, BrIf, BrTable, Return, Unreachable, size}
use Rattle.wasm_types.specs.Spaces.{type_of_func, globals_of}
use Rattle.wasm_types.specs.Typing.{Context, Types, TypesNum, type_of_width, low_type, load_type}
use Rattle.wasm_types.specs.Actions.{callees, takes, leaves}
use Rattle.wasm_types.specs.Labels.{arity}
use Rattle.wasm_types.specs.declared.place.Node.{Node}
use Rattle.wasm_types.specs.Nodes.{At, Join, named, made}
use Rattle.wasm_types.specs.declared.place.Node.TheVariants as node
use Rattle.flow_domain.specs.Cut.{pick, shown, drops, filler, result_of, cut}
use Rattle.stack_repair.proofs.Live.{HasResultType, HasKind, TypesLive, places_of}
use Rattle.stack_repair.specs.Law.{PlacesHaveTypes}
use Rattle.stack_repair.proofs.Typed.{Typed}

-- ---- the type of what an instruction leaves on operands

abbrev top_of : List ValType → ValType
top_of [] = I32
top_of (k ∷ ks) = k

abbrev type_or : Option ValType → ValType
type_or None = I32
type_or (Some k) = k

abbrev result_or : Option FuncType → ValType
result_or None = I32
result_or (Some F) = top_of (reverse F.results)

abbrev kind_or : Option GlobalType → ValType
kind_or None = I32
kind_or (Some g) = g.kind

abbrev num_left : NumOp → ValType
num_left (num.Un w op) = type_of_width w
num_left (num.Bin w op) = type_of_width w
num_left num.ExtendS = I64
num_left num.ExtendU = I64
num_left (num.Low op) = low_type op
num_left _ = I32

abbrev left_type : Context → Instr → List ValType → ValType
left_type c instr.Select t = top_of (drop 1 t)
left_type c (instr.Call f) t = result_or (type_of_func c.inside f)
left_type c (instr.CallIndirect type) t = result_or (slice_get c.inside.types type)
left_type c (instr.LocalGet x) t = type_or (slice_get c.locals x)
left_type c (instr.LocalTee x) t = type_or (slice_get c.locals x)
left_type c (instr.GlobalGet x) t = kind_or (slice_get (globals_of c.inside) x)
left_type c (instr.Load op arg) t = load_type op
left_type c (instr.I64Const n) t = I64
left_type c (instr.Num op) t = num_left op
left_type c _ t = I32

top_is : (k : ValType) (l : List ValType) → k ∷ [] ≡ l → top_of l ≡ k
top_is k l e = ap top_of (sym e)

none_left : {A : Type 0} (k : ValType) → k ∷ [] ≡ [] → A
none_left k e = absurd cc

num_left_is : (op : NumOp) (t : List ValType) (k : ValType) → TypesNum op t (k ∷ []) → num_left op ≡ k
num_left_is (num.Eqz w) t k h = top_is k _ h.1
num_left_is (num.Rel w op) t k h = top_is k _ h.1
num_left_is (num.Un w op) t k h = top_is k _ h.1
num_left_is (num.Bin w op) t k h = top_is k _ h.1
num_left_is num.Wrap t k h = top_is k _ h.1
num_left_is num.ExtendS t k h = top_is k _ h.1
num_left_is num.ExtendU t k h = top_is k _ h.1
num_left_is (num.Low op) t k h = top_is k _ h.1

left_is : (c : Context) (op : Instr) (t : List ValType) (k : ValType) → Types c op t (k ∷ []) → left_type c op t ≡ k
left_is c instr.Nop t k h = none_left k h.1
left_is c instr.Drop t k (j, h) = none_left k h.1
left_is c instr.Select t k (j, h) = ap (λ z. top_of (drop 1 z)) h.0 ∙ top_is k (j ∷ []) h.1
left_is c (instr.Call f) t k (F, at, h) = ap result_or at ∙ top_is k (reverse F.results) h.1
left_is c (instr.CallIndirect type) t k (F, some, at, h) = ap result_or at ∙ top_is k (reverse F.results) h.1
left_is c (instr.LocalGet x) t k (j, at, h) = ap type_or at ∙ top_is k (j ∷ []) h.1
left_is c (instr.LocalSet x) t k (j, at, h) = none_left k h.1
left_is c (instr.LocalTee x) t k (j, at, h) = ap type_or at ∙ top_is k (j ∷ []) h.1
left_is c (instr.GlobalGet x) t k (g, at, h) = ap kind_or at ∙ top_is k (g.kind ∷ []) h.1
left_is c (instr.GlobalSet x) t k (g, at, mut, h) = none_left k h.1
left_is c (instr.Load op arg) t k (some, h) = top_is k _ h.1
left_is c (instr.Store op arg) t k (some, h) = none_left k h.1
left_is c instr.MemorySize t k (some, h) = top_is k _ h.1
left_is c instr.MemoryGrow t k (some, h) = top_is k _ h.1
left_is c (instr.I32Const n) t k h = top_is k _ h.1
left_is c (instr.I64Const n) t k h = top_is k _ h.1
left_is c (instr.Num op) t k h = num_left_is op t k h
left_is c instr.MemoryCopy t k (some, h) = none_left k h.1
left_is c instr.MemoryFill t k (some, h) = none_left k h.1
left_is c _ t k h = absurd h

-- ---- one table after another

abbrev set_at : ℕ → ValType → (Node → ValType) → Node → ValType
set_at p k T (node.At q) = if nat_eq q.0 p then k else T (node.At q)
set_at p k T (node.Join b) = T (node.Join b)
set_at p k T node.Exit = T node.Exit

abbrev set_join : ℕ → Option ValType → (Node → ValType) → Node → ValType
set_join p None T n = T n
set_join p (Some k) T (node.At q) = T (node.At q)
set_join p (Some k) T (node.Join b) = if nat_eq b.0 p then k else T (node.Join b)
set_join p (Some k) T node.Exit = T node.Exit

-- the types of the places of the code, and for other nodes those of T
abbrev types_from : Context → Marked → ℕ → List Node → (Node → ValType) → Node → ValType
types_from c End p names T = T
types_from c (Do m op rest) p names T =
    let cs = callees c.inside in types_from c rest (p + 1) (made cs p op names) (set_at p (left_type c op (map T (take (takes cs op) names))) T)
types_from c (Block m kind body rest) p names T =
    types_from c rest (p + 1 + size body) (named (arity kind) (Join p) names) (types_from c body (p + 1) [] (set_join p kind T))
types_from c (Loop m kind body rest) p names T =
    types_from c rest (p + 1 + size body) (named (arity kind) (Join p) names) (types_from c body (p + 1) [] (set_join p kind T))
types_from c (If m kind x y rest) p names T =
    types_from c rest (p + 1 + size x + size y) (named (arity kind) (Join p) (drop 1 names)) (types_from c y (p + 1 + size x) [] (types_from c x (p + 1) [] (set_join p kind T)))
types_from c (BrIf m l rest) p names T = types_from c rest (p + 1) (drop 1 names) T
types_from c _ p names T = T

abbrev IsBefore : ℕ → Node → Type 0
IsBefore e (node.At q) = q.0 < e
IsBefore e (node.Join b) = b.0 < e
IsBefore e node.Exit = ⊥

before_le : (a b : ℕ) (n : Node) → a ≤ b → IsBefore a n → IsBefore b n
before_le a b (node.At q) le h = omega arith
before_le a b (node.Join q) le h = omega arith
before_le a b node.Exit le h = h

abbrev AllBefore : ℕ → List Node → Type 0
AllBefore e [] = Unit {0}
AllBefore e (n ∷ names) = IsBefore e n × AllBefore e names

all_before_le : (a b : ℕ) (names : List Node) → a ≤ b → AllBefore a names → AllBefore b names
all_before_le a b [] le h = tt
all_before_le a b (n ∷ names) le h = (before_le a b n le h.0, all_before_le a b names le h.1)

all_before_drop : (a k : ℕ) (names : List Node) → AllBefore a names → AllBefore a (drop k names)
all_before_drop a zero names h = h
all_before_drop a (suc k) [] h = h
all_before_drop a (suc k) (n ∷ names) h = all_before_drop a k names h.1

all_before_named : (a k : ℕ) (n : Node) (names : List Node) → IsBefore a n → AllBefore a names → AllBefore a (named k n names)
all_before_named a zero n names b h = h
all_before_named a (suc k) n names b h = (b, h)

other_number : (a b : ℕ) → a < b → nat_eq a b ≡ false
other_number a b lt = grind arith

set_at_same : (p : ℕ) (k : ValType) (T : Node → ValType) (n : Node) → IsBefore p n → set_at p k T n ≡ T n
set_at_same p k T (node.At q) b = ap (λ z. if z then k else T (node.At q)) (other_number q.0 p b)
set_at_same p k T (node.Join q) b = refl
set_at_same p k T node.Exit b = refl

set_join_same : (p : ℕ) (kind : Option ValType) (T : Node → ValType) (n : Node) → IsBefore p n → set_join p kind T n ≡ T n
set_join_same p None T n b = refl
set_join_same p (Some k) T (node.At q) b = refl
set_join_same p (Some k) T (node.Join q) b = ap (λ z. if z then k else T (node.Join q)) (other_number q.0 p b)
set_join_same p (Some k) T node.Exit b = refl

set_at_there : (p : ℕ) (k : ValType) (T : Node → ValType) → set_at p k T (At p) ≡ k
set_at_there p k T = ap (λ z. if z then k else T (At p)) (eq-eqb p p refl)

set_join_there : (p : ℕ) (kind : Option ValType) (T : Node → ValType) (T' : Node → ValType) → T' (Join p) ≡ set_join p kind T (Join p)
    → HasKind T' kind (Join p)
set_join_there p None T T' e = tt
set_join_there p (Some k) T T' e = e ∙ ap (λ z. if z then k else T (Join p)) (eq-eqb p p refl)

-- earlier nodes keep their types
types_same : (c : Context) (code : Marked) (p : ℕ) (names : List Node) (T : Node → ValType) (n : Node) → IsBefore p n → types_from c code p names T n ≡ T n
types_same c End p names T n b = refl
types_same c (Do m op rest) p names T n b = types_same c rest (p + 1) _ _ n (before_le p (p + 1) n (omega arith) b) ∙ set_at_same p _ T n b
types_same c (Block m kind body rest) p names T n b =
    types_same c rest (p + 1 + size body) _ _ n (before_le p (p + 1 + size body) n (omega arith) b) ∙ types_same c body (p + 1) [] _ n (before_le p (p + 1) n (omega arith) b) ∙ set_join_same p kind T n b
types_same c (Loop m kind body rest) p names T n b =
    types_same c rest (p + 1 + size body) _ _ n (before_le p (p + 1 + size body) n (omega arith) b) ∙ types_same c body (p + 1) [] _ n (before_le p (p + 1) n (omega arith) b) ∙ set_join_same p kind T n b
types_same c (If m kind x y rest) p names T n b =
    types_same c rest (p + 1 + size x + size y) _ _ n (before_le p (p + 1 + size x + size y) n (omega arith) b) ∙ types_same c y (p + 1 + size x) [] _ n (before_le p (p + 1 + size x) n (omega arith) b) ∙ types_same c x (p + 1) [] _ n (before_le p (p + 1) n (omega arith) b) ∙ set_join_same p kind T n b
types_same c (Br m l rest) p names T n b = refl
types_same c (BrIf m l rest) p names T n b = types_same c rest (p + 1) _ T n (before_le p (p + 1) n (omega arith) b)
types_same c (BrTable m labels other rest) p names T n b = refl
types_same c (Return m rest) p names T n b = refl
types_same c (Unreachable m rest) p names T n b = refl

map_same : (T T' : Node → ValType) (p k : ℕ) (names : List Node) → AllBefore p names → ((n : Node) → IsBefore p n → T' n ≡ T n)
    → map T' (take k names) ≡ map T (take k names)
map_same T T' p zero names b e = refl
map_same T T' p (suc k) [] b e = refl
map_same T T' p (suc k) (n ∷ names) b e = ap₂ {A = ValType} {B = List ValType} (λ x xs. x ∷ xs) (e n b.0) (map_same T T' p k names b.1 e)

-- Each T' that is that table on the code's own nodes and earlier ones types its places.
typed_from : (c : Context) (code : Marked) (p e : ℕ) (names : List Node) (T T' : Node → ValType) → e ≡ p + size code → AllBefore p names
    → ((n : Node) → IsBefore e n → T' n ≡ types_from c code p names T n) → TypesLive c T' code p names
typed_from c End p e names T T' q b h = tt
typed_from c (Do m op rest) p e names T T' q b h =
    let cs = callees c.inside in
    let k1 = left_type c op (map T (take (takes cs op) names)) in
    let T1 = set_at p k1 T in
    let names1 = made cs p op names in
    let early = λ (n : Node) (bn : IsBefore p n). h n (before_le p e n (omega arith) bn) ∙ types_same c (Do m op rest) p names T n bn in (
      (λ k ty. h (At p) (omega arith) ∙ types_same c rest (p + 1) names1 T1 (At p) (omega arith) ∙ set_at_there p k1 T ∙ left_is c op _ k (subst (λ z. Types c op z (k ∷ [])) (map_same T T' p (takes cs op) names b early) ty)),
      typed_from c rest (p + 1) e names1 T1 T' (omega arith) (all_before_named (p + 1) (leaves cs op) (At p) (drop (takes cs op) names) (omega arith) (all_before_le p (p + 1) (drop (takes cs op) names) (omega arith) (all_before_drop p (takes cs op) names b))) h,
    )
typed_from c (Block m kind body rest) p e names T T' q b h =
    let f = p + 1 + size body in
    let T1 = set_join p kind T in
    let T2 = types_from c body (p + 1) [] T1 in
    let names1 = named (arity kind) (Join p) names in
    let early = λ (n : Node) (bn : IsBefore f n). h n (before_le f e n (omega arith) bn) ∙ types_same c rest f names1 T2 n bn in (
      set_join_there p kind T T' (early (Join p) (omega arith) ∙ types_same c body (p + 1) [] T1 (Join p) (omega arith)),
      typed_from c body (p + 1) f [] T1 T' (omega arith) tt early,
      typed_from c rest f e names1 T2 T' (omega arith) (all_before_named f (arity kind) (Join p) names (omega arith) (all_before_le p f names (omega arith) b)) h,
    )
typed_from c (Loop m kind body rest) p e names T T' q b h =
    let f = p + 1 + size body in
    let T1 = set_join p kind T in
    let T2 = types_from c body (p + 1) [] T1 in
    let names1 = named (arity kind) (Join p) names in
    let early = λ (n : Node) (bn : IsBefore f n). h n (before_le f e n (omega arith) bn) ∙ types_same c rest f names1 T2 n bn in (
      set_join_there p kind T T' (early (Join p) (omega arith) ∙ types_same c body (p + 1) [] T1 (Join p) (omega arith)),
      typed_from c body (p + 1) f [] T1 T' (omega arith) tt early,
      typed_from c rest f e names1 T2 T' (omega arith) (all_before_named f (arity kind) (Join p) names (omega arith) (all_before_le p f names (omega arith) b)) h,
    )
typed_from c (If m kind x y rest) p e names T T' q b h =
    let f = p + 1 + size x in
    let g = p + 1 + size x + size y in
    let T1 = set_join p kind T in
    let T2 = types_from c x (p + 1) [] T1 in
    let T3 = types_from c y f [] T2 in
    let names1 = named (arity kind) (Join p) (drop 1 names) in
    let early_y = λ (n : Node) (bn : IsBefore g n). h n (before_le g e n (omega arith) bn) ∙ types_same c rest g names1 T3 n bn in
    let early_x = λ (n : Node) (bn : IsBefore f n). early_y n (before_le f g n (omega arith) bn) ∙ types_same c y f [] T2 n bn in (
      set_join_there p kind T T' (early_x (Join p) (omega arith) ∙ types_same c x (p + 1) [] T1 (Join p) (omega arith)),
      typed_from c x (p + 1) f [] T1 T' (omega arith) tt early_x,
      typed_from c y f g [] T2 T' (omega arith) tt early_y,
      typed_from c rest g e names1 T3 T' (omega arith) (all_before_named g (arity kind) (Join p) (drop 1 names) (omega arith) (all_before_le p g (drop 1 names) (omega arith) (all_before_drop p 1 names b))) h,
    )
typed_from c (Br m l rest) p e names T T' q b h = tt
typed_from c (BrIf m l rest) p e names T T' q b h =
    typed_from c rest (p + 1) e (drop 1 names) T T' (omega arith) (all_before_le p (p + 1) (drop 1 names) (omega arith) (all_before_drop p 1 names b)) h
typed_from c (BrTable m labels other rest) p e names T T' q b h = tt
typed_from c (Return m rest) p e names T T' q b h = tt
typed_from c (Unreachable m rest) p e names T T' q b h = tt

pub types_exist : (c : Context) (code : Marked) → (T : Node → ValType) × TypesLive c T code 0 []
types_exist c code = let T = types_from c code 0 [] (λ n. I32) in (T, typed_from c code 0 (0 + size code) [] (λ n. I32) T refl tt (λ n b. refl))

pub places_have_types : PlacesHaveTypes
places_have_types c n code = let h = types_exist c code in (h.0, places_of c h.0 n code h.1)

-- ---- one cut

map_take : (T T' : Node → ValType) (k : ℕ) (names : List Node) → map T names ≡ map T' names → map T (take k names) ≡ map T' (take k names)
map_take T T' zero names e = refl
map_take T T' (suc k) [] e = refl
map_take T T' (suc k) (n ∷ names) e = ap₂ {A = ValType} {B = List ValType} (λ x xs. x ∷ xs) (head_is e) (map_take T T' k names (tail_is e))
  where
    head_is : {x y : ValType} {xs ys : List ValType} → x ∷ xs ≡ y ∷ ys → x ≡ y
    head_is e = cc

    tail_is : {x y : ValType} {xs ys : List ValType} → x ∷ xs ≡ y ∷ ys → xs ≡ ys
    tail_is e = cc

map_drop : (T T' : Node → ValType) (k : ℕ) (names : List Node) → map T names ≡ map T' names → map T (drop k names) ≡ map T' (drop k names)
map_drop T T' zero names e = e
map_drop T T' (suc k) [] e = refl
map_drop T T' (suc k) (n ∷ names) e = map_drop T T' k names (tail_is e)
  where
    tail_is : {x y : ValType} {xs ys : List ValType} → x ∷ xs ≡ y ∷ ys → xs ≡ ys
    tail_is e = cc

-- what an instruction leaves has one type
left_once : (c : Context) (T T' : Node → ValType) (op : Instr) (k : ℕ) (d : Node) (operands : List Node) → map T operands ≡ map T' operands
    → Types c op (map T operands) (map T (named k d [])) → HasResultType c T' op operands d → map T (named k d []) ≡ map T' (named k d [])
left_once c T T' op zero d operands e ty h = refl
left_once c T T' op (suc k) d operands e ty h = ap (λ z. z ∷ []) (sym (h (T d) (subst (λ z. Types c op z (T d ∷ [])) e ty)))

named_same : (T T' : Node → ValType) (k : ℕ) (d : Node) (names : List Node) → map T (named k d []) ≡ map T' (named k d []) → map T names ≡ map T' names
    → map T (named k d names) ≡ map T' (named k d names)
named_same T T' zero d names e f = f
named_same T T' (suc k) d names e f = ap₂ {A = ValType} {B = List ValType} (λ x xs. x ∷ xs) (ap top_of e) f

result_same : (T T' : Node → ValType) (k : ℕ) (d : Node) → map T (named k d []) ≡ map T' (named k d []) → result_of k (T d) ≡ result_of k (T' d)
result_same T T' zero d e = refl
result_same T T' (suc k) d e = ap (λ z. Some (top_of z)) e

kind_same : (T T' : Node → ValType) (kind : Option ValType) (d : Node) → HasKind T kind d → HasKind T' kind d
    → map T (named (arity kind) d []) ≡ map T' (named (arity kind) d [])
kind_same T T' None d e f = refl
kind_same T T' (Some k) d e f = ap (λ z. z ∷ []) (e ∙ sym f)

pub one_cut : (c : Context) (K P : Node → Bool) (T T' : Node → ValType) (ls : List (List ValType)) (t : Option ValType) (code : Marked) (p : ℕ) (names : List Node)
    → Typed c T ls t code p names → TypesLive c T' code p names → map T names ≡ map T' names
    → cut (callees c.inside) K P T t code p names ≡ cut (callees c.inside) K P T' t code p names
one_cut c K P T T' ls t End p names ty ty' e = refl
one_cut c K P T T' ls t (Do m op rest) p names ty ty' e =
    let cs = callees c.inside in
    let l = left_once c T T' op (leaves cs op) (At p) (take (takes cs op) names) (map_take T T' (takes cs op) names e) ty.0.types ty'.0 in
    ap₂ {A = Option ValType} {B = Marked} (λ x y. pick (K (At p)) (Do m op y) (drops (shown P (take (takes cs op) names)) (filler P x (At p) y))) (result_same T T' (leaves cs op) (At p) l)
    (one_cut c K P T T' ls t rest (p + 1) (made cs p op names) ty.1 ty'.1 (named_same T T' (leaves cs op) (At p) (drop (takes cs op) names) l (map_drop T T' (takes cs op) names e)))
one_cut c K P T T' ls t (Block m kind body rest) p names ty ty' e =
    ap₂ {A = Marked} {B = Marked} (λ x y. pick (K (At p)) (Block m kind x y) (filler P kind (Join p) y)) (one_cut c K P T T' _ kind body (p + 1) [] ty.1 ty'.1 refl)
    (one_cut c K P T T' ls t rest (p + 1 + size body) (named (arity kind) (Join p) names) ty.2 ty'.2 (named_same T T' (arity kind) (Join p) names (kind_same T T' kind (Join p) ty.0.1 ty'.0) e))
one_cut c K P T T' ls t (Loop m kind body rest) p names ty ty' e =
    ap₂ {A = Marked} {B = Marked} (λ x y. pick (K (At p)) (Loop m kind x y) (filler P kind (Join p) y)) (one_cut c K P T T' _ kind body (p + 1) [] ty.1 ty'.1 refl)
    (one_cut c K P T T' ls t rest (p + 1 + size body) (named (arity kind) (Join p) names) ty.2 ty'.2 (named_same T T' (arity kind) (Join p) names (kind_same T T' kind (Join p) ty.0.1 ty'.0) e))
one_cut c K P T T' ls t (If m kind x y rest) p names ty ty' e =
    let cs = callees c.inside in
    let hx = one_cut c K P T T' _ kind x (p + 1) [] ty.2 ty'.1 refl in
    let hy = one_cut c K P T T' _ kind y (p + 1 + size x) [] ty.3 ty'.2 refl in
    let hr = one_cut c K P T T' ls t rest (p + 1 + size x + size y) (named (arity kind) (Join p) (drop 1 names)) ty.4 ty'.3 (named_same T T' (arity kind) (Join p) (drop 1 names) (kind_same T T' kind (Join p) ty.1.1 ty'.0) (map_drop T T' 1 names e)) in
    ap (λ z. pick (K (At p)) (If m kind z (cut cs K P T kind y (p + 1 + size x) []) (cut cs K P T t rest (p + 1 + size x + size y) (named (arity kind) (Join p) (drop 1 names)))) (drops (shown P (take 1 names)) (filler P kind (Join p) (cut cs K P T t rest (p + 1 + size x + size y) (named (arity kind) (Join p) (drop 1 names)))))) hx
    ∙ ap₂ {A = Marked} {B = Marked} (λ u w. pick (K (At p)) (If m kind (cut cs K P T' kind x (p + 1) []) u w) (drops (shown P (take 1 names)) (filler P kind (Join p) w))) hy hr
one_cut c K P T T' ls t (Br m l rest) p names ty ty' e = refl
one_cut c K P T T' ls t (BrIf m l rest) p names ty ty' e =
    ap (λ y. pick (K (At p)) (BrIf m l y) (drops (shown P (take 1 names)) y)) (one_cut c K P T T' ls t rest (p + 1) (drop 1 names) ty.2 ty' (map_drop T T' 1 names e))
one_cut c K P T T' ls t (BrTable m labels other rest) p names ty ty' e = refl
one_cut c K P T T' ls t (Return m rest) p names ty ty' e = refl
one_cut c K P T T' ls t (Unreachable m rest) p names ty ty' e = refl
