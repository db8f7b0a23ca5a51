-- The places of every code have types, by what its instructions leave.
use Rattle.std.proofs.Common.{◌≡◌, ℕ, zero, suc, ◌+◌, ◌-◌, ◌≤◌, ◌<◌, List, [], ◌∷◌, ◌++◌, map, reverse, false, Option, Some, None, take, drop, length, replicate, nat_eq, refl, sym, ap, ap₂, ◌∙◌, subst, arith, if◌then◌else◌, eq-eqb, length-append}
use Rattle.std.specs.List.{slice_get}
use Rattle.std.proofs.lemmas.List.{reverse-reverse, append_assoc}
use Rattle.wasm_types.specs.declared.ops.NumOp.{NumOp}
use Rattle.wasm_types.specs.declared.ops.NumOp.TheVariants as num
use Rattle.wasm_types.specs.declared.module.ValType.{ValType}
use Rattle.wasm_types.specs.declared.module.ValType.TheVariants.{I32}
use Rattle.wasm_types.specs.declared.module.Module.{Module}
use Rattle.wasm_types.specs.declared.instr.Instr.{Instr}
use Rattle.wasm_types.specs.declared.instr.Instr as instr
use Rattle.wasm_types.specs.declared.place.Node.{Node}
use Rattle.wasm_types.specs.declared.place.Node.TheVariants as node
use Rattle.wasm_types.specs.declared.place.Node.TheVariants.{Exit}
use Rattle.wasm_types.specs.Marked.{Marked, End, Do, Block, Loop, If, Br, BrIf, BrTable, Return, Unreachable, size}
use Rattle.wasm_types.specs.Typing.{Context, Types, TypesNum}
use Rattle.wasm_types.specs.Actions.{Callees, callees, takes, leaves}
use Rattle.wasm_types.specs.Nodes.{At, Join, named, made}
use Rattle.wasm_types.specs.Labels.{arity, Label, block_label, loop_label, body_label}
use Rattle.wasm_types.specs.Sites.{DoHead, Site, Sites, IsSite, sites, body_sites}
use Rattle.wasm_types.specs.Places.{HasResult, TypesPlaces}
use Rattle.stack_names.specs.declared.place.Place.{Place}
use Rattle.stack_names.specs.Named.{place_of, placed}
use Rattle.stack_names.specs.Left.{kind_or, type_or, result_or, value_or, num_left, left_type}
use Rattle.stack_names.proofs.PlaceLemmas.{HasKind, one_placed}
use Rattle.stack_names.proofs.WalkLaw.{TypesWalk}

-- ---- one table after another

abbrev set_at : ℕ → ValType → (Node → ValType) → Node → ValType
set_at p k T (node.At q) = if nat_eq q.0 p then k else T (node.At q)
set_at p k T (node.Join b) = T (node.Join b)
set_at p k T node.Exit = T node.Exit

abbrev set_join : ℕ → Option ValType → (Node → ValType) → Node → ValType
set_join p None T n = T n
set_join p (Some k) T (node.At q) = T (node.At q)
set_join p (Some k) T (node.Join b) = if nat_eq b.0 p then k else T (node.Join b)
set_join p (Some k) T node.Exit = T node.Exit

-- the types of the places of the code, and for other nodes those of T
abbrev types_from : Module → List ValType → Marked → ℕ → List Node → (Node → ValType) → Node → ValType
types_from m ls End p names T = T
types_from m ls (Do k op rest) p names T =
    types_from m ls rest (p + 1) (made (callees m) p op names) (set_at p (left_type m ls op (placed T names)) T)
types_from m ls (Block mark kind body rest) p names T =
    types_from m ls rest (p + 1 + size body) (named (arity kind) (Join p) names) (types_from m ls body (p + 1) [] (set_join p kind T))
types_from m ls (Loop mark kind body rest) p names T =
    types_from m ls rest (p + 1 + size body) (named (arity kind) (Join p) names) (types_from m ls body (p + 1) [] (set_join p kind T))
types_from m ls (If mark kind x y rest) p names T =
    types_from m ls rest (p + 1 + size x + size y) (named (arity kind) (Join p) (drop 1 names)) (types_from m ls y (p + 1 + size x) [] (types_from m ls x (p + 1) [] (set_join p kind T)))
types_from m ls (BrIf mark l rest) p names T = types_from m ls rest (p + 1) (drop 1 names) T
types_from m ls _ p names T = T

abbrev IsBefore : ℕ → Node → Type 0
IsBefore e (node.At q) = q.0 < e
IsBefore e (node.Join b) = b.0 < e
IsBefore e node.Exit = ⊥

before_le : (a b : ℕ) (n : Node) → a ≤ b → IsBefore a n → IsBefore b n
before_le a b (node.At q) le h = omega arith
before_le a b (node.Join q) le h = omega arith
before_le a b node.Exit le h = h

abbrev AllBefore : ℕ → List Node → Type 0
AllBefore e [] = Unit {0}
AllBefore e (n ∷ names) = IsBefore e n × AllBefore e names

all_before_le : (a b : ℕ) (names : List Node) → a ≤ b → AllBefore a names → AllBefore b names
all_before_le a b [] le h = tt
all_before_le a b (n ∷ names) le h = (before_le a b n le h.0, all_before_le a b names le h.1)

all_before_drop : (a k : ℕ) (names : List Node) → AllBefore a names → AllBefore a (drop k names)
all_before_drop a zero names h = h
all_before_drop a (suc k) [] h = h
all_before_drop a (suc k) (n ∷ names) h = all_before_drop a k names h.1

all_before_named : (a k : ℕ) (n : Node) (names : List Node) → IsBefore a n → AllBefore a names → AllBefore a (named k n names)
all_before_named a zero n names b h = h
all_before_named a (suc k) n names b h = (b, h)

other_number : (a b : ℕ) → a < b → nat_eq a b ≡ false
other_number a b lt = grind arith

set_at_same : (p : ℕ) (k : ValType) (T : Node → ValType) (n : Node) → IsBefore p n → set_at p k T n ≡ T n
set_at_same p k T (node.At q) b = ap (λ z. if z then k else T (node.At q)) (other_number q.0 p b)
set_at_same p k T (node.Join q) b = refl
set_at_same p k T node.Exit b = refl

set_join_same : (p : ℕ) (kind : Option ValType) (T : Node → ValType) (n : Node) → IsBefore p n → set_join p kind T n ≡ T n
set_join_same p None T n b = refl
set_join_same p (Some k) T (node.At q) b = refl
set_join_same p (Some k) T (node.Join q) b = ap (λ z. if z then k else T (node.Join q)) (other_number q.0 p b)
set_join_same p (Some k) T node.Exit b = refl

set_at_there : (p : ℕ) (k : ValType) (T : Node → ValType) → set_at p k T (At p) ≡ k
set_at_there p k T = ap (λ z. if z then k else T (At p)) (eq-eqb p p refl)

set_join_there : (p : ℕ) (kind : Option ValType) (T : Node → ValType) (T' : Node → ValType) → T' (Join p) ≡ set_join p kind T (Join p)
    → HasKind T' kind (Join p)
set_join_there p None T T' e = tt
set_join_there p (Some k) T T' e = e ∙ ap (λ z. if z then k else T (Join p)) (eq-eqb p p refl)

-- earlier nodes keep their types
types_same : (m : Module) (ls : List ValType) (code : Marked) (p : ℕ) (names : List Node) (T : Node → ValType) (n : Node) → IsBefore p n → types_from m ls code p names T n ≡ T n
types_same m ls End p names T n b = refl
types_same m ls (Do mark op rest) p names T n b = types_same m ls rest (p + 1) _ _ n (before_le p (p + 1) n (omega arith) b) ∙ set_at_same p _ T n b
types_same m ls (Block mark kind body rest) p names T n b =
    types_same m ls rest (p + 1 + size body) _ _ n (before_le p (p + 1 + size body) n (omega arith) b) ∙ types_same m ls body (p + 1) [] _ n (before_le p (p + 1) n (omega arith) b) ∙ set_join_same p kind T n b
types_same m ls (Loop mark kind body rest) p names T n b =
    types_same m ls rest (p + 1 + size body) _ _ n (before_le p (p + 1 + size body) n (omega arith) b) ∙ types_same m ls body (p + 1) [] _ n (before_le p (p + 1) n (omega arith) b) ∙ set_join_same p kind T n b
types_same m ls (If mark kind x y rest) p names T n b =
    types_same m ls rest (p + 1 + size x + size y) _ _ n (before_le p (p + 1 + size x + size y) n (omega arith) b) ∙ types_same m ls y (p + 1 + size x) [] _ n (before_le p (p + 1 + size x) n (omega arith) b) ∙ types_same m ls x (p + 1) [] _ n (before_le p (p + 1) n (omega arith) b) ∙ set_join_same p kind T n b
types_same m ls (Br mark l rest) p names T n b = refl
types_same m ls (BrIf mark l rest) p names T n b = types_same m ls rest (p + 1) _ T n (before_le p (p + 1) n (omega arith) b)
types_same m ls (BrTable mark labels other rest) p names T n b = refl
types_same m ls (Return mark rest) p names T n b = refl
types_same m ls (Unreachable mark rest) p names T n b = refl

placed_same : (T T' : Node → ValType) (p : ℕ) (names : List Node) → AllBefore p names → ((n : Node) → IsBefore p n → T' n ≡ T n) → placed T' names ≡ placed T names
placed_same T T' p names b e = ap reverse (places names b)
  where
    places : (names : List Node) → AllBefore p names → map (place_of T') names ≡ map (place_of T) names
    places [] b = refl
    places (n ∷ names) b = ap₂ {A = Place} {B = List Place} (λ x xs. x ∷ xs) (ap (λ k. record { maker = n; kind = k }) (e n b.0)) (places names b.1)

-- Each T' that is that table on the code's own nodes and earlier ones types its places.
typed_from : (m : Module) (ls : List ValType) (code : Marked) (p e : ℕ) (names : List Node) (T T' : Node → ValType) → e ≡ p + size code → AllBefore p names
    → ((n : Node) → IsBefore e n → T' n ≡ types_from m ls code p names T n) → TypesWalk m ls T' code p names
typed_from m ls End p e names T T' q b h = tt
typed_from m ls (Do mark op rest) p e names T T' q b h =
    let cs = callees m in
    let k1 = left_type m ls op (placed T names) in
    let T1 = set_at p k1 T in
    let names1 = made cs p op names in
    let early = λ (n : Node) (bn : IsBefore p n). h n (before_le p e n (omega arith) bn) ∙ types_same m ls (Do mark op rest) p names T n bn in (
      h (At p) (omega arith) ∙ types_same m ls rest (p + 1) names1 T1 (At p) (omega arith) ∙ set_at_there p k1 T ∙ sym (ap (left_type m ls op) (placed_same T T' p names b early)),
      typed_from m ls rest (p + 1) e names1 T1 T' (omega arith) (all_before_named (p + 1) (leaves cs op) (At p) (drop (takes cs op) names) (omega arith) (all_before_le p (p + 1) (drop (takes cs op) names) (omega arith) (all_before_drop p (takes cs op) names b))) h,
    )
typed_from m ls (Block mark kind body rest) p e names T T' q b h =
    let f = p + 1 + size body in
    let T1 = set_join p kind T in
    let T2 = types_from m ls body (p + 1) [] T1 in
    let names1 = named (arity kind) (Join p) names in
    let early = λ (n : Node) (bn : IsBefore f n). h n (before_le f e n (omega arith) bn) ∙ types_same m ls rest f names1 T2 n bn in (
      set_join_there p kind T T' (early (Join p) (omega arith) ∙ types_same m ls body (p + 1) [] T1 (Join p) (omega arith)),
      typed_from m ls body (p + 1) f [] T1 T' (omega arith) tt early,
      typed_from m ls rest f e names1 T2 T' (omega arith) (all_before_named f (arity kind) (Join p) names (omega arith) (all_before_le p f names (omega arith) b)) h,
    )
typed_from m ls (Loop mark kind body rest) p e names T T' q b h =
    let f = p + 1 + size body in
    let T1 = set_join p kind T in
    let T2 = types_from m ls body (p + 1) [] T1 in
    let names1 = named (arity kind) (Join p) names in
    let early = λ (n : Node) (bn : IsBefore f n). h n (before_le f e n (omega arith) bn) ∙ types_same m ls rest f names1 T2 n bn in (
      set_join_there p kind T T' (early (Join p) (omega arith) ∙ types_same m ls body (p + 1) [] T1 (Join p) (omega arith)),
      typed_from m ls body (p + 1) f [] T1 T' (omega arith) tt early,
      typed_from m ls rest f e names1 T2 T' (omega arith) (all_before_named f (arity kind) (Join p) names (omega arith) (all_before_le p f names (omega arith) b)) h,
    )
typed_from m ls (If mark kind x y rest) p e names T T' q b h =
    let f = p + 1 + size x in
    let g = p + 1 + size x + size y in
    let T1 = set_join p kind T in
    let T2 = types_from m ls x (p + 1) [] T1 in
    let T3 = types_from m ls y f [] T2 in
    let names1 = named (arity kind) (Join p) (drop 1 names) in
    let early_y = λ (n : Node) (bn : IsBefore g n). h n (before_le g e n (omega arith) bn) ∙ types_same m ls rest g names1 T3 n bn in
    let early_x = λ (n : Node) (bn : IsBefore f n). early_y n (before_le f g n (omega arith) bn) ∙ types_same m ls y f [] T2 n bn in (
      set_join_there p kind T T' (early_x (Join p) (omega arith) ∙ types_same m ls x (p + 1) [] T1 (Join p) (omega arith)),
      typed_from m ls x (p + 1) f [] T1 T' (omega arith) tt early_x,
      typed_from m ls y f g [] T2 T' (omega arith) tt early_y,
      typed_from m ls rest g e names1 T3 T' (omega arith) (all_before_named g (arity kind) (Join p) (drop 1 names) (omega arith) (all_before_le p g (drop 1 names) (omega arith) (all_before_drop p 1 names b))) h,
    )
typed_from m ls (Br mark l rest) p e names T T' q b h = tt
typed_from m ls (BrIf mark l rest) p e names T T' q b h =
    typed_from m ls rest (p + 1) e (drop 1 names) T T' (omega arith) (all_before_le p (p + 1) (drop 1 names) (omega arith) (all_before_drop p 1 names b)) h
typed_from m ls (BrTable mark labels other rest) p e names T T' q b h = tt
typed_from m ls (Return mark rest) p e names T T' q b h = tt
typed_from m ls (Unreachable mark rest) p e names T T' q b h = tt

pub types_exist : (m : Module) (ls : List ValType) (code : Marked) → (T : Node → ValType) × TypesWalk m ls T code 0 []
types_exist m ls code = let T = types_from m ls code 0 [] (λ n. I32) in (T, typed_from m ls code 0 (0 + size code) [] (λ n. I32) T refl tt (λ n b. refl))

-- ---- these types are those of validity

none_left : {A : Type 0} (k : ValType) → k ∷ [] ≡ [] → A
none_left k e = absurd cc

one_is : (k j : ValType) → k ∷ [] ≡ j ∷ [] → j ≡ k
one_is k j e = cc

first_result : (rs : List ValType) (k : ValType) → k ∷ [] ≡ reverse rs → slice_get rs 0 ≡ Some k
first_result rs k e = ap (λ xs. slice_get xs 0) (sym (reverse-reverse rs) ∙ ap reverse (sym e))

num_left_is : (op : NumOp) (t : List ValType) (k : ValType) → TypesNum op t (k ∷ []) → num_left op ≡ k
num_left_is (num.Eqz w) t k h = one_is k _ h.1
num_left_is (num.Rel w op) t k h = one_is k _ h.1
num_left_is (num.Un w op) t k h = one_is k _ h.1
num_left_is (num.Bin w op) t k h = one_is k _ h.1
num_left_is num.Wrap t k h = one_is k _ h.1
num_left_is num.ExtendS t k h = one_is k _ h.1
num_left_is num.ExtendU t k h = one_is k _ h.1
num_left_is (num.Low op) t k h = one_is k _ h.1

behind : {A : Type 0} (xs ys : List A) (y : A) → slice_get (xs ++ y ∷ ys) (length xs) ≡ Some y
behind [] ys y = refl
behind (x ∷ xs) ys y = behind xs ys y

second_is : (T : Node → ValType) (a b : Node) (names : List Node) → kind_or (slice_get (placed T (a ∷ b ∷ names)) (length (placed T (a ∷ b ∷ names)) - 2)) ≡ T b
second_is T a b names =
    let xs = placed T names in
    let whole : placed T (a ∷ b ∷ names) ≡ xs ++ place_of T b ∷ (place_of T a ∷ []) =
    sym (one_placed T a (b ∷ names)) ∙ ap (λ z. z ++ place_of T a ∷ []) (sym (one_placed T b names)) ∙ append_assoc xs (place_of T b ∷ []) (place_of T a ∷ []) in
    let long : length (placed T (a ∷ b ∷ names)) - 2 ≡ length xs = omega (arith, ap length whole, length-append xs (place_of T b ∷ (place_of T a ∷ []))) in
    ap kind_or (ap₂ {A = List Place} {B = ℕ} (λ z n. slice_get z n) whole long ∙ behind xs (place_of T a ∷ []) (place_of T b))

select_is : (T : Node → ValType) (j : ValType) (names : List Node) → map T (take 3 names) ≡ I32 ∷ j ∷ j ∷ [] → kind_or (slice_get (placed T names) (length (placed T names) - 2)) ≡ j
select_is T j [] e = absurd cc
select_is T j (a ∷ []) e = absurd cc
select_is T j (a ∷ b ∷ names) e = second_is T a b names ∙ same (take 1 names) e
  where
    same : (ns : List Node) → T a ∷ T b ∷ map T ns ≡ I32 ∷ j ∷ j ∷ [] → T b ≡ j
    same ns e = cc

left_is : (c : Context) (T : Node → ValType) (op : Instr) (names : List Node) (k : ValType) → Types c op (map T (take (takes (callees c.inside) op) names)) (k ∷ [])
    → left_type c.inside c.locals op (placed T names) ≡ k
left_is c T instr.Nop names k h = none_left k h.1
left_is c T instr.Drop names k (j, h) = none_left k h.1
left_is c T instr.Select names k (j, h) = select_is T j names h.0 ∙ one_is k j h.1
left_is c T (instr.Call f) names k (F, at, h) = ap result_or at ∙ ap type_or (first_result F.results k h.1)
left_is c T (instr.CallIndirect type) names k (F, some, at, h) = ap result_or at ∙ ap type_or (first_result F.results k h.1)
left_is c T (instr.LocalGet x) names k (j, at, h) = ap type_or at ∙ one_is k j h.1
left_is c T (instr.LocalSet x) names k (j, at, h) = none_left k h.1
left_is c T (instr.LocalTee x) names k (j, at, h) = ap type_or at ∙ one_is k j h.1
left_is c T (instr.GlobalGet x) names k (g, at, h) = ap value_or at ∙ one_is k g.kind h.1
left_is c T (instr.GlobalSet x) names k (g, at, mut, h) = none_left k h.1
left_is c T (instr.Load op arg) names k (some, h) = one_is k _ h.1
left_is c T (instr.Store op arg) names k (some, h) = none_left k h.1
left_is c T instr.MemorySize names k (some, h) = one_is k _ h.1
left_is c T instr.MemoryGrow names k (some, h) = one_is k _ h.1
left_is c T (instr.I32Const n) names k h = one_is k _ h.1
left_is c T (instr.I64Const n) names k h = one_is k _ h.1
left_is c T (instr.Num op) names k h = num_left_is op _ k h
left_is c T instr.MemoryCopy names k (some, h) = none_left k h.1
left_is c T instr.MemoryFill names k (some, h) = none_left k h.1
left_is c T _ names k h = absurd h

-- ---- from code to sites

length-nones : (n : ℕ) → length (replicate {A = Option Site} n None) ≡ n
length-nones zero = refl
length-nones (suc n) = ap suc (length-nones n)

module _ (c : Context) (T : Node → ValType) where
  abbrev cs : Callees
  cs = callees c.inside

  record SiteTyped (p : ℕ) (s : Site) : Type 0 where
    left : (op : Instr) (k : ValType) → s.head ≡ DoHead op → Types c op (map T (take (takes cs op) s.names)) (k ∷ []) → T (At p) ≡ k
    result : (k : ValType) → HasResult s.head k → T (Join p) ≡ k

  abbrev EachTyped : ℕ → Sites → Type 0
  EachTyped p [] = Unit {0}
  EachTyped p (None ∷ xs) = EachTyped (p + 1) xs
  EachTyped p (Some s ∷ xs) = SiteTyped p s × EachTyped (p + 1) xs

  each_at : (xs : Sites) (p q r : ℕ) (s : Site) → r ≡ p + q → EachTyped p xs → slice_get xs q ≡ Some (Some s) → SiteTyped r s
  each_at [] p q r s e h at = absurd cc
  each_at (None ∷ xs) p zero r s e h at = absurd cc
  each_at (None ∷ xs) p (suc q) r s e h at = each_at xs (p + 1) q r s (omega arith) h at
  each_at (Some x ∷ xs) p zero r s e h at = let f : r ≡ p = omega arith in let g : x ≡ s = cc in rw f (subst (λ z. SiteTyped p z) g h.0)
  each_at (Some x ∷ xs) p (suc q) r s e h at = each_at xs (p + 1) q r s (omega arith) h.1 at

  -- a list of sites that goes from p up to q
  record Reach (p q : ℕ) (xs : Sites) : Type 0 where
    long : q ≡ p + length xs
    typed : EachTyped p xs

  reach_none : (p q : ℕ) → q ≡ p → Reach p q []
  reach_none p q e = record { long = omega arith; typed = tt }

  each_append : (xs ys : Sites) (p q : ℕ) → q ≡ p + length xs → EachTyped p xs → EachTyped q ys → EachTyped p (xs ++ ys)
  each_append [] ys p q e h g = let f : q ≡ p = omega arith in subst (λ n. EachTyped n ys) f g
  each_append (None ∷ xs) ys p q e h g = each_append xs ys (p + 1) q (omega arith) h g
  each_append (Some s ∷ xs) ys p q e h g = (h.0, each_append xs ys (p + 1) q (omega arith) h.1 g)

  reach_append : (xs ys : Sites) (p q r : ℕ) → Reach p q xs → Reach q r ys → Reach p r (xs ++ ys)
  reach_append xs ys p q r a b = record {
    long = let x : q ≡ p + length xs = a.long in let y : r ≡ q + length ys = b.long in omega (arith, length-append xs ys);
    typed = each_append xs ys p q a.long a.typed b.typed;
  }

  reach_one : (s : Site) (xs : Sites) (p q : ℕ) → SiteTyped p s → Reach (p + 1) q xs → Reach p q (Some s ∷ xs)
  reach_one s xs p q t h = record { long = let x : q ≡ p + 1 + length xs = h.long in omega arith; typed = (t, h.typed) }

  each_nones : (n p : ℕ) → EachTyped p (replicate n None)
  each_nones zero p = tt
  each_nones (suc n) p = each_nones n (p + 1)

  reach_nones : (n p q : ℕ) → q ≡ p + n → Reach p q (replicate n None)
  reach_nones n p q e = record { long = let x = length-nones n in omega arith; typed = each_nones n p }

  kind_there : (kind : Option ValType) (n : Node) (k : ValType) → HasKind T kind n → kind ≡ Some k → T n ≡ k
  kind_there None n k h e = absurd cc
  kind_there (Some j) n k h e = let g : j ≡ k = cc in subst (λ z. T n ≡ z) g h

  left_same : (op o : Instr) (k : ValType) (names : List Node) (p : ℕ) → DoHead op ≡ DoHead o → T (At p) ≡ left_type c.inside c.locals op (placed T names)
      → Types c o (map T (take (takes cs o) names)) (k ∷ []) → T (At p) ≡ k
  left_same op o k names p e ty h = let g : o ≡ op = cc in ty ∙ left_is c T op names k (subst (λ z. Types c z (map T (take (takes cs z) names)) (k ∷ [])) g h)

  each_walk : (code : Marked) (ctx : List Label) (k : Node) (p q : ℕ) (names : List Node) → q ≡ p + size code → TypesWalk c.inside c.locals T code p names
      → Reach p q (sites cs ctx k code p names)
  each_walk End ctx k p q names e ty = reach_none p q (omega arith)
  each_walk (Do m op rest) ctx k p q names e ty =
      reach_one _ _ p q (record { left = λ o v f h. left_same op o v names p f ty.0 h; result = λ v h. absurd h }) (each_walk rest ctx k (p + 1) q (made cs p op names) (omega arith) ty.1)
  each_walk (Block m kind body rest) ctx k p q names e ty =
      let f = p + 1 + size body in
      let L = block_label p (arity kind) f in
      reach_one _ _ p q (record { left = λ o v g h. absurd cc; result = λ v g. kind_there kind (Join p) v ty.0 g })
      (reach_append _ _ (p + 1) f q (each_walk body (L ∷ ctx) (Join p) (p + 1) f [] refl ty.1) (each_walk rest ctx k f q (named (arity kind) (Join p) names) (omega arith) ty.2))
  each_walk (Loop m kind body rest) ctx k p q names e ty =
      let f = p + 1 + size body in
      let L = loop_label p f in
      reach_one _ _ p q (record { left = λ o v g h. absurd cc; result = λ v g. kind_there kind (Join p) v ty.0 g })
      (reach_append _ _ (p + 1) f q (each_walk body (L ∷ ctx) (Join p) (p + 1) f [] refl ty.1) (each_walk rest ctx k f q (named (arity kind) (Join p) names) (omega arith) ty.2))
  each_walk (If m kind x y rest) ctx k p q names e ty =
      let f = p + 1 + size x in
      let g = p + 1 + size x + size y in
      let L = block_label p (arity kind) g in
      reach_one _ _ p q (record { left = λ o v i h. absurd cc; result = λ v i. kind_there kind (Join p) v ty.0 i })
      (reach_append _ _ (p + 1) f q (each_walk x (L ∷ ctx) (Join p) (p + 1) f [] refl ty.1)
      (reach_append _ _ f g q (each_walk y (L ∷ ctx) (Join p) f g [] refl ty.2) (each_walk rest ctx k g q (named (arity kind) (Join p) (drop 1 names)) (omega arith) ty.3)))
  each_walk (Br m l rest) ctx k p q names e ty = reach_one _ _ p q (record { left = λ o v f h. absurd cc; result = λ v h. absurd h }) (reach_nones (size rest) (p + 1) q (omega arith))
  each_walk (BrIf m l rest) ctx k p q names e ty =
      reach_one _ _ p q (record { left = λ o v f h. absurd cc; result = λ v h. absurd h }) (each_walk rest ctx k (p + 1) q (drop 1 names) (omega arith) ty)
  each_walk (BrTable m labels other rest) ctx k p q names e ty =
      reach_one _ _ p q (record { left = λ o v f h. absurd cc; result = λ v h. absurd h }) (reach_nones (size rest) (p + 1) q (omega arith))
  each_walk (Return m rest) ctx k p q names e ty = reach_one _ _ p q (record { left = λ o v f h. absurd cc; result = λ v h. absurd h }) (reach_nones (size rest) (p + 1) q (omega arith))
  each_walk (Unreachable m rest) ctx k p q names e ty = reach_one _ _ p q (record { left = λ o v f h. absurd cc; result = λ v h. absurd h }) (reach_nones (size rest) (p + 1) q (omega arith))

  pub places_of : (n : ℕ) (code : Marked) → TypesWalk c.inside c.locals T code 0 [] → TypesPlaces c (body_sites cs n code) T
  places_of n code ty =
      let S = body_sites cs n code in
      let all = (each_walk code (body_label n (size code) ∷ []) Exit 0 (0 + size code) [] refl ty).typed in
      let there = λ (p : ℕ) (s : Site) (is : IsSite S p s). each_at S 0 p p s (omega arith) all is in
      record { left = λ p s op k is e h. (there p s is).left op k e h; result = λ p s k is h. (there p s is).result k h }
