-- The values that come together at a node are those that live branches carry there and that live ends leave there.
use Rattle.std.proofs.Common.{◌≡◌, ℕ, zero, suc, ◌+◌, ◌-◌, ◌<◌, ◌≤◌, ◌↔◌, List, [], ◌∷◌, ◌++◌, true, Option, Some, None, map, take, drop, length, replicate, refl, sym, ap, ◌∙◌, subst, inl, inr, ◌⊎◌, ⊎_elim, arith, eqb-true, eq-eqb}
use Rattle.std.specs.Prelude.{slice_get}
use Rattle.std.specs.List.{Contains}
use Rattle.std.proofs.lemmas.Option.{slice_get_within}
use Rattle.std.proofs.lemmas.Bool.{cases_Bool}
use Rattle.std.proofs.Math.ListN.{length-drop}
use Rattle.wasm_types.specs.declared.module.ValType.{ValType}
use Rattle.wasm_types.specs.declared.instr.Instr.{Instr}
use Rattle.wasm_types.specs.declared.place.Node.{Node}
use Rattle.wasm_types.specs.declared.place.Node.TheVariants as node
use Rattle.wasm_types.specs.declared.place.Node.TheVariants.{Exit}
use Rattle.wasm_types.specs.Marked.{Marked, End, Do, Block, Loop, If, Br, BrIf, BrTable, Return, Unreachable, size}
use Rattle.wasm_types.specs.Actions.{Callees, takes, leaves}
use Rattle.wasm_types.specs.Nodes.{Join, named, made}
use Rattle.wasm_types.specs.Labels.{Label, arity, carried, outermost, arities, join_of, block_label, loop_label, body_label}
use Rattle.wasm_types.specs.Sites.{Site, Sites, EndAt, Among, OneOf, Branches, carry_names, sites, body_sites, end_names, one_end, inner_ends, body_ends}
use Rattle.wasm_types.specs.Takers.{node_eq, given, is_among, distinct, joining, joining_each, joinings, joined_of}
use Rattle.block_cfg.proofs.MemberLemmas.{among_left, among_right, among_cases, among_of, contains_of}
use Rattle.flow_domain.specs.Heights.{Shaped}

-- a branch carries x to j
pub record CarriedBy (s : Site) (j x : Node) : Type 0 where
  pub label : ℕ
  pub branch : Branches s.head label
  pub goal : join_of s.around label ≡ j
  pub index : ℕ
  pub within : index < carried (arities s.around) label
  pub is : slice_get (carry_names s.head s.names) index ≡ Some x

abbrev pub Carries : Sites → Node → Node → Type 0
Carries S j x = (s : Site) × (Among S (Some s) × CarriedBy s j x)

-- a live end leaves x at j
pub record LeftBy (e : EndAt) (j x : Node) : Type 0 where
  pub owner : e.owner ≡ j
  pub index : ℕ
  pub within : index < e.count
  pub is : slice_get e.names index ≡ Some x

abbrev pub Leaves : List EndAt → Node → Node → Type 0
Leaves E j x = (e : EndAt) × (Among E e × LeftBy e j x)

abbrev pub Comes : Sites → List EndAt → Node → Node → Type 0
Comes S E j x = Carries S j x ⊎ Leaves E j x

-- ---- parts of lists

comes_more : (S T : Sites) (E F : List EndAt) (j x : Node) → ((s : Site) → Among S (Some s) → Among T (Some s)) → ((e : EndAt) → Among E e → Among F e)
    → Comes S E j x → Comes T F j x
comes_more S T E F j x f g c = ⊎_elim (λ (s, (a, h)). inl (s, (f s a, h))) (λ (e, (a, h)). inr (e, (g e a, h))) c

comes_split : (S A B : Sites) (E F G : List EndAt) (j x : Node) → ((s : Site) → Among S (Some s) → Among A (Some s) ⊎ Among B (Some s))
    → ((e : EndAt) → Among E e → Among F e ⊎ Among G e) → Comes S E j x → Comes A F j x ⊎ Comes B G j x
comes_split S A B E F G j x f g c = ⊎_elim
    (λ (s, (a, h)). ⊎_elim (λ b. inl (inl (s, (b, h)))) (λ b. inr (inl (s, (b, h)))) (f s a))
    (λ (e, (a, h)). ⊎_elim (λ b. inl (inr (e, (b, h)))) (λ b. inr (inr (e, (b, h)))) (g e a))
    c

some_site : (s t : Site) → Some s ≡ Some t → s ≡ t
some_site s t e = cc

-- what the first site carries, or the others
comes_first : (s : Site) (S : Sites) (E : List EndAt) (j x : Node) → Comes (Some s ∷ S) E j x → CarriedBy s j x ⊎ Comes S E j x
comes_first s S E j x c = ⊎_elim
    (λ (t, (a, h)). ⊎_elim (λ e. inl (subst (λ z. CarriedBy z j x) (sym (some_site s t e)) h)) (λ b. inr (inl (t, (b, h)))) a)
    (λ l. inr (inr l))
    c

first_carries : (s : Site) (S : Sites) (E : List EndAt) (j x : Node) → CarriedBy s j x → Comes (Some s ∷ S) E j x
first_carries s S E j x h = inl (s, (inl refl, h))

none_some : (s : Site) → None ≡ Some s → ⊥
none_some s e = cc

no_site : (n : ℕ) (s : Site) → Among (replicate n None) (Some s) → ⊥
no_site zero s a = a
no_site (suc n) s a = ⊎_elim (none_some s) (no_site n s) a

nothing_comes : (n : ℕ) (j x : Node) → Comes (replicate n None) [] j x → ⊥
nothing_comes n j x c = ⊎_elim (λ (s, (a, h)). no_site n s a) (λ (e, (a, h)). a) c

-- the ends of a block, its contents and what stands after it
ends_in : (A B C D : List EndAt) (e : EndAt) → Among (B ++ C) e → Among (A ++ (B ++ (C ++ D))) e
ends_in A B C D e a = among_right A (B ++ (C ++ D)) e (⊎_elim
    (λ b. among_left B (C ++ D) e b)
    (λ c. among_right B (C ++ D) e (among_left C D e c))
    (among_cases B C e a))

ends_past : (A B C D : List EndAt) (e : EndAt) → Among (A ++ D) e → Among (A ++ (B ++ (C ++ D))) e
ends_past A B C D e a = ⊎_elim
    (λ b. among_left A (B ++ (C ++ D)) e b)
    (λ d. among_right A (B ++ (C ++ D)) e (among_right B (C ++ D) e (among_right C D e d)))
    (among_cases A D e a)

ends_apart : (A B C D : List EndAt) (e : EndAt) → Among (A ++ (B ++ (C ++ D))) e → Among (B ++ C) e ⊎ Among (A ++ D) e
ends_apart A B C D e a = ⊎_elim
    (λ b. inr (among_left A D e b))
    (λ r. ⊎_elim
    (λ b. inl (among_left B C e b))
    (λ q. ⊎_elim (λ c. inl (among_right B C e c)) (λ d. inr (among_right A D e d)) (among_cases C D e q))
    (among_cases B (C ++ D) e r))
    (among_cases A (B ++ (C ++ D)) e a)

-- the same with two arms
arms_first : (A B B' C C' D : List EndAt) (e : EndAt) → Among (B ++ C) e → Among (A ++ (B ++ (B' ++ (C ++ (C' ++ D))))) e
arms_first A B B' C C' D e a = among_right A (B ++ (B' ++ (C ++ (C' ++ D)))) e (⊎_elim
    (λ b. among_left B (B' ++ (C ++ (C' ++ D))) e b)
    (λ c. among_right B (B' ++ (C ++ (C' ++ D))) e (among_right B' (C ++ (C' ++ D)) e (among_left C (C' ++ D) e c)))
    (among_cases B C e a))

arms_second : (A B B' C C' D : List EndAt) (e : EndAt) → Among (B' ++ C') e → Among (A ++ (B ++ (B' ++ (C ++ (C' ++ D))))) e
arms_second A B B' C C' D e a = among_right A (B ++ (B' ++ (C ++ (C' ++ D)))) e (among_right B (B' ++ (C ++ (C' ++ D))) e (⊎_elim
    (λ b. among_left B' (C ++ (C' ++ D)) e b)
    (λ c. among_right B' (C ++ (C' ++ D)) e (among_right C (C' ++ D) e (among_left C' D e c)))
    (among_cases B' C' e a)))

arms_past : (A B B' C C' D : List EndAt) (e : EndAt) → Among (A ++ D) e → Among (A ++ (B ++ (B' ++ (C ++ (C' ++ D))))) e
arms_past A B B' C C' D e a = ⊎_elim
    (λ b. among_left A (B ++ (B' ++ (C ++ (C' ++ D)))) e b)
    (λ d. among_right A (B ++ (B' ++ (C ++ (C' ++ D)))) e (among_right B (B' ++ (C ++ (C' ++ D))) e (among_right B' (C ++ (C' ++ D)) e
    (among_right C (C' ++ D) e (among_right C' D e d)))))
    (among_cases A D e a)

arms_apart : (A B B' C C' D : List EndAt) (e : EndAt) → Among (A ++ (B ++ (B' ++ (C ++ (C' ++ D))))) e
    → Among (B ++ C) e ⊎ (Among (B' ++ C') e ⊎ Among (A ++ D) e)
arms_apart A B B' C C' D e a = ⊎_elim
    (λ b. inr (inr (among_left A D e b)))
    (λ r. ⊎_elim
    (λ b. inl (among_left B C e b))
    (λ q. ⊎_elim
    (λ b. inr (inl (among_left B' C' e b)))
    (λ o. ⊎_elim
    (λ c. inl (among_right B C e c))
    (λ n. ⊎_elim (λ c. inr (inl (among_right B' C' e c))) (λ d. inr (inr (among_right A D e d))) (among_cases C' D e n))
    (among_cases C (C' ++ D) e o))
    (among_cases B' (C ++ (C' ++ D)) e q))
    (among_cases B (B' ++ (C ++ (C' ++ D))) e r))
    (among_cases A (B ++ (B' ++ (C ++ (C' ++ D)))) e a)

-- ---- what comes to a node, as pairs

get_take : (n : ℕ) (xs : List Node) (i : ℕ) (x : Node) → slice_get (take n xs) i ≡ Some x → (i < n) × (slice_get xs i ≡ Some x)
get_take zero xs i x e = absurd cc
get_take (suc n) [] i x e = absurd cc
get_take (suc n) (y ∷ xs) zero x e = (omega arith, e)
get_take (suc n) (y ∷ xs) (suc i) x e = let r = get_take n xs i x e in let lt = r.0 in (omega arith, r.1)

take_get : (n : ℕ) (xs : List Node) (i : ℕ) (x : Node) → i < n → slice_get xs i ≡ Some x → slice_get (take n xs) i ≡ Some x
take_get zero xs i x lt e = absurd (omega arith)
take_get (suc n) [] i x lt e = absurd cc
take_get (suc n) (y ∷ xs) zero x lt e = e
take_get (suc n) (y ∷ xs) (suc i) x lt e = take_get n xs i x (omega arith) e

joining_has : (k : Node) (names : List Node) (j x : Node) → Among (joining k names) (j, x) → (k ≡ j) × ((i : ℕ) × (slice_get names i ≡ Some x))
joining_has k [] j x a = absurd a
joining_has k (n ∷ names) j x a = ⊎_elim
    (λ e. (ap (λ (z : Node × Node). z.0) e, (0, ap (λ (z : Node × Node). Some z.1) e)))
    (λ b. let r = joining_has k names j x b in (r.0, (suc r.1.0, r.1.1)))
    a

has_joining : (k : Node) (names : List Node) (j x : Node) (i : ℕ) → k ≡ j → slice_get names i ≡ Some x → Among (joining k names) (j, x)
has_joining k [] j x i e is = absurd cc
has_joining k (n ∷ names) j x zero e is = let same : n ≡ x = cc in inl (ap (λ z. (z, n)) e ∙ ap (λ z. (j, z)) same)
has_joining k (n ∷ names) j x (suc i) e is = inr (has_joining k names j x i e is)

each_has : (ks names : List Node) (j x : Node) → Among (joining_each ks names) (j, x) → Among ks j × ((i : ℕ) × (slice_get names i ≡ Some x))
each_has [] names j x a = absurd a
each_has (k ∷ ks) names j x a = ⊎_elim
    (λ h. let r = joining_has k names j x h in (inl r.0, r.1))
    (λ h. let r = each_has ks names j x h in (inr r.0, r.1))
    (among_cases (joining k names) (joining_each ks names) (j, x) a)

has_each : (ks names : List Node) (j x : Node) (i : ℕ) → Among ks j → slice_get names i ≡ Some x → Among (joining_each ks names) (j, x)
has_each [] names j x i a is = absurd a
has_each (k ∷ ks) names j x i (inl e) is = among_left (joining k names) (joining_each ks names) (j, x) (has_joining k names j x i e is)
has_each (k ∷ ks) names j x i (inr a) is = among_right (joining k names) (joining_each ks names) (j, x) (has_each ks names j x i a is)

-- ---- nodes that are the same

pub same_node : (a b : Node) → node_eq a b ≡ true → a ≡ b
same_node (node.At p) (node.At q) e = let same : p.0 ≡ q.0 = eqb-true p.0 q.0 e in ap (λ (n : ℕ). node.At (record { 0 = n })) same
same_node (node.Join p) (node.Join q) e = let same : p.0 ≡ q.0 = eqb-true p.0 q.0 e in ap (λ (n : ℕ). node.Join (record { 0 = n })) same
same_node node.Exit node.Exit e = refl
same_node (node.At p) (node.Join q) e = absurd cc
same_node (node.At p) node.Exit e = absurd cc
same_node (node.Join p) (node.At q) e = absurd cc
same_node (node.Join p) node.Exit e = absurd cc
same_node node.Exit (node.At q) e = absurd cc
same_node node.Exit (node.Join q) e = absurd cc

pub node_itself : (a : Node) → node_eq a a ≡ true
node_itself (node.At p) = eq-eqb p.0 p.0 refl
node_itself (node.Join p) = eq-eqb p.0 p.0 refl
node_itself node.Exit = refl

pub among_is : (n : Node) (ns : List Node) → is_among n ns ≡ true → Among ns n
among_is n [] e = absurd cc
among_is n (x ∷ ns) e = elim (cases_Bool (node_eq n x)) [
  | inl on ↦ inl (sym (same_node n x on))
  | inr off ↦ inr (among_is n ns (rw off at e))
]

pub is_among_of : (n : Node) (ns : List Node) → Among ns n → is_among n ns ≡ true
is_among_of n [] a = absurd a
is_among_of n (x ∷ ns) a = elim (cases_Bool (node_eq n x)) [
  | inl on ↦ rw on refl
  | inr off ↦ rw off (⊎_elim (λ e. let t : node_eq n x ≡ true = rw e (node_itself n) in absurd cc) (λ b. is_among_of n ns b) a)
]

distinct_has : (ns : List Node) (n : Node) → Among (distinct ns) n → Among ns n
distinct_has [] n a = a
distinct_has (x ∷ ns) n a = elim (cases_Bool (is_among x ns)) [
  | inl on ↦ inr (distinct_has ns n (rw on at a))
  | inr off ↦ let b : Among (x ∷ distinct ns) n = rw off at a in ⊎_elim inl (λ c. inr (distinct_has ns n c)) b
]

has_distinct : (ns : List Node) (n : Node) → Among ns n → Among (distinct ns) n
has_distinct [] n a = a
has_distinct (x ∷ ns) n a = elim (cases_Bool (is_among x ns)) [
  | inl on ↦ rw on (⊎_elim (λ e. has_distinct ns n (subst (λ z. Among ns z) e (among_is x ns on))) (λ b. has_distinct ns n b) a)
  | inr off ↦ rw off (⊎_elim inl (λ b. inr (has_distinct ns n b)) a)
]

map_has : (f : ℕ → Node) (xs : List ℕ) (y : Node) → Among (map f xs) y → (l : ℕ) × (Among xs l × (f l ≡ y))
map_has f [] y a = absurd a
map_has f (x ∷ xs) y (inl e) = (x, (inl refl, e))
map_has f (x ∷ xs) y (inr a) = let r = map_has f xs y a in (r.0, (inr r.1.0, r.1.1))

has_map : (f : ℕ → Node) (xs : List ℕ) (y : Node) (l : ℕ) → Among xs l → f l ≡ y → Among (map f xs) y
has_map f [] y l a e = absurd a
has_map f (x ∷ xs) y l (inl s) e = inl (ap f s ∙ e)
has_map f (x ∷ xs) y l (inr a) e = inr (has_map f xs y l a e)

one_of : (labels : List ℕ) (other l : ℕ) → Among (labels ++ other ∷ []) l → OneOf labels other l
one_of [] other l (inl e) = sym e
one_of [] other l (inr a) = absurd a
one_of (x ∷ labels) other l (inl e) = inl (sym e)
one_of (x ∷ labels) other l (inr a) = inr (one_of labels other l a)

of_one : (labels : List ℕ) (other l : ℕ) → OneOf labels other l → Among (labels ++ other ∷ []) l
of_one [] other l e = inl (sym e)
of_one (x ∷ labels) other l (inl e) = inl (sym e)
of_one (x ∷ labels) other l (inr a) = inr (of_one labels other l a)

-- ---- pairs of one node

pub given_has : (n : Node) (pairs : List (Node × Node)) (x : Node) → Among (given n pairs) x → Among pairs (n, x)
given_has n [] x a = a
given_has n (y ∷ pairs) x a = elim (cases_Bool (node_eq n y.0)) [
  | inl on ↦
      let b : Among (y.1 ∷ given n pairs) x = rw on at a in
      ⊎_elim (λ e. inl (ap (λ z. (z, y.1)) (sym (same_node n y.0 on)) ∙ ap (λ z. (n, z)) e)) (λ c. inr (given_has n pairs x c)) b
  | inr off ↦ inr (given_has n pairs x (rw off at a))
]

pub has_given : (n : Node) (pairs : List (Node × Node)) (x : Node) → Among pairs (n, x) → Among (given n pairs) x
has_given n [] x a = a
has_given n (y ∷ pairs) x a = elim (cases_Bool (node_eq n y.0)) [
  | inl on ↦ rw on (⊎_elim (λ e. inl (ap (λ (z : Node × Node). z.1) e)) (λ b. inr (has_given n pairs x b)) a)
  | inr off ↦
      let differs : y ≡ (n, x) → ⊥ = λ e. let t : node_eq n y.0 ≡ true = rw e (node_itself n) in cc in
      rw off (⊎_elim (λ e. absurd (differs e)) (λ b. has_given n pairs x b) a)
]

-- ---- walks

-- the live ends of a sequence, and of what it holds
abbrev all_ends : Callees → Node → ℕ → Marked → ℕ → List Node → List EndAt
all_ends cs k t c p names = one_end k t (end_names cs c p names) ++ inner_ends cs c p names

length-named : (k : ℕ) (n : Node) (names : List Node) → k ≤ 1 → length (named k n names) ≡ k + length names
length-named zero n names le = omega arith
length-named (suc k) n names le = let e : suc (length names) ≡ suc k + length names = omega arith in e

arity_small : (kind : Option ValType) → arity kind ≤ 1
arity_small None = omega arith
arity_small (Some t) = omega arith

length-made : (cs : Callees) (p : ℕ) (op : Instr) (names : List Node) → leaves cs op ≤ 1
    → length (made cs p op names) ≡ leaves cs op + (length names - takes cs op)
length-made cs p op names le = length-named (leaves cs op) (node.At (record { 0 = p })) (drop (takes cs op) names) le
    ∙ ap (λ n. leaves cs op + n) (length-drop (takes cs op) names)

length-behind : (kind : Option ValType) (b : Node) (names : List Node) → length (named (arity kind) b (drop 1 names)) ≡ arity kind + (length names - 1)
length-behind kind b names = length-named (arity kind) b (drop 1 names) (arity_small kind) ∙ ap (λ n. arity kind + n) (length-drop 1 names)

among_pair : (xs ys : List (Node × Node)) (j x : Node) → Among (xs ++ ys) (j, x) → Among xs (j, x) ⊎ Among ys (j, x)
among_pair xs ys j x a = among_cases xs ys (j, x) a

module _ (cs : Callees) (W : Instr → Type 0) where
  into : (c : Marked) (ctx : List Label) (k : Node) (p : ℕ) (names : List Node) (t : ℕ) → Shaped cs W (arities ctx) t c (length names) → (j x : Node)
      → Among (joinings cs ctx k c p names) (j, x) → Comes (sites cs ctx k c p names) (all_ends cs k t c p names) j x
  into End ctx k p names t shape j x a =
      let r = joining_has k names j x a in
      let lt : r.1.0 < length names = slice_get_within names r.1.0 x r.1.1 in
      inr (record { owner = k; count = t; names = names }, (inl refl, record { owner = r.0; index = r.1.0; within = omega (arith, shape); is = r.1.1 }))
  into (Do m op rest) ctx k p names t shape j x a =
      comes_more (sites cs ctx k rest (p + 1) (made cs p op names)) (sites cs ctx k (Do m op rest) p names) (all_ends cs k t rest (p + 1) (made cs p op names))
      (all_ends cs k t rest (p + 1) (made cs p op names)) j x (λ s b. inr b) (λ e b. b)
      (into rest ctx k (p + 1) (made cs p op names) t (subst (λ n. Shaped cs W (arities ctx) t rest n) (sym
      (length-made cs p op names shape.2)) shape.3) j x a)
  into (Block m kind body rest) ctx k p names t shape j x a =
      let e = p + 1 + size body in
      let inside = block_label p (arity kind) e ∷ ctx in
      let after = named (arity kind) (Join p) names in
      let S = sites cs inside (Join p) body (p + 1) [] in
      let T = sites cs ctx k rest e after in
      let A = one_end k t (end_names cs rest e after) in
      let B = one_end (Join p) (arity kind) (end_names cs body (p + 1) []) in
      let C = inner_ends cs body (p + 1) [] in
      let D = inner_ends cs rest e after in
      ⊎_elim
      (λ b. comes_more S (sites cs ctx k (Block m kind body rest) p names) (B ++ C) (A ++ (B ++ (C ++ D))) j x (λ s q. inr (among_left S T (Some s) q))
      (ends_in A B C D) (into body inside (Join p) (p + 1) [] (arity kind) shape.0 j x b))
      (λ b. comes_more T (sites cs ctx k (Block m kind body rest) p names) (A ++ D) (A ++ (B ++ (C ++ D))) j x (λ s q. inr (among_right S T (Some s) q))
      (ends_past A B C D)
      (into rest ctx k e after t (subst (λ n. Shaped cs W (arities ctx) t rest n) (sym (length-named (arity kind) (Join p) names
      (arity_small kind))) shape.1) j x b))
      (among_pair (joinings cs inside (Join p) body (p + 1) []) (joinings cs ctx k rest e after) j x a)
  into (Loop m kind body rest) ctx k p names t shape j x a =
      let e = p + 1 + size body in
      let inside = loop_label p e ∷ ctx in
      let after = named (arity kind) (Join p) names in
      let S = sites cs inside (Join p) body (p + 1) [] in
      let T = sites cs ctx k rest e after in
      let A = one_end k t (end_names cs rest e after) in
      let B = one_end (Join p) (arity kind) (end_names cs body (p + 1) []) in
      let C = inner_ends cs body (p + 1) [] in
      let D = inner_ends cs rest e after in
      ⊎_elim
      (λ b. comes_more S (sites cs ctx k (Loop m kind body rest) p names) (B ++ C) (A ++ (B ++ (C ++ D))) j x (λ s q. inr (among_left S T (Some s) q))
      (ends_in A B C D) (into body inside (Join p) (p + 1) [] (arity kind) shape.0 j x b))
      (λ b. comes_more T (sites cs ctx k (Loop m kind body rest) p names) (A ++ D) (A ++ (B ++ (C ++ D))) j x (λ s q. inr (among_right S T (Some s) q))
      (ends_past A B C D)
      (into rest ctx k e after t (subst (λ n. Shaped cs W (arities ctx) t rest n) (sym (length-named (arity kind) (Join p) names
      (arity_small kind))) shape.1) j x b))
      (among_pair (joinings cs inside (Join p) body (p + 1) []) (joinings cs ctx k rest e after) j x a)
  into (If m kind y z rest) ctx k p names t shape j x a =
      let f = p + 1 + size y in
      let e = p + 1 + size y + size z in
      let inside = block_label p (arity kind) e ∷ ctx in
      let after = named (arity kind) (Join p) (drop 1 names) in
      let S = sites cs inside (Join p) y (p + 1) [] in
      let S' = sites cs inside (Join p) z f [] in
      let T = sites cs ctx k rest e after in
      let A = one_end k t (end_names cs rest e after) in
      let B = one_end (Join p) (arity kind) (end_names cs y (p + 1) []) in
      let B' = one_end (Join p) (arity kind) (end_names cs z f []) in
      let C = inner_ends cs y (p + 1) [] in
      let C' = inner_ends cs z f [] in
      let D = inner_ends cs rest e after in
      let all = A ++ (B ++ (B' ++ (C ++ (C' ++ D)))) in
      let here = sites cs ctx k (If m kind y z rest) p names in
      ⊎_elim
      (λ b. comes_more S here (B ++ C) all j x (λ s q. inr (among_left S (S' ++ T) (Some s) q)) (arms_first A B B' C C' D)
      (into y inside (Join p) (p + 1) [] (arity kind) shape.1 j x b))
      (λ r. ⊎_elim
      (λ b. comes_more S' here (B' ++ C') all j x (λ s q. inr (among_right S (S' ++ T) (Some s) (among_left S' T (Some s) q))) (arms_second A B B' C C' D)
      (into z inside (Join p) f [] (arity kind) shape.2 j x b))
      (λ b. comes_more T here (A ++ D) all j x (λ s q. inr (among_right S (S' ++ T) (Some s) (among_right S' T (Some s) q))) (arms_past A B B' C C' D)
      (into rest ctx k e after t (subst (λ n. Shaped cs W (arities ctx) t rest n) (sym (length-behind kind (Join p) names)) shape.3) j x b))
      (among_pair (joinings cs inside (Join p) z f []) (joinings cs ctx k rest e after) j x r))
      (among_pair (joinings cs inside (Join p) y (p + 1) []) (joinings cs inside (Join p) z f [] ++ joinings cs ctx k rest e after) j x a)
  into (Br m l rest) ctx k p names t shape j x a =
      let r = joining_has (join_of ctx l) (take (carried (arities ctx) l) names) j x a in
      let g = get_take (carried (arities ctx) l) names r.1.0 x r.1.1 in
      first_carries _ _ [] j x (record { label = l; branch = refl; goal = r.0; index = r.1.0; within = g.0; is = g.1 })
  into (BrIf m l rest) ctx k p names t shape j x a = ⊎_elim
      (λ b.
      let r = joining_has (join_of ctx l) (take (carried (arities ctx) l) (drop 1 names)) j x b in
      let g = get_take (carried (arities ctx) l) (drop 1 names) r.1.0 x r.1.1 in
      first_carries _ _ (all_ends cs k t rest (p + 1) (drop 1 names)) j x
      (record { label = l; branch = refl; goal = r.0; index = r.1.0; within = g.0; is = g.1 }))
      (λ b. comes_more (sites cs ctx k rest (p + 1) (drop 1 names)) (sites cs ctx k (BrIf m l rest) p names) (all_ends cs k t rest (p + 1) (drop 1 names))
      (all_ends cs k t rest (p + 1) (drop 1 names)) j x (λ s q. inr q) (λ e q. q)
      (into rest ctx k (p + 1) (drop 1 names) t (subst (λ n. Shaped cs W (arities ctx) t rest n) (sym (length-drop 1 names)) shape.2) j x b))
      (among_pair (joining (join_of ctx l) (take (carried (arities ctx) l) (drop 1 names))) (joinings cs ctx k rest (p + 1) (drop 1 names)) j x a)
  into (BrTable m labels other rest) ctx k p names t shape j x a =
      let ks = distinct (map (join_of ctx) (labels ++ other ∷ [])) in
      let r = each_has ks (take (carried (arities ctx) other) (drop 1 names)) j x a in
      let l = map_has (join_of ctx) (labels ++ other ∷ []) j (distinct_has (map (join_of ctx) (labels ++ other ∷ [])) j r.0) in
      let g = get_take (carried (arities ctx) other) (drop 1 names) r.1.0 x r.1.1 in
      let one = one_of labels other l.0 l.1.0 in
      let same : carried (arities ctx) l.0 ≡ carried (arities ctx) other = (shape.1 l.0 one).2 in
      first_carries _ _ [] j x (record { label = l.0; branch = one; goal = l.1.1; index = r.1.0; within = rw same g.0; is = g.1 })
  into (Return m rest) ctx k p names t shape j x a =
      let l = outermost (arities ctx) in
      let r = joining_has (join_of ctx l) (take (carried (arities ctx) l) names) j x a in
      let g = get_take (carried (arities ctx) l) names r.1.0 x r.1.1 in
      first_carries _ _ [] j x (record { label = l; branch = refl; goal = r.0; index = r.1.0; within = g.0; is = g.1 })
  into (Unreachable m rest) ctx k p names t shape j x a = absurd a

  back : (c : Marked) (ctx : List Label) (k : Node) (p : ℕ) (names : List Node) (t : ℕ) → Shaped cs W (arities ctx) t c (length names) → (j x : Node)
      → Comes (sites cs ctx k c p names) (all_ends cs k t c p names) j x → Among (joinings cs ctx k c p names) (j, x)
  back End ctx k p names t shape j x h = ⊎_elim
      (λ (s, (a, b)). absurd a)
      (λ (e, (a, b)). ⊎_elim
      (λ is. let u : LeftBy (record { owner = k; count = t; names = names }) j x = subst (λ z. LeftBy z j x) (sym is) b in
      has_joining k names j x u.index u.owner u.is)
      (λ none. absurd none) a)
      h
  back (Do m op rest) ctx k p names t shape j x h = ⊎_elim
      (λ b. absurd b.branch)
      (λ b. back rest ctx k (p + 1) (made cs p op names) t (subst (λ n. Shaped cs W (arities ctx) t rest n) (sym
      (length-made cs p op names shape.2)) shape.3) j x b)
      (comes_first _ (sites cs ctx k rest (p + 1) (made cs p op names)) (all_ends cs k t rest (p + 1) (made cs p op names)) j x h)
  back (Block m kind body rest) ctx k p names t shape j x h =
      let e = p + 1 + size body in
      let inside = block_label p (arity kind) e ∷ ctx in
      let after = named (arity kind) (Join p) names in
      let S = sites cs inside (Join p) body (p + 1) [] in
      let T = sites cs ctx k rest e after in
      let A = one_end k t (end_names cs rest e after) in
      let B = one_end (Join p) (arity kind) (end_names cs body (p + 1) []) in
      let C = inner_ends cs body (p + 1) [] in
      let D = inner_ends cs rest e after in
      let J = joinings cs inside (Join p) body (p + 1) [] in
      let K = joinings cs ctx k rest e after in
      ⊎_elim
      (λ b. absurd b.branch)
      (λ r. ⊎_elim
      (λ b. among_left J K (j, x) (back body inside (Join p) (p + 1) [] (arity kind) shape.0 j x b))
      (λ b. among_right J K (j, x)
      (back rest ctx k e after t (subst (λ n. Shaped cs W (arities ctx) t rest n) (sym (length-named (arity kind) (Join p) names
      (arity_small kind))) shape.1) j x b))
      (comes_split (S ++ T) S T (A ++ (B ++ (C ++ D))) (B ++ C) (A ++ D) j x (λ s q. among_cases S T (Some s) q) (ends_apart A B C D) r))
      (comes_first _ (S ++ T) (A ++ (B ++ (C ++ D))) j x h)
  back (Loop m kind body rest) ctx k p names t shape j x h =
      let e = p + 1 + size body in
      let inside = loop_label p e ∷ ctx in
      let after = named (arity kind) (Join p) names in
      let S = sites cs inside (Join p) body (p + 1) [] in
      let T = sites cs ctx k rest e after in
      let A = one_end k t (end_names cs rest e after) in
      let B = one_end (Join p) (arity kind) (end_names cs body (p + 1) []) in
      let C = inner_ends cs body (p + 1) [] in
      let D = inner_ends cs rest e after in
      let J = joinings cs inside (Join p) body (p + 1) [] in
      let K = joinings cs ctx k rest e after in
      ⊎_elim
      (λ b. absurd b.branch)
      (λ r. ⊎_elim
      (λ b. among_left J K (j, x) (back body inside (Join p) (p + 1) [] (arity kind) shape.0 j x b))
      (λ b. among_right J K (j, x)
      (back rest ctx k e after t (subst (λ n. Shaped cs W (arities ctx) t rest n) (sym (length-named (arity kind) (Join p) names
      (arity_small kind))) shape.1) j x b))
      (comes_split (S ++ T) S T (A ++ (B ++ (C ++ D))) (B ++ C) (A ++ D) j x (λ s q. among_cases S T (Some s) q) (ends_apart A B C D) r))
      (comes_first _ (S ++ T) (A ++ (B ++ (C ++ D))) j x h)
  back (If m kind y z rest) ctx k p names t shape j x h =
      let f = p + 1 + size y in
      let e = p + 1 + size y + size z in
      let inside = block_label p (arity kind) e ∷ ctx in
      let after = named (arity kind) (Join p) (drop 1 names) in
      let S = sites cs inside (Join p) y (p + 1) [] in
      let S' = sites cs inside (Join p) z f [] in
      let T = sites cs ctx k rest e after in
      let A = one_end k t (end_names cs rest e after) in
      let B = one_end (Join p) (arity kind) (end_names cs y (p + 1) []) in
      let B' = one_end (Join p) (arity kind) (end_names cs z f []) in
      let C = inner_ends cs y (p + 1) [] in
      let C' = inner_ends cs z f [] in
      let D = inner_ends cs rest e after in
      let all = A ++ (B ++ (B' ++ (C ++ (C' ++ D)))) in
      let J = joinings cs inside (Join p) y (p + 1) [] in
      let J' = joinings cs inside (Join p) z f [] in
      let K = joinings cs ctx k rest e after in
      -- the two arms and the rest have their ends between them
      ⊎_elim
      (λ b. absurd b.branch)
      (λ r. ⊎_elim
      (λ b. among_left J (J' ++ K) (j, x) (back y inside (Join p) (p + 1) [] (arity kind) shape.1 j x b))
      (λ q. among_right J (J' ++ K) (j, x) (⊎_elim
      (λ b. among_left J' K (j, x) (back z inside (Join p) f [] (arity kind) shape.2 j x b))
      (λ b. among_right J' K (j, x)
      (back rest ctx k e after t (subst (λ n. Shaped cs W (arities ctx) t rest n) (sym (length-behind kind (Join p) names)) shape.3) j x b))
      (comes_split (S' ++ T) S' T ((B' ++ C') ++ (A ++ D)) (B' ++ C') (A ++ D) j x (λ s o. among_cases S' T (Some s) o)
      (λ o w. among_cases (B' ++ C') (A ++ D) o w) q)))
      (comes_split (S ++ (S' ++ T)) S (S' ++ T) all (B ++ C) ((B' ++ C') ++ (A ++ D)) j x (λ s o. among_cases S (S' ++ T) (Some s) o)
      (λ o w. ⊎_elim inl (λ v. inr (⊎_elim (λ u. among_left (B' ++ C') (A ++ D) o u) (λ u. among_right (B' ++ C') (A ++ D) o u) v))
      (arms_apart A B B' C C' D o w))
      r))
      (comes_first _ (S ++ (S' ++ T)) all j x h)
  back (Br m l rest) ctx k p names t shape j x h = ⊎_elim
      (λ b.
      let one : b.label ≡ l = b.branch in
      let lt : b.index < carried (arities ctx) l = rw one at b.within in
      has_joining (join_of ctx l) (take (carried (arities ctx) l) names) j x b.index (rw one at b.goal) (take_get (carried
      (arities ctx) l) names b.index x lt b.is))
      (λ b. absurd (nothing_comes (size rest) j x b))
      (comes_first _ (replicate (size rest) None) [] j x h)
  back (BrIf m l rest) ctx k p names t shape j x h =
      let J = joining (join_of ctx l) (take (carried (arities ctx) l) (drop 1 names)) in
      let K = joinings cs ctx k rest (p + 1) (drop 1 names) in
      ⊎_elim
      (λ b.
      let one : b.label ≡ l = b.branch in
      let lt : b.index < carried (arities ctx) l = rw one at b.within in
      among_left J K (j, x) (has_joining (join_of ctx l) (take (carried (arities ctx) l) (drop 1 names)) j x b.index (rw one at b.goal)
      (take_get (carried (arities ctx) l) (drop 1 names) b.index x lt b.is)))
      (λ b. among_right J K (j, x)
      (back rest ctx k (p + 1) (drop 1 names) t (subst (λ n. Shaped cs W (arities ctx) t rest n) (sym (length-drop 1 names)) shape.2) j x b))
      (comes_first _ (sites cs ctx k rest (p + 1) (drop 1 names)) (all_ends cs k t rest (p + 1) (drop 1 names)) j x h)
  back (BrTable m labels other rest) ctx k p names t shape j x h = ⊎_elim
      (λ b.
      let same : carried (arities ctx) b.label ≡ carried (arities ctx) other = (shape.1 b.label b.branch).2 in
      let lt : b.index < carried (arities ctx) other = rw same at b.within in
      let all = labels ++ other ∷ [] in
      has_each (distinct (map (join_of ctx) all)) (take (carried (arities ctx) other) (drop 1 names)) j x b.index
      (has_distinct (map (join_of ctx) all) j (has_map (join_of ctx) all j b.label (of_one labels other b.label b.branch) b.goal))
      (take_get (carried (arities ctx) other) (drop 1 names) b.index x lt b.is))
      (λ b. absurd (nothing_comes (size rest) j x b))
      (comes_first _ (replicate (size rest) None) [] j x h)
  back (Return m rest) ctx k p names t shape j x h = ⊎_elim
      (λ b.
      let l = outermost (arities ctx) in
      let one : b.label ≡ l = b.branch in
      let lt : b.index < carried (arities ctx) l = rw one at b.within in
      has_joining (join_of ctx l) (take (carried (arities ctx) l) names) j x b.index (rw one at b.goal) (take_get (carried
      (arities ctx) l) names b.index x lt b.is))
      (λ b. absurd (nothing_comes (size rest) j x b))
      (comes_first _ (replicate (size rest) None) [] j x h)
  back (Unreachable m rest) ctx k p names t shape j x h = ⊎_elim
      (λ b. absurd b.branch)
      (λ b. absurd (nothing_comes (size rest) j x b))
      (comes_first _ (replicate (size rest) None) [] j x h)

  -- the values that come to a node in a body that keeps to its heights
  pub joined_comes : (t : ℕ) (c : Marked) → Shaped cs W (t ∷ []) t c 0 → (j x : Node)
      → Contains (joined_of cs t c j) x ↔ Comes (body_sites cs t c) (body_ends cs t c) j x
  joined_comes t c shape j x =
      let pairs = joinings cs (body_label t (size c) ∷ []) Exit c 0 [] in (
        λ h. into c (body_label t (size c) ∷ []) Exit 0 [] t shape j x (given_has j pairs x (among_of (given j pairs) x h)),
        λ h. contains_of (given j pairs) x (has_given j pairs x (back c (body_label t (size c) ∷ []) Exit 0 [] t shape j x h)),
      )
