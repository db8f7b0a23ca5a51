-- What the names of a function's values tell makes the cut of its body.
use Rattle.std.proofs.Common.{inl, inr, ◌≡◌, ◌⊎◌, ℕ, zero, suc, ◌+◌, ◌*◌, ◌-◌, ◌^◌, ◌<◌, ◌≤◌, List, [], ◌∷◌, ◌++◌, replicate, Bool, true, false, ◌||◌, Option, Some, None, is_some, length-append, take, length, slice_get, nat_eq, refl, sym, ap, ◌∙◌, subst, arith}
use Rattle.std.proofs.Math.Path.{fun_ext}
use Rattle.std.proofs.lemmas.List.{length-replicate}
use Rattle.std.proofs.lemmas.Option.{slice_get_within}
use Rattle.wasm_types.specs.declared.module.ValType.{ValType}
use Rattle.wasm_types.specs.declared.module.Pos.{Pos}
use Rattle.block_cfg.specs.Graph.{number}
use Rattle.wasm_types.specs.declared.module.FuncType.{FuncType}
use Rattle.wasm_types.specs.declared.module.Body.{Body}
use Rattle.wasm_types.specs.declared.module.Module.{Module}
use Rattle.wasm_types.specs.declared.place.Node.{Node}
use Rattle.wasm_types.specs.declared.place.Node.TheVariants as node
use Rattle.wasm_types.specs.declared.place.Taker.{Taker}
use Rattle.wasm_types.specs.declared.place.Taker.TheVariants as taker
use Rattle.wasm_types.specs.Code.{code_of, count}
use Rattle.wasm_types.specs.Marked.{Marked, End, Do, Block, Loop, If, Br, BrIf, BrTable, Return, Unreachable, unmarked, size, marks, first_mark, watched_at}
use Rattle.wasm_types.specs.Spaces.{type_of_func, HasBody}
use Rattle.wasm_types.specs.Typing.{Context}
use Rattle.wasm_types.specs.Actions.{callees}
use Rattle.wasm_types.specs.Nodes.{At}
use Rattle.wasm_types.specs.Labels.{body_label}
use Rattle.wasm_types.specs.Sites.{Site, Sites, IsSite, EndAt, Among, all_operands, one_end, end_names, inner_ends}
use Rattle.wasm_types.specs.Takers.{node_eq, takings, takers_of}
use Rattle.wasm_types.specs.Places.{TypesPlaces}
use Rattle.stack_names.specs.declared.place.Place.{Place}
use Rattle.stack_names.specs.Ends.{is_end, ends_at as has_end, HasEnds}
use Rattle.stack_names.specs.Named.{Named, of_node, operands_in, place_of, placed, listed_all}
use Rattle.stack_names.proofs.PlaceLemmas.{one_placed}
use Rattle.stack_names.proofs.WalkLaw.{size_marked}
use Rattle.flow_domain.specs.Kept.{Tells}
use Rattle.flow_domain.specs.Presence.{AmongFirst, IsNeeded}
use Rattle.flow_domain.specs.Sliced.{context_of, result_type, watched_once, sites_at, ends_at, cut_of, with_code}
use Rattle.stack_repair.specs.Law.{HasTypedBody}
use Rattle.stack_repair.specs.Told.{is_kept, any_kept, is_kept_end, any_kept_end, ends_kept, is_present, Told, kind_or_none, taken_kind, present_in, put_in, told_of}
use Rattle.stack_repair.specs.Cuts.{IsCut}
use Rattle.stack_repair.proofs.Counting.{cut_is_short}
use Rattle.stack_repair.proofs.Typed.{Typed}
use Rattle.stack_repair.proofs.Positions.{has_all, length-sites, among_left, among_right, among_end}
use Rattle.stack_repair.proofs.Bodies.{typed_body, typed_code, live_body, types_of_body, one_cut_code}
use Rattle.stack_repair.proofs.Takings.{node_same, node_self, has_given, given_has, MadeIn, IsTaken, EachTaken, taken_in, each_taken}
use Rattle.stack_repair.proofs.Takers.{sites_taken, each_at}
use Rattle.stack_repair.proofs.Present.{or_left, or_right, or_true, any_in, in_any, present_tells}
use Rattle.stack_repair.proofs.TakenTypes.{some_kind, KeptOperand, noted_from, Fit, operands_fit, fit_among, operand_made, noted_at}
use Rattle.stack_repair.proofs.ToldCut.{operands_listed, told_is}

-- ---- tests

same_bool : (a b : Bool) → (a ≡ true → b ≡ true) → (b ≡ true → a ≡ true) → a ≡ b
same_bool true true p q = refl
same_bool true false p q = sym (p refl)
same_bool false true p q = q refl
same_bool false false p q = refl

-- two tests of one set are one
pub one_test : (K L : Node → Bool) (Is : Node → Type 0) → Tells K Is → Tells L Is → K ≡ L
one_test K L Is k l = fun_ext (λ n. same_bool (K n) (L n) (λ h. (l n).1 ((k n).0 h)) (λ h. (k n).1 ((l n).0 h)))

-- ---- names of a function of this type with this body

pub record NamedAt (m : Module) (F : FuncType) (b : Body) (i : ℕ) (n : Named) : Type 0 where
  pub types : Node → ValType
  pub typed : TypesPlaces (context_of m F b) (sites_at (callees m) F b i) types
  pub rows : n.positions ≡ listed_all (callees m) types (sites_at (callees m) F b i)
  pub ended : (end k : Node) → has_end end (of_node n.takers k) ≡ has_end end (takers_of (callees m) (length F.results) (watched_once b i) k)

same_some : {A : Type 0} {x y : A} → Some x ≡ Some y → x ≡ y
same_some e = cc

pub named_at : (m : Module) (f i : ℕ) (n : Named) (F : FuncType) (b : Body) → HasEnds m f (nat_eq i) n → type_of_func m f ≡ Some F → HasBody m f b
    → NamedAt m F b i n
named_at m f i n F b a is has =
    let v = a.values in
    let kind : v.kind ≡ F = same_some (sym v.kind_is ∙ is) in
    let body : v.body ≡ b = same_some (sym v.has_body.1 ∙ has.1) in
    subst (λ (x : FuncType). NamedAt m x b i n) kind (subst (λ (y : Body). NamedAt m v.kind y i n) body (record { types = v.types; typed = v.typed; rows = v.positions; ended = a.ended }))

-- ---- ends among takers

among_ends : (k : Node) (xs : List Taker) → Among xs (taker.End k) → has_end k xs ≡ true
among_ends k [] a = absurd a
among_ends k (x ∷ xs) (inl e) = or_left (is_end k x) (has_end k xs) (ap (is_end k) e ∙ node_self k)
among_ends k (x ∷ xs) (inr a) = or_right (is_end k x) (has_end k xs) (among_ends k xs a)

ends_among : (k : Node) (xs : List Taker) → has_end k xs ≡ true → Among xs (taker.End k)
ends_among k [] e = absurd cc
ends_among k (taker.Instr p ∷ xs) e = inr (ends_among k xs e)
ends_among k (taker.End n ∷ xs) e = go (or_true (node_eq n k) (has_end k xs) e) (ends_among k xs)
  where
    go : (node_eq n k ≡ true) ⊎ (has_end k xs ≡ true) → (has_end k xs ≡ true → Among xs (taker.End k)) → Among (taker.End n ∷ xs) (taker.End k)
    go (inl q) more = inl (ap (λ z. taker.End z) (node_same n k q))
    go (inr q) more = inr (more q)

among_kept_end : (K : Node → Bool) (k : Node) (xs : List Taker) → Among xs (taker.End k) → is_kept K (taker.End k) ≡ true → any_kept_end K xs ≡ true
among_kept_end K k [] a on = absurd a
among_kept_end K k (x ∷ xs) (inl e) on = or_left (is_kept_end K x) (any_kept_end K xs) (ap (is_kept_end K) e ∙ on)
among_kept_end K k (x ∷ xs) (inr a) on = or_right (is_kept_end K x) (any_kept_end K xs) (among_kept_end K k xs a on)

kept_end_among : (K : Node → Bool) (xs : List Taker) → any_kept_end K xs ≡ true → (k : Node) × Among xs (taker.End k) × (is_kept K (taker.End k) ≡ true)
kept_end_among K [] e = absurd cc
kept_end_among K (taker.Instr p ∷ xs) e = let r = kept_end_among K xs e in (r.0, inr r.1, r.2)
kept_end_among K (taker.End n ∷ xs) e = go (or_true (is_kept K (taker.End n)) (any_kept_end K xs) e) (kept_end_among K xs)
  where
    go : (is_kept K (taker.End n) ≡ true) ⊎ (any_kept_end K xs ≡ true) → (any_kept_end K xs ≡ true → (k : Node) × Among xs (taker.End k) × (is_kept K (taker.End k) ≡ true))
        → (k : Node) × Among (taker.End n ∷ xs) (taker.End k) × (is_kept K (taker.End k) ≡ true)
    go (inl q) more = (n, inl refl, q)
    go (inr q) more = let r = more q in (r.0, inr r.1, r.2)

is_some_of : {A : Type 0} (o : Option A) → is_some o ≡ true → (v : A) × (o ≡ Some v)
is_some_of None e = absurd cc
is_some_of (Some v) e = (v, refl)

-- ---- the body

among_reverse : (xs : List Place) (x : Place) → Among (xs ++ x ∷ []) x
among_reverse [] x = inl refl
among_reverse (y ∷ xs) x = inr (among_reverse xs x)

among_placed : (T : Node → ValType) (n i : ℕ) (names : List Node) (d : Node) → i < n → slice_get names i ≡ Some d → Among (placed T (take n names)) (place_of T d)
among_placed T zero i names d lt e = absurd (omega arith)
among_placed T (suc n) i [] d lt e = absurd cc
among_placed T (suc n) zero (x ∷ names) d lt e =
    let f : x ≡ d = cc in
    subst (λ z. Among z (place_of T d)) (one_placed T x (take n names)) (subst (λ z. Among (placed T (take n names) ++ place_of T x ∷ []) (place_of T z)) f (among_reverse (placed T (take n names)) (place_of T x)))
among_placed T (suc n) (suc i) (x ∷ names) d lt e =
    subst (λ z. Among z (place_of T d)) (one_placed T x (take n names)) (among_left (placed T (take n names)) (place_of T x ∷ []) (place_of T d) (among_placed T n i names d (omega arith) e))

-- what takes the values of a body, as pairs
abbrev pairs_of : Module → FuncType → Body → ℕ → List (Node × Taker)
pairs_of m F b i = takings (callees m) (body_label (length F.results) (size (watched_once b i)) ∷ []) node.Exit (watched_once b i) 0 []

body_typed : (m : Module) (F : FuncType) (b : Body) → HasTypedBody m F b → (i : ℕ) (T : Node → ValType) → TypesPlaces (context_of m F b) (sites_at (callees m) F b i) T
    → Typed (context_of m F b) T (F.results ∷ []) (result_type F) (watched_once b i) 0 []
body_typed m F b h i T ty =
    let c = context_of m F b in typed_code c (result_type F) (code_of b.code) (nat_eq i) T (typed_body m F b h) (live_body c (length F.results) (watched_once b i) T ty)

body_taken : (m : Module) (F : FuncType) (b : Body) → HasTypedBody m F b → (i : ℕ) (T : Node → ValType) → TypesPlaces (context_of m F b) (sites_at (callees m) F b i) T
    → EachTaken (context_of m F b) (sites_at (callees m) F b i) (ends_at (callees m) F b i) T (pairs_of m F b i)
body_taken m F b h i T ty =
    let c = context_of m F b in
    let d = watched_once b i in
    let S = sites_at (callees m) F b i in
    let ends = ends_at (callees m) F b i in
    let e1 = one_end node.Exit (length F.results) (end_names (callees m) d 0 []) in
    each_taken c S ends T d (body_label (length F.results) (size d) ∷ []) (F.results ∷ []) node.Exit (result_type F) 0 [] (has_all [] S 0 refl) (body_typed m F b h i T ty) refl tt refl
    (λ ns e. (record { owner = node.Exit; count = length F.results; names = ns }, among_left e1 (inner_ends (callees m) d 0 []) _ (among_end node.Exit (length F.results) ns (end_names (callees m) d 0 []) e), refl, sym (typed_body m F b h).arity, refl))
    (λ z q. among_right e1 (inner_ends (callees m) d 0 []) z q)

-- some test tells the places that a kept set needs
pub needed_told : (m : Module) (F : FuncType) (b : Body) → HasTypedBody m F b → (i : ℕ) (K : Node → Bool)
    → (P : Node → Bool) × Tells P (IsNeeded (callees m) (sites_at (callees m) F b i) (ends_at (callees m) F b i) K)
needed_told m F b h i K =
    let takers = takers_of (callees m) (length F.results) (watched_once b i) in
    let T = types_of_body m F b (nat_eq i) in
    (is_present K takers, present_tells (context_of m F b) T.0 (watched_once b i) K takers (λ k. refl) (body_taken m F b h i T.0 T.1))

module _ (m : Module) (F : FuncType) (b : Body) (h : HasTypedBody m F b) (i : ℕ) (n : Named) (a : NamedAt m F b i n) where
  abbrev c : Context
  c = context_of m F b

  abbrev d : Marked
  d = watched_once b i

  abbrev S : Sites
  S = sites_at (callees m) F b i

  abbrev ends : List EndAt
  ends = ends_at (callees m) F b i

  abbrev L : List (Node × Taker)
  L = pairs_of m F b i

  typed : Typed c a.types (F.results ∷ []) (result_type F) d 0 []
  typed = body_typed m F b h i a.types a.typed

  each : EachTaken c S ends a.types L
  each = body_taken m F b h i a.types a.typed

  within : (p : ℕ) (s : Site) → IsSite S p s → p < count (code_of b.code)
  within p s is =
      let w = slice_get_within S p (Some s) is in
      let l = length-sites (callees m) d (body_label (length F.results) (size d) ∷ []) node.Exit 0 [] in
      let z = size_marked (nat_eq i) 0 (code_of b.code) in
      omega arith

  abbrev takers : Node → List Taker
  takers k = takers_of (callees m) (length F.results) d k

  -- each maker has a number that is small enough
  few : (k x : Node) → MadeIn c S ends a.types k x → number x < 2 * count (code_of b.code) + 1
  few k (node.At q) h = let lt = within q.0 h.0 h.2 in omega arith
  few k (node.Join q) h = let lt = within q.0 h.0 h.1 in omega arith
  few k node.Exit h = omega arith

  module _ (K : Node → Bool) where
    abbrev D : Told
    D = told_of n K b i

    -- what keeps a type: a kept instruction that takes the value
    kept_at : (x : Node) (v : ValType) → taken_kind D x ≡ Some v → KeptOperand K n x v
    kept_at x v e =
        noted_from K n (count (code_of b.code)) (2 * count (code_of b.code) + 1) x v (some_kind (slice_get D.kinds (number x)) v e)

    typed_as : (x : Node) (v : ValType) → taken_kind D x ≡ Some v → v ≡ a.types x
    typed_as x v e =
        let h = kept_at x v e in
        let fit = fit_among a.types (operands_in n.positions h.0) h.1 (subst (λ z. Fit a.types (operands_in z h.0)) (sym a.rows) (operands_fit a.types (callees m) S h.0)) h.3 in
        sym h.5 ∙ fit ∙ ap a.types h.4

    pair_of : (x : Node) (v : ValType) → taken_kind D x ≡ Some v → (r : Pos) × (K (At r.0) ≡ true) × Among L (x, taker.Instr r)
    pair_of x v e =
        let h = kept_at x v e in
        let s = operand_made a.types (callees m) S h.0 h.1 (subst (λ z. Among (operands_in z h.0) h.1) a.rows h.3) in
        let pair = each_at (callees m) L S 0 h.0 h.0 s.0 (omega arith) (sites_taken (callees m) L d (body_label (length F.results) (size d) ∷ []) node.Exit 0 [] (λ y q. q)) s.1 x
        (subst (λ z. AmongFirst (all_operands (callees m) s.0.around s.0.head) s.0.names z) h.4 s.2) in
        (record { 0 = h.0 }, h.2, pair)

    taken_by : (x : Node) (v : ValType) → taken_kind D x ≡ Some v → (r : Pos) × IsTaken c S ends a.types x (taker.Instr r)
    taken_by x v e = let p = pair_of x v e in (p.0, taken_in c S ends a.types L x (taker.Instr p.0) each p.2)

    end_of : (x : Node) → any_kept_end K (of_node n.takers x) ≡ true → (k : Node) × Among (takers x) (taker.End k) × (is_kept K (taker.End k) ≡ true)
    end_of x e =
        let h = kept_end_among K (of_node n.takers x) e in
        (h.0, ends_among h.0 (takers x) (sym (a.ended h.0 x) ∙ among_ends h.0 (of_node n.takers x) h.1), h.2)

    left_by : (x : Node) → any_kept_end K (of_node n.takers x) ≡ true → (k : Node) × IsTaken c S ends a.types x (taker.End k)
    left_by x e = let h = end_of x e in (h.0, taken_in c S ends a.types L x (taker.End h.0) each (has_given L x (taker.End h.0) h.1))

    -- a kept taker is told
    tells_taker : (x : Node) (y : Taker) → Among (takers x) y → is_kept K y ≡ true → (is_some (taken_kind D x) || any_kept_end K (of_node n.takers x)) ≡ true
    tells_taker x (taker.Instr r) q on =
        let t = taken_in c S ends a.types L x (taker.Instr r) each (has_given L x (taker.Instr r) q) in
        let s = t.2 in
        let kind : slice_get D.kinds (number x) ≡ Some (Some (a.types x)) =
        noted_at a.types K n (callees m) S (count (code_of b.code)) r.0 x (replicate (2 * count (code_of b.code) + 1) None) a.rows on (within r.0 s t.3)
        (let none : Option ValType = None in let l = length-replicate (2 * count (code_of b.code) + 1) none in let lt = few t.0 x t.1 in omega arith)
        (subst (λ z. Among z (place_of a.types x)) (sym (operands_listed (callees m) a.types S n a.rows r.0 s t.3))
        (among_placed a.types (all_operands (callees m) s.around s.head) t.4.0 s.names x t.4.1 t.4.2)) in
        or_left (is_some (taken_kind D x)) (any_kept_end K (of_node n.takers x)) (ap (λ o. is_some (kind_or_none o)) kind)
    tells_taker x (taker.End k) q on =
        or_right (is_some (taken_kind D x)) (any_kept_end K (of_node n.takers x))
        (among_kept_end K k (of_node n.takers x) (ends_among k (of_node n.takers x) (a.ended k x ∙ among_ends k (takers x) q)) on)

    taker_told : (x : Node) → (is_some (taken_kind D x) || any_kept_end K (of_node n.takers x)) ≡ true → any_kept K (takers x) ≡ true
    taker_told x e = go (or_true (is_some (taken_kind D x)) (any_kept_end K (of_node n.takers x)) e)
      where
        go : (is_some (taken_kind D x) ≡ true) ⊎ (any_kept_end K (of_node n.takers x) ≡ true) → any_kept K (takers x) ≡ true
        go (inl q) = let v = is_some_of (taken_kind D x) q in let p = pair_of x v.0 v.1 in in_any K (takers x) (taker.Instr p.0) (given_has L x (taker.Instr p.0) p.2) p.1
        go (inr q) = let h = end_of x q in in_any K (takers x) (taker.End h.0) h.1 h.2

    present_same : (x : Node) → present_in D x ≡ is_present K takers x
    present_same x =
        ap (λ z. K x || (ends_kept K x || z))
        (same_bool (is_some (taken_kind D x) || any_kept_end K (of_node n.takers x)) (any_kept K (takers x)) (taker_told x)
        (λ e. let h = any_in K (takers x) e in tells_taker x h.0 h.1 h.2))

    present_is : Tells (present_in D) (IsNeeded (callees m) S ends K)
    present_is = subst (λ (z : Node → Bool). Tells z (IsNeeded (callees m) S ends K)) (sym (fun_ext present_same)) (present_tells c a.types d K takers (λ k. refl) each)

    pub cut_is : (P : Node → Bool) → Tells P (IsNeeded (callees m) S ends K) → (T : Node → ValType) → TypesPlaces c S T
        → put_in D (result_type F) (code_of b.code) 0 ≡ cut_of (callees m) K P T F b i
    cut_is P tells T types =
        told_is c S ends a.types D a.rows typed_as taken_by left_by (code_of b.code) (body_label (length F.results) (size d) ∷ []) (F.results ∷ []) node.Exit (result_type F) 0 []
        (has_all [] S 0 refl) typed refl refl
        ∙ ap (λ (z : Node → Bool). cut_of (callees m) K z a.types F b i) (one_test (present_in D) P (IsNeeded (callees m) S ends K) present_is tells)
        ∙ one_cut_code m F b h (nat_eq i) K P a.types T a.typed types

-- ---- where the watched instruction goes

marks_count : (x : Marked) → length (marks x) ≡ count (unmarked x)
marks_count End = refl
marks_count (Do k op rest) = omega (arith, marks_count rest)
marks_count (Block k kind body rest) = omega (arith, marks_count body, marks_count rest, length-append (marks body) (marks rest))
marks_count (Loop k kind body rest) = omega (arith, marks_count body, marks_count rest, length-append (marks body) (marks rest))
marks_count (If k kind x y rest) =
    omega (arith, marks_count x, marks_count y, marks_count rest, length-append (marks x) (marks y ++ marks rest), length-append (marks y) (marks rest))
marks_count (Br k l rest) = omega (arith, marks_count rest)
marks_count (BrIf k l rest) = omega (arith, marks_count rest)
marks_count (BrTable k labels other rest) = omega (arith, marks_count rest)
marks_count (Return k rest) = omega (arith, marks_count rest)
marks_count (Unreachable k rest) = omega (arith, marks_count rest)

first_within : (ms : List Bool) → first_mark ms ≤ length ms
first_within [] = omega arith
first_within (true ∷ ms) = omega arith
first_within (false ∷ ms) = let n = first_within ms in omega arith

-- what the code makes is the cut
pub cut_of_names : (m : Module) (f i : ℕ) (F : FuncType) (b : Body) (n : Named) (K : Node → Bool) (made : Body) (at : ℕ) (left : Option ValType)
    → HasTypedBody m F b → type_of_func m f ≡ Some F → HasBody m f b → HasEnds m f (nat_eq i) n → left ≡ result_type F → count (code_of b.code) ≤ 200000
    → made ≡ with_code (put_in (told_of n K b i) left (code_of b.code) 0) b
    → ((k : ℕ) → k < 2 ^ 32 - 1 → watched_at (put_in (told_of n K b i) left (code_of b.code) 0) ≡ k → at ≡ k)
    → IsCut m f K i made at
cut_of_names m f i F b n K made at left h is has names el few code place t b' is' has' =
    let kind : F ≡ t = same_some (sym is ∙ is') in
    let body : b ≡ b' = same_some (sym has.1 ∙ has'.1) in
    subst (λ (x : FuncType). Goal x b') kind (subst (λ (y : Body). Goal F y) body whole)
  where
    Goal : FuncType → Body → Type 0
    Goal x y =
        (P : Node → Bool) → Tells P (IsNeeded (callees m) (sites_at (callees m) x y i) (ends_at (callees m) x y i) K)
        → (T : Node → ValType) → TypesPlaces (context_of m x y) (sites_at (callees m) x y i) T
        → (made ≡ with_code (cut_of (callees m) K P T x y i) y) × (at ≡ watched_at (cut_of (callees m) K P T x y i))

    whole : Goal F b
    whole P tells T types =
        let cut = cut_of (callees m) K P T F b i in
        let e : put_in (told_of n K b i) left (code_of b.code) 0 ≡ cut =
        ap (λ z. put_in (told_of n K b i) z (code_of b.code) 0) el ∙ cut_is m F b h i n (named_at m f i n F b names is has) K P tells T types in
        let short = cut_is_short (callees m) K P T (result_type F) (nat_eq i) (code_of b.code) in
        let first = first_within (marks cut) in
        let long = marks_count cut in
        (code ∙ ap (λ z. with_code z b) e, place (watched_at cut) (omega arith) (ap watched_at e))
