-- What is put for a body, by what is told of it, is its cut.
use Rattle.std.proofs.Common.{◌≡◌, ℕ, zero, suc, ◌+◌, ◌≤◌, List, [], ◌∷◌, ◌++◌, Bool, true, false, ◌||◌, Option, Some, None, is_some, take, drop, slice_get, nat_eq, if◌then◌else◌, refl, sym, ap, ap₂, ◌∙◌, subst, arith}
use Rattle.std.specs.Option.{option_map}
use Rattle.wasm_types.specs.declared.module.ValType.{ValType}
use Rattle.wasm_types.specs.declared.place.Node.{Node}
use Rattle.wasm_types.specs.declared.place.Node.TheVariants as node
use Rattle.wasm_types.specs.declared.module.Pos.{Pos}
use Rattle.wasm_types.specs.declared.place.Taker.TheVariants as taker
use Rattle.wasm_types.specs.declared.instr.Instr.{Instr}
use Rattle.wasm_types.specs.declared.instr.Instr as instr
use Rattle.wasm_types.specs.Code.{Code, done, one, block, repeat, branch, count}
use Rattle.wasm_types.specs.Marked.{Marked, Do, Block, Loop, If, marked, size}
use Rattle.wasm_types.specs.Typing.{Context}
use Rattle.wasm_types.specs.Validity.{values_of}
use Rattle.wasm_types.specs.Actions.{Callees, callees, takes, leaves}
use Rattle.wasm_types.specs.Nodes.{At, Join, named, made}
use Rattle.wasm_types.specs.Labels.{arity, carried, Label, block_label, loop_label, arities, join_of}
use Rattle.wasm_types.specs.Sites.{Head, DoHead, BlockHead, LoopHead, IfHead, Site, Sites, IsSite, sites, EndAt, all_operands}
use Rattle.stack_names.specs.declared.place.Place.{Place}
use Rattle.stack_names.specs.Found.{top_places}
use Rattle.stack_names.specs.Named.{Named, operands_of, operands_in, stack_of, stack_in, of_node, transfers, place_of, placed, listed, listed_all}
use Rattle.stack_names.proofs.PlaceLemmas.{top_placed, one_placed}
use Rattle.stack_names.proofs.WalkLaw.{size_marked}
use Rattle.flow_domain.specs.Cut.{pick, one_more, shown, zero_const, drops, zeros, filler, result_of, cut}
use Rattle.stack_repair.specs.Told.{any_kept_end, Told, taken_kind, present_in, count_present, kept_kind, shown_kind, put_in}
use Rattle.stack_repair.proofs.Typed.{Typed}
use Rattle.stack_repair.proofs.Positions.{HasAt, has_front, has_back, length-sites}
use Rattle.stack_repair.proofs.Takings.{MadeIn, KindIs, Owns, IsTaken}

-- ---- what is listed of a position

listed_get : (cs : Callees) (T : Node → ValType) (S : Sites) (p : ℕ) (s : Site) → IsSite S p s → slice_get (listed_all cs T S) p ≡ Some (Some (listed cs T s))
listed_get cs T [] p s e = absurd cc
listed_get cs T (x ∷ S) zero s e = let f : x ≡ Some s = cc in ap (λ z. Some (option_map (listed cs T) z)) f
listed_get cs T (x ∷ S) (suc p) s e = listed_get cs T S p s e

pub operands_listed : (cs : Callees) (T : Node → ValType) (S : Sites) (n : Named) → n.positions ≡ listed_all cs T S → (p : ℕ) (s : Site) → IsSite S p s
    → operands_in n.positions p ≡ placed T (take (all_operands cs s.around s.head) s.names)
operands_listed cs T S n rows p s is = ap (λ z. operands_in z p) rows ∙ ap operands_of (listed_get cs T S p s is)

-- ---- choices

pub pick_same : (b : Bool) (x x' y y' : Marked) → (b ≡ true → x ≡ x') → (b ≡ false → y ≡ y') → pick b x y ≡ pick b x' y'
pick_same true x x' y y' f g = f refl
pick_same false x x' y y' f g = g refl

filler_block : (P : Node → Bool) (kind : Option ValType) (n : Node) (c : Marked) (b : Bool) → P n ≡ b → zeros (if b then kind else None) c ≡ filler P kind n c
filler_block P None n c true e = refl
filler_block P None n c false e = refl
filler_block P (Some k) n c true e = ap (λ z. pick z (Do false (zero_const k) c) c) (sym e)
filler_block P (Some k) n c false e = ap (λ z. pick z (Do false (zero_const k) c) c) (sym e)

if_same : (m : Bool) (kind : Option ValType) (x x' y y' r r' : Marked) → x ≡ x' → y ≡ y' → r ≡ r' → If m kind x y r ≡ If m kind x' y' r'
if_same m kind x x' y y' r r' e f g = ap (λ z. If m kind z y r) e ∙ ap₂ {A = Marked} {B = Marked} (λ u v. If m kind x' u v) f g

module _ (c : Context) (S : Sites) (ends : List EndAt) (T : Node → ValType) (D : Told)
    (rows : D.names.positions ≡ listed_all (callees c.inside) T S)
    (typed : (n : Node) (v : ValType) → taken_kind D n ≡ Some v → v ≡ T n)
    (taken : (n : Node) (v : ValType) → taken_kind D n ≡ Some v → (r : Pos) × IsTaken c S ends T n (taker.Instr r))
    (left : (n : Node) → any_kept_end D.kept (of_node D.names.takers n) ≡ true → (k : Node) × IsTaken c S ends T n (taker.End k))
  where
    abbrev cs : Callees
    cs = callees c.inside

    abbrev K : Node → Bool
    K = D.kept

    abbrev P : Node → Bool
    P = present_in D

    abbrev w : ℕ → Bool
    w = nat_eq D.watched

    -- ---- places

    operands_at : (p : ℕ) (s : Site) → IsSite S p s → operands_in D.names.positions p ≡ placed T (take (all_operands cs s.around s.head) s.names)
    operands_at p s is = operands_listed cs T S D.names rows p s is

    stack_at : (p : ℕ) (s : Site) → IsSite S p s → transfers s.head ≡ true → stack_in D.names.positions p ≡ placed T s.names
    stack_at p s is e =
        ap (λ z. stack_in z p) rows ∙ ap stack_of (listed_get cs T S p s is)
        ∙ ap (λ b. if b then placed T s.names else placed T (take (all_operands cs s.around s.head) s.names)) e

    count_append : (xs ys : List Place) → count_present D (xs ++ ys) ≡ count_present D xs + count_present D ys
    count_append [] ys = omega arith
    count_append (x ∷ xs) ys = go (present_in D x.maker) (count_append xs ys)
      where
        go : (b : Bool) → count_present D (xs ++ ys) ≡ count_present D xs + count_present D ys
            → one_more b (count_present D (xs ++ ys)) ≡ one_more b (count_present D xs) + count_present D ys
        go true e = omega arith
        go false e = e

    last_one : (b : Bool) (m n : ℕ) → m ≡ n → m + one_more b 0 ≡ one_more b n
    last_one true m n e = omega arith
    last_one false m n e = omega arith

    count_placed : (names : List Node) → count_present D (placed T names) ≡ shown P names
    count_placed [] = refl
    count_placed (n ∷ names) = ap (count_present D) (sym (one_placed T n names)) ∙ count_append (placed T names) (place_of T n ∷ []) ∙ last_one (P n) (count_present D (placed T names)) (shown P names) (count_placed names)

    -- ---- one position has one site

    site_one : (p : ℕ) (s s' : Site) → IsSite S p s → IsSite S p s' → s ≡ s'
    site_one p s s' is is' = let e = sym is ∙ is' in cc

    owns_one : (k : Node) (t t' : Option ValType) → Owns c S ends T k t → Owns c S ends T k t' → t ≡ t'
    owns_one node.Exit t t' o o' = sym o ∙ o'
    owns_one (node.Join b) t t' (s, is, h) (s', is', h') =
        kind_one s.head t t' h (subst (λ (z : Site). KindIs c S ends T z.head t') (sym (site_one b.0 s s' is is')) h')
      where
        kind_one : (h : Head) (t t' : Option ValType) → KindIs c S ends T h t → KindIs c S ends T h t' → t ≡ t'
        kind_one (BlockHead kind) t t' e f = sym e ∙ f
        kind_one (LoopHead kind) t t' e f = sym e ∙ f
        kind_one (IfHead kind) t t' e f = sym e ∙ f
        kind_one _ t t' e f = absurd e
    owns_one (node.At p) t t' o o' = absurd o

    -- ---- the constant for an instruction

    fill_same : (p : ℕ) (s : Site) (op : Instr) (k : Node) (t : Option ValType) (x : Marked) → IsSite S p s → s.head ≡ DoHead op → join_of s.around 0 ≡ k
        → Owns c S ends T k t → K (At p) ≡ false
        → zeros (kept_kind (taken_kind D (At p)) t (any_kept_end K (of_node D.names.takers (At p)))) x ≡ filler P (result_of (leaves cs op) (T (At p))) (At p) x
    fill_same p s op k t x is head j ow off =
        go (leaves cs op) refl (taken_kind D (At p)) refl (any_kept_end K (of_node D.names.takers (At p))) refl
      where
        made_at : (k' : Node) → MadeIn c S ends T k' (At p) → (1 ≤ leaves cs op) × (k ≡ k')
        made_at k' (s', op', is', head', le, j') =
            let e = site_one p s s' is is' in
            let f : op' ≡ op = (let g = sym head' ∙ ap (λ (z : Site). z.head) (sym e) ∙ head in cc) in
            (subst (λ z. 1 ≤ leaves cs z) f le, sym j ∙ ap (λ (z : Site). join_of z.around 0) e ∙ j')

        by_instr : (v : ValType) → taken_kind D (At p) ≡ Some v → 1 ≤ leaves cs op
        by_instr v e = let h = (taken (At p) v e).1 in (made_at h.0 h.1).0

        by_end : any_kept_end K (of_node D.names.takers (At p)) ≡ true → (1 ≤ leaves cs op) × (t ≡ Some (T (At p)))
        by_end e = of_end (left (At p) e).0 (left (At p) e).1
          where
            of_end : (k' : Node) → IsTaken c S ends T (At p) (taker.End k') → (1 ≤ leaves cs op) × (t ≡ Some (T (At p)))
            of_end k' (m, y, a, o, f, t', ow', q) = ((made_at k' m).0, owns_one k' t t' (subst (λ z. Owns c S ends T z t) (made_at k' m).1 ow) ow' ∙ q)

        go : (n : ℕ) → leaves cs op ≡ n → (o : Option ValType) → taken_kind D (At p) ≡ o → (b : Bool) → any_kept_end K (of_node D.names.takers (At p)) ≡ b
            → zeros (kept_kind o t b) x ≡ filler P (result_of n (T (At p))) (At p) x
        go zero e (Some v) f b g = let le = by_instr v f in absurd (omega arith)
        go zero e None f true g = let le = (by_end g).0 in absurd (omega arith)
        go zero e None f false g = refl
        go (suc n) e (Some v) f b g =
            ap (λ z. Do false (zero_const z) x) (typed (At p) v f)
            ∙ ap (λ z. pick z (Do false (zero_const (T (At p))) x) x) (sym (ap₂ {A = Bool} {B = Option ValType} (λ y z. y || (is_some z || any_kept_end K (of_node D.names.takers (At p)))) off f))
        go (suc n) e None f b g =
            zeros_of b g
            ∙ ap (λ z. pick z (Do false (zero_const (T (At p))) x) x) (sym (ap₂ {A = Bool} {B = Option ValType} (λ y z. y || (is_some z || any_kept_end K (of_node D.names.takers (At p)))) off f ∙ g))
          where
            zeros_of : (b : Bool) → any_kept_end K (of_node D.names.takers (At p)) ≡ b → zeros (if b then t else None) x ≡ pick b (Do false (zero_const (T (At p))) x) x
            zeros_of true g = ap (λ z. zeros z x) (by_end g).1
            zeros_of false g = refl

    -- ---- a sequence

    drops_of : (n : ℕ) (pls : List Place) (names : List Node) (x y : Marked) → pls ≡ placed T names → x ≡ y → drops (count_present D pls) x ≡ drops (shown P names) y
    drops_of n pls names x y e f = ap₂ {A = ℕ} {B = Marked} (λ k z. drops k z) (ap (count_present D) e ∙ count_placed names) f

    first_of : (n : ℕ) (names : List Node) → take 1 (take (suc n) names) ≡ take 1 names
    first_of n [] = refl
    first_of n (d ∷ names) = refl

    pub told_is : (code : Code) (ctx : List Label) (Ls : List (List ValType)) (k : Node) (t : Option ValType) (p : ℕ) (names : List Node)
        → HasAt S p (sites cs ctx k (marked w p code) p names) → Typed c T Ls t (marked w p code) p names → join_of ctx 0 ≡ k → Owns c S ends T k t
        → put_in D t code p ≡ cut cs K P T t (marked w p code) p names
    told_is done ctx Ls k t p names at ty j ow = refl
    told_is (one (instr.Br l) rest) ctx Ls k t p names at ty j ow =
        pick_same (K (At p)) _ _ _ _ (λ on. refl) (λ off. drops_of 0 _ names _ _ (stack_at p _ at.0 refl) refl)
    told_is (one (instr.BrIf l) rest) ctx Ls k t p names at ty j ow =
        let r = told_is rest ctx Ls k t (p + 1) (drop 1 names) at.1 ty.2 j ow in
        let n = carried (arities ctx) l in
        pick_same (K (At p)) _ _ _ _ (λ on. ap (λ z. Marked.BrIf (w p) l z) r)
        (λ off. drops_of 0 _ (take 1 names) _ _ (ap (top_places 1) (operands_at p _ at.0) ∙ top_placed T 1 (take (suc n) names) ∙ ap (placed T) (first_of n names)) r)
    told_is (one (instr.BrTable labels other) rest) ctx Ls k t p names at ty j ow =
        pick_same (K (At p)) _ _ _ _ (λ on. refl) (λ off. drops_of 0 _ names _ _ (stack_at p _ at.0 refl) refl)
    told_is (one instr.Return rest) ctx Ls k t p names at ty j ow =
        pick_same (K (At p)) _ _ _ _ (λ on. refl) (λ off. drops_of 0 _ names _ _ (stack_at p _ at.0 refl) refl)
    told_is (one instr.Unreachable rest) ctx Ls k t p names at ty j ow =
        pick_same (K (At p)) _ _ _ _ (λ on. refl) (λ off. drops_of 0 _ names _ _ (stack_at p _ at.0 refl) refl)
    told_is (one op rest) ctx Ls k t p names at ty j ow =
        let r = told_is rest ctx Ls k t (p + 1) (made cs p op names) at.1 ty.1 j ow in
        pick_same (K (At p)) _ _ _ _ (λ on. ap (λ z. Do (w p) op z) r)
        (λ off. drops_of 0 _ (take (takes cs op) names) _ _ (operands_at p _ at.0)
        (ap (λ z. zeros (kept_kind (taken_kind D (At p)) t (any_kept_end K (of_node D.names.takers (At p)))) z) r ∙ fill_same p _ op k t _ at.0 refl j ow off))
    told_is (block kind inner rest) ctx Ls k t p names at ty j ow =
        let b = marked w (p + 1) inner in
        let e = p + 1 + size b in
        let sz : p + 1 + count inner ≡ e = omega (arith, size_marked w (p + 1) inner) in
        let names1 = named (arity kind) (Join p) names in
        let L = block_label p (arity kind) e in
        let bs = sites cs (L ∷ ctx) (Join p) b (p + 1) [] in
        let r = marked w (p + 1 + count inner) rest in
        let back = has_back S (p + 1) e bs (sites cs ctx k r e names1) (omega (arith, length-sites cs b (L ∷ ctx) (Join p) (p + 1) [])) at.1 in
        let hb = told_is inner (L ∷ ctx) (values_of kind ∷ Ls) (Join p) kind (p + 1) [] (has_front S (p + 1) bs (sites cs ctx k r e names1) at.1) ty.1 refl (_, at.0, refl) in
        let hr = told_is rest ctx Ls k t (p + 1 + count inner) names1 (subst (λ n. HasAt S n (sites cs ctx k r n names1)) (sym sz) back) (subst (λ n. Typed c T Ls t r n names1) (sym sz) ty.2) j ow
        ∙ ap (λ n. cut cs K P T t r n names1) sz in
        pick_same (K (At p)) _ _ _ _ (λ on. ap₂ {A = Marked} {B = Marked} (λ u v. Block (w p) kind u v) hb hr)
        (λ off. ap (zeros (shown_kind D kind p)) hr ∙ filler_block P kind (Join p) _ (P (Join p)) refl)
    told_is (repeat kind inner rest) ctx Ls k t p names at ty j ow =
        let b = marked w (p + 1) inner in
        let e = p + 1 + size b in
        let sz : p + 1 + count inner ≡ e = omega (arith, size_marked w (p + 1) inner) in
        let names1 = named (arity kind) (Join p) names in
        let L = loop_label p e in
        let bs = sites cs (L ∷ ctx) (Join p) b (p + 1) [] in
        let r = marked w (p + 1 + count inner) rest in
        let back = has_back S (p + 1) e bs (sites cs ctx k r e names1) (omega (arith, length-sites cs b (L ∷ ctx) (Join p) (p + 1) [])) at.1 in
        let hb = told_is inner (L ∷ ctx) ([] ∷ Ls) (Join p) kind (p + 1) [] (has_front S (p + 1) bs (sites cs ctx k r e names1) at.1) ty.1 refl (_, at.0, refl) in
        let hr = told_is rest ctx Ls k t (p + 1 + count inner) names1 (subst (λ n. HasAt S n (sites cs ctx k r n names1)) (sym sz) back) (subst (λ n. Typed c T Ls t r n names1) (sym sz) ty.2) j ow
        ∙ ap (λ n. cut cs K P T t r n names1) sz in
        pick_same (K (At p)) _ _ _ _ (λ on. ap₂ {A = Marked} {B = Marked} (λ u v. Loop (w p) kind u v) hb hr)
        (λ off. ap (zeros (shown_kind D kind p)) hr ∙ filler_block P kind (Join p) _ (P (Join p)) refl)
    told_is (branch kind first second rest) ctx Ls k t p names at ty j ow =
        let x = marked w (p + 1) first in
        let y = marked w (p + 1 + count first) second in
        let r = marked w (p + 1 + count first + count second) rest in
        let f = p + 1 + size x in
        let e = p + 1 + size x + size y in
        let szx : p + 1 + count first ≡ f = omega (arith, size_marked w (p + 1) first) in
        let sz : p + 1 + count first + count second ≡ e = omega (arith, size_marked w (p + 1) first, size_marked w (p + 1 + count first) second) in
        let names1 = named (arity kind) (Join p) (drop 1 names) in
        let L = block_label p (arity kind) e in
        let xs = sites cs (L ∷ ctx) (Join p) x (p + 1) [] in
        let ys = sites cs (L ∷ ctx) (Join p) y f [] in
        let rs = sites cs ctx k r e names1 in
        let back_x = has_back S (p + 1) f xs (ys ++ rs) (omega (arith, length-sites cs x (L ∷ ctx) (Join p) (p + 1) [])) at.1 in
        let back = has_back S f e ys rs (omega (arith, length-sites cs y (L ∷ ctx) (Join p) f [])) back_x in
        let hx = told_is first (L ∷ ctx) (values_of kind ∷ Ls) (Join p) kind (p + 1) [] (has_front S (p + 1) xs (ys ++ rs) at.1) ty.2 refl (_, at.0, refl) in
        let hy = told_is second (L ∷ ctx) (values_of kind ∷ Ls) (Join p) kind (p + 1 + count first) [] (subst (λ n. HasAt S n (sites cs (L ∷ ctx) (Join p) y n [])) (sym szx) (has_front S f ys rs back_x)) (subst (λ n. Typed c T (values_of kind ∷ Ls) kind y n []) (sym szx) ty.3) refl (_, at.0, refl)
        ∙ ap (λ n. cut cs K P T kind y n []) szx in
        let hr = told_is rest ctx Ls k t (p + 1 + count first + count second) names1 (subst (λ n. HasAt S n (sites cs ctx k r n names1)) (sym sz) back) (subst (λ n. Typed c T Ls t r n names1) (sym sz) ty.4) j ow
        ∙ ap (λ n. cut cs K P T t r n names1) sz in
        pick_same (K (At p)) _ _ _ _
        (λ on. if_same (w p) kind _ _ _ _ _ _ hx hy hr)
        (λ off. drops_of 0 _ (take 1 names) _ _ (operands_at p _ at.0) (ap (zeros (shown_kind D kind p)) hr ∙ filler_block P kind (Join p) _ (P (Join p)) refl))
