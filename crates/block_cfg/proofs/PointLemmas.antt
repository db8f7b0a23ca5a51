-- The points of sites.
use Rattle.std.proofs.Common.{◌≡◌, ℕ, zero, suc, ◌+◌, ◌*◌, ◌≤◌, ◌&&◌, ◌⊎◌, inl, inr, ⊎_elim, Bool, true, false, List, [], ◌∷◌, ◌++◌, Option, Some, None, length, replicate, drop, refl, sym, ap, ap₂, ◌∙◌, subst, arith, length-append}
use Rattle.std.specs.List.{slice_get}
use Rattle.std.proofs.lemmas.List.{append_assoc}
use Rattle.wasm_types.specs.declared.instr.Instr.{Instr}
use Rattle.wasm_types.specs.declared.instr.Instr as instr
use Rattle.wasm_types.specs.declared.place.Node.{Node}
use Rattle.wasm_types.specs.declared.place.Node.TheVariants as node
use Rattle.wasm_types.specs.declared.place.Node.TheVariants.{Exit}
use Rattle.wasm_types.specs.Code.{Code, done, one, block, repeat, branch, count}
use Rattle.wasm_types.specs.Marked.{plain, marked, size}
use Rattle.wasm_types.specs.Actions.{Callees}
use Rattle.wasm_types.specs.Nodes.{At, Join, named, made}
use Rattle.wasm_types.specs.Labels.{arity, Label, block_label, loop_label}
use Rattle.wasm_types.specs.Sites.{Head, DoHead, BlockHead, LoopHead, IfHead, BrHead, BrIfHead, BrTableHead, ReturnHead, UnreachableHead, HasJoin, Site, Sites, sites, Among}
use Rattle.block_cfg.specs.Graph.{number, EachOnce}
use Rattle.block_cfg.specs.Points.{IsPoint}
use Rattle.block_cfg.specs.Walk.{goes_on, points_in, lists}
use Rattle.block_cfg.proofs.MemberLemmas.{among_left, among_right, among_cases, apart_push, once_of, Rises, rises_from, rises_above, rises_apart}
use Rattle.block_cfg.proofs.SiteLemmas.{size_marked, points_of, IsRooted, rooted_more, head_after, shapes, sites_shapes}

-- ---- lengths

pub length_lists : (live : Bool) (labels : List Node) (k : Node) (c : Code) (p : ℕ) → length (lists live labels k c p) ≡ 2 * count c
length_lists live labels k done p = refl
length_lists live labels k (one i rest) p = omega (arith, length_lists (goes_on i && live) labels k rest (p + 1))
length_lists live labels k (block kind inner rest) p =
    let I = lists live (Join p ∷ labels) (Join p) inner (p + 1) in let R = lists live labels k rest (p + 1 + count inner) in
    omega (arith, length-append I R, length_lists live (Join p ∷ labels) (Join p) inner (p + 1), length_lists live labels k rest (p + 1 + count inner))
length_lists live labels k (repeat kind inner rest) p =
    let I = lists live (At p ∷ labels) (Join p) inner (p + 1) in let R = lists live labels k rest (p + 1 + count inner) in
    omega (arith, length-append I R, length_lists live (At p ∷ labels) (Join p) inner (p + 1), length_lists live labels k rest (p + 1 + count inner))
length_lists live labels k (branch kind x y rest) p =
    let f = p + 1 + count x in let e = p + 1 + count x + count y in
    let X = lists live (Join p ∷ labels) (Join p) x (p + 1) in let Y = lists live (Join p ∷ labels) (Join p) y f in let R = lists live labels k rest e in
    omega (arith, length-append X (Y ++ R), length-append Y R, length_lists live (Join p ∷ labels) (Join p) x (p + 1), length_lists live (Join p ∷ labels) (Join p) y f, length_lists live labels k rest e)

pub length_shapes : (S : Sites) → length (shapes S) ≡ 2 * length S
length_shapes [] = refl
length_shapes (None ∷ S) = omega (arith, length_shapes S)
length_shapes (Some s ∷ S) = omega (arith, length_shapes S)

pub sites_length : (cs : Callees) (w : ℕ → Bool) (c : Code) (ctx : List Label) (k : Node) (p : ℕ) (names : List Node) → IsRooted ctx
    → length (sites cs ctx k (marked w p c) p names) ≡ count c
sites_length cs w c ctx k p names r =
    omega (arith, ap length (sites_shapes cs w c ctx k p names r), length_shapes (sites cs ctx k (marked w p c) p names), length_lists true (points_of ctx) k c p)

-- ---- the points of sites, the first of which stands at p

abbrev pub points_from : ℕ → Sites → List Node
points_from p [] = []
points_from p (None ∷ S) = points_from (p + 1) S
points_from p (Some s ∷ S) = At p ∷ (head_after s.head (Join p) ++ points_from (p + 1) S)

points_append : (p q : ℕ) (A B : Sites) → q ≡ p + length A → points_from p (A ++ B) ≡ points_from p A ++ points_from q B
points_append p q [] B e = ap (λ z. points_from z B) (let f : p ≡ q = omega arith in f)
points_append p q (None ∷ A) B e = points_append (p + 1) q A B (omega arith)
points_append p q (Some s ∷ A) B e =
    ap (λ (l : List Node). At p ∷ (head_after s.head (Join p) ++ l)) (points_append (p + 1) q A B (omega arith))
    ∙ ap (λ (l : List Node). At p ∷ l) (sym (append_assoc (head_after s.head (Join p)) (points_from (p + 1) A) (points_from q B)))

none_from : (p n : ℕ) → points_from p (replicate n None) ≡ []
none_from p zero = refl
none_from p (suc n) = none_from (p + 1) n

and_false : (b : Bool) → (b && false) ≡ false
and_false true = refl
and_false false = refl

no_points : (c : Code) (p : ℕ) → points_in false c p ≡ []
no_points done p = refl
no_points (one i rest) p = ap (λ b. points_in b rest (p + 1)) (and_false (goes_on i)) ∙ no_points rest (p + 1)
no_points (block kind inner rest) p = ap₂ (λ (a b : List Node). a ++ b) (no_points inner (p + 1)) (no_points rest (p + 1 + count inner))
no_points (repeat kind inner rest) p = ap₂ (λ (a b : List Node). a ++ b) (no_points inner (p + 1)) (no_points rest (p + 1 + count inner))
no_points (branch kind x y rest) p =
    ap₂ (λ (a b : List Node). a ++ b) (no_points x (p + 1)) (ap₂ (λ (a b : List Node). a ++ b) (no_points y (p + 1 + count x)) (no_points rest (p + 1 + count x + count y)))

after_transfer : (n p : ℕ) (rest : Code) → points_from (p + 1) (replicate n None) ≡ points_in false rest (p + 1)
after_transfer n p rest = none_from (p + 1) n ∙ sym (no_points rest (p + 1))

leaf_points : (cs : Callees) (w : ℕ → Bool) (i : Instr) (rest : Code) (ctx : List Label) (k : Node) (p : ℕ) (names : List Node)
    → ((ns : List Node) → points_from (p + 1) (sites cs ctx k (marked w (p + 1) rest) (p + 1) ns) ≡ points_in true rest (p + 1))
    → points_from p (sites cs ctx k (plain (w p) i (marked w (p + 1) rest)) p names) ≡ At p ∷ points_in (goes_on i && true) rest (p + 1)
leaf_points cs w (instr.Br l) rest ctx k p names ih = ap (λ (l : List Node). At p ∷ l) (after_transfer (size (marked w (p + 1) rest)) p rest)
leaf_points cs w (instr.BrIf l) rest ctx k p names ih = ap (λ (l : List Node). At p ∷ l) (ih _)
leaf_points cs w (instr.BrTable some other) rest ctx k p names ih = ap (λ (l : List Node). At p ∷ l) (after_transfer (size (marked w (p + 1) rest)) p rest)
leaf_points cs w instr.Return rest ctx k p names ih = ap (λ (l : List Node). At p ∷ l) (after_transfer (size (marked w (p + 1) rest)) p rest)
leaf_points cs w instr.Unreachable rest ctx k p names ih = ap (λ (l : List Node). At p ∷ l) (after_transfer (size (marked w (p + 1) rest)) p rest)
leaf_points cs w i rest ctx k p names ih = ap (λ (l : List Node). At p ∷ l) (ih (made cs p i names))

both_points : (p q : ℕ) (A B : Sites) (a b : List Node) → q ≡ p + length A → points_from p A ≡ a → points_from q B ≡ b → points_from p (A ++ B) ≡ a ++ b
both_points p q A B a b e f g = points_append p q A B e ∙ ap₂ (λ (x y : List Node). x ++ y) f g

rest_points : (cs : Callees) (w : ℕ → Bool) (c : Code) (ctx : List Label) (k : Node) (e e' : ℕ) (names : List Node) → e ≡ e'
    → points_from e' (sites cs ctx k (marked w e' c) e' names) ≡ points_in true c e' → points_from e' (sites cs ctx k (marked w e' c) e names) ≡ points_in true c e'
rest_points cs w c ctx k e e' names same h = ap (λ z. points_from e' (sites cs ctx k (marked w e' c) z names)) same ∙ h

pub sites_points : (cs : Callees) (w : ℕ → Bool) (c : Code) (ctx : List Label) (k : Node) (p : ℕ) (names : List Node) → IsRooted ctx
    → points_from p (sites cs ctx k (marked w p c) p names) ≡ points_in true c p
sites_points cs w done ctx k p names r = refl
sites_points cs w (one i rest) ctx k p names r = leaf_points cs w i rest ctx k p names (λ ns. sites_points cs w rest ctx k (p + 1) ns r)
sites_points cs w (block kind inner rest) ctx k p names r =
    let e = p + 1 + size (marked w (p + 1) inner) in
    let e' = p + 1 + count inner in
    let same : e ≡ e' = omega (arith, size_marked w inner (p + 1)) in
    let L = block_label p (arity kind) e in
    let after = named (arity kind) (Join p) names in
    let A = sites cs (L ∷ ctx) (Join p) (marked w (p + 1) inner) (p + 1) [] in
    let long : e' ≡ p + 1 + length A = omega (arith, sites_length cs w inner (L ∷ ctx) (Join p) (p + 1) [] (rooted_more L ctx r)) in
    ap (λ (l : List Node). At p ∷ Join p ∷ l)
    (both_points (p + 1) e' A _ _ _ long (sites_points cs w inner (L ∷ ctx) (Join p) (p + 1) [] (rooted_more L ctx r))
    (rest_points cs w rest ctx k e e' after same (sites_points cs w rest ctx k e' after r)))
sites_points cs w (repeat kind inner rest) ctx k p names r =
    let e = p + 1 + size (marked w (p + 1) inner) in
    let e' = p + 1 + count inner in
    let same : e ≡ e' = omega (arith, size_marked w inner (p + 1)) in
    let L = loop_label p e in
    let after = named (arity kind) (Join p) names in
    let A = sites cs (L ∷ ctx) (Join p) (marked w (p + 1) inner) (p + 1) [] in
    let long : e' ≡ p + 1 + length A = omega (arith, sites_length cs w inner (L ∷ ctx) (Join p) (p + 1) [] (rooted_more L ctx r)) in
    ap (λ (l : List Node). At p ∷ Join p ∷ l)
    (both_points (p + 1) e' A _ _ _ long (sites_points cs w inner (L ∷ ctx) (Join p) (p + 1) [] (rooted_more L ctx r))
    (rest_points cs w rest ctx k e e' after same (sites_points cs w rest ctx k e' after r)))
sites_points cs w (branch kind x y rest) ctx k p names r =
    let x' = marked w (p + 1) x in
    let y' = marked w (p + 1 + count x) y in
    let f = p + 1 + size x' in
    let f' = p + 1 + count x in
    let e = p + 1 + size x' + size y' in
    let e' = p + 1 + count x + count y in
    let same_f : f ≡ f' = omega (arith, size_marked w x (p + 1)) in
    let same : e ≡ e' = omega (arith, size_marked w x (p + 1), size_marked w y f') in
    let L = block_label p (arity kind) e in
    let after = named (arity kind) (Join p) (drop 1 names) in
    let A = sites cs (L ∷ ctx) (Join p) x' (p + 1) [] in
    let B = sites cs (L ∷ ctx) (Join p) y' f [] in
    let b : length B ≡ count y = ap (λ z. length (sites cs (L ∷ ctx) (Join p) y' z [])) same_f ∙ sites_length cs w y (L ∷ ctx) (Join p) f' [] (rooted_more L ctx r) in
    let long_a : f' ≡ p + 1 + length A = omega (arith, sites_length cs w x (L ∷ ctx) (Join p) (p + 1) [] (rooted_more L ctx r)) in
    let long_b : e' ≡ f' + length B = omega (arith, b) in
    ap (λ (l : List Node). At p ∷ Join p ∷ l)
    (both_points (p + 1) f' A _ _ _ long_a (sites_points cs w x (L ∷ ctx) (Join p) (p + 1) [] (rooted_more L ctx r))
    (both_points f' e' B _ _ _ long_b (rest_points cs w y (L ∷ ctx) (Join p) f f' [] same_f (sites_points cs w y (L ∷ ctx) (Join p) f' [] (rooted_more L ctx r)))
    (rest_points cs w rest ctx k e e' after same (sites_points cs w rest ctx k e' after r))))

-- ---- which they are

after_has : (h : Head) (x n : Node) → Among (head_after h x) n → HasJoin h × (x ≡ n)
after_has (DoHead op) x n a = absurd a
after_has (BlockHead kind) x n (inl e) = (tt, e)
after_has (BlockHead kind) x n (inr a) = absurd a
after_has (LoopHead kind) x n (inl e) = (tt, e)
after_has (LoopHead kind) x n (inr a) = absurd a
after_has (IfHead kind) x n (inl e) = (tt, e)
after_has (IfHead kind) x n (inr a) = absurd a
after_has (BrHead l) x n a = absurd a
after_has (BrIfHead l) x n a = absurd a
after_has (BrTableHead labels other) x n a = absurd a
after_has (ReturnHead l) x n a = absurd a
after_has UnreachableHead x n a = absurd a

pub has_after : (h : Head) (x : Node) → HasJoin h → Among (head_after h x) x
has_after (DoHead op) x j = absurd j
has_after (BlockHead kind) x j = inl refl
has_after (LoopHead kind) x j = inl refl
has_after (IfHead kind) x j = inl refl
has_after (BrHead l) x j = absurd j
has_after (BrIfHead l) x j = absurd j
has_after (BrTableHead labels other) x j = absurd j
has_after (ReturnHead l) x j = absurd j
has_after UnreachableHead x j = absurd j

pub after_among : (h : Head) (x n : Node) → Among (head_after h x) n → HasJoin h × (x ≡ n)
after_among h x n a = after_has h x n a

-- a point of these sites, the first of which stands at p
pub record Stands (p : ℕ) (S : Sites) (n : Node) : Type 0 where
  pub place : ℕ
  pub site : Site
  pub is : slice_get S place ≡ Some (Some site)
  pub which : (At (p + place) ≡ n) ⊎ (HasJoin site.head × (Join (p + place) ≡ n))

stands_later : (p : ℕ) (o : Option Site) (S : Sites) (n : Node) → Stands (p + 1) S n → Stands p (o ∷ S) n
stands_later p o S n h =
    let same : p + 1 + h.place ≡ p + suc h.place = omega arith in
    record { place = suc h.place; site = h.site; is = h.is; which = subst (λ z. (At z ≡ n) ⊎ (HasJoin h.site.head × (Join z ≡ n))) same h.which }

stands_here : (p : ℕ) (s : Site) (S : Sites) (n : Node) → (At p ≡ n) ⊎ (HasJoin s.head × (Join p ≡ n)) → Stands p (Some s ∷ S) n
stands_here p s S n w =
    let same : p ≡ p + 0 = omega arith in
    record { place = 0; site = s; is = refl; which = subst (λ z. (At z ≡ n) ⊎ (HasJoin s.head × (Join z ≡ n))) same w }

point_stands : (p : ℕ) (S : Sites) (n : Node) → Among (points_from p S) n → Stands p S n
point_stands p [] n a = absurd a
point_stands p (None ∷ S) n a = stands_later p None S n (point_stands (p + 1) S n a)
point_stands p (Some s ∷ S) n (inl e) = stands_here p s S n (inl e)
point_stands p (Some s ∷ S) n (inr a) =
    ⊎_elim (λ b. stands_here p s S n (inr (after_has s.head (Join p) n b))) (λ b. stands_later p (Some s) S n (point_stands (p + 1) S n b))
    (among_cases (head_after s.head (Join p)) (points_from (p + 1) S) n a)

stands_point : (p : ℕ) (S : Sites) (q : ℕ) (s : Site) → slice_get S q ≡ Some (Some s) → Among (points_from p S) (At (p + q)) × (HasJoin s.head → Among (points_from p S) (Join (p + q)))
stands_point p [] q s e = absurd (grind (arith, e))
stands_point p (None ∷ S) zero s e = absurd (grind (arith, e))
stands_point p (None ∷ S) (suc q) s e =
    let same : p + 1 + q ≡ p + suc q = omega arith in
    let h = stands_point (p + 1) S q s e in
    (subst (λ z. Among (points_from (p + 1) S) (At z)) same h.0, (λ j. subst (λ z. Among (points_from (p + 1) S) (Join z)) same (h.1 j)))
stands_point p (Some r ∷ S) zero s e =
    let same : p ≡ p + 0 = omega arith in
    let rs : r ≡ s = cc in (
      inl (ap At same),
      (λ j. inr (among_left (head_after r.head (Join p)) (points_from (p + 1) S) (Join (p + 0))
          (subst (λ z. Among (head_after r.head (Join p)) (Join z)) same (has_after r.head (Join p) (subst (λ (z : Site). HasJoin z.head) (sym rs) j))))),
    )
stands_point p (Some r ∷ S) (suc q) s e =
    let same : p + 1 + q ≡ p + suc q = omega arith in
    let h = stands_point (p + 1) S q s e in (
      inr (among_right (head_after r.head (Join p)) (points_from (p + 1) S) _ (subst (λ z. Among (points_from (p + 1) S) (At z)) same h.0)),
      (λ j. inr (among_right (head_after r.head (Join p)) (points_from (p + 1) S) _ (subst (λ z. Among (points_from (p + 1) S) (Join z)) same (h.1 j)))),
    )

stands_is : (S : Sites) (n : Node) → Stands 0 S n → IsPoint S n
stands_is S n h =
    let same : 0 + h.place ≡ h.place = omega arith in
    ⊎_elim (λ (e : At (0 + h.place) ≡ n). subst (IsPoint S) (ap At (sym same) ∙ e) (h.site, h.is))
    (λ (j, e). subst (IsPoint S) (ap Join (sym same) ∙ e) (h.site, (h.is, j))) h.which

pub points_are : (S : Sites) (n : Node) → Among (points_from 0 S ++ Exit ∷ []) n → IsPoint S n
points_are S n a = ⊎_elim (λ b. stands_is S n (point_stands 0 S n b)) (λ b. ⊎_elim (λ e. subst (IsPoint S) e tt) (λ no. absurd no) b) (among_cases (points_from 0 S) (Exit ∷ []) n a)

pub are_points : (S : Sites) (n : Node) → IsPoint S n → Among (points_from 0 S ++ Exit ∷ []) n
are_points S (node.At p) (s, is) =
    let same : 0 + p.0 ≡ p.0 = omega arith in
    among_left (points_from 0 S) (Exit ∷ []) (node.At p) (subst (λ z. Among (points_from 0 S) (At z)) same (stands_point 0 S p.0 s is).0)
are_points S (node.Join p) (s, (is, j)) =
    let same : 0 + p.0 ≡ p.0 = omega arith in
    among_left (points_from 0 S) (Exit ∷ []) (node.Join p) (subst (λ z. Among (points_from 0 S) (Join z)) same ((stands_point 0 S p.0 s is).1 j))
are_points S node.Exit t = among_right (points_from 0 S) (Exit ∷ []) Exit (inl refl)

-- ---- each once

head_rises : (h : Head) (p : ℕ) (rest : List Node) → Rises (2 * (p + 1) + 1) rest → Rises (2 * p + 1 + 1) (head_after h (Join p) ++ rest)
head_rises (DoHead op) p rest r = rises_from _ _ rest (omega arith) r
head_rises (BlockHead kind) p rest r = (omega arith, rises_from _ _ rest (omega arith) r)
head_rises (LoopHead kind) p rest r = (omega arith, rises_from _ _ rest (omega arith) r)
head_rises (IfHead kind) p rest r = (omega arith, rises_from _ _ rest (omega arith) r)
head_rises (BrHead l) p rest r = rises_from _ _ rest (omega arith) r
head_rises (BrIfHead l) p rest r = rises_from _ _ rest (omega arith) r
head_rises (BrTableHead labels other) p rest r = rises_from _ _ rest (omega arith) r
head_rises (ReturnHead l) p rest r = rises_from _ _ rest (omega arith) r
head_rises UnreachableHead p rest r = rises_from _ _ rest (omega arith) r

points_rise : (p : ℕ) (S : Sites) → Rises (2 * p + 1) (points_from p S)
points_rise p [] = tt
points_rise p (None ∷ S) = rises_from (2 * p + 1) (2 * (p + 1) + 1) (points_from (p + 1) S) (omega arith) (points_rise (p + 1) S)
points_rise p (Some s ∷ S) = (omega arith, head_rises s.head p (points_from (p + 1) S) (points_rise (p + 1) S))

pub points_once : (S : Sites) → EachOnce (points_from 0 S ++ Exit ∷ [])
points_once S =
    let rise : Rises 1 (points_from 0 S) = points_rise 0 S in
    once_of (points_from 0 S ++ Exit ∷ []) (apart_push (points_from 0 S) Exit (rises_apart 1 (points_from 0 S) rise)
    (λ a. let h : 1 ≤ number Exit = rises_above 1 (points_from 0 S) Exit rise a in absurd (omega arith)))
