-- The sites of code against the lists that a walk finds.
use Rattle.std.proofs.Common.{◌≡◌, ℕ, zero, suc, ◌+◌, ◌&&◌, Bool, true, false, List, [], ◌∷◌, ◌++◌, Option, Some, None, replicate, map, drop, refl, sym, ap, ap₂, ◌∙◌, arith}
use Rattle.std.specs.List.{flat_map}
use Rattle.std.proofs.lemmas.List.{replicate-append-replicate}
use Rattle.std.proofs.lemmas.List.Concat.{flat_map-append}
use Rattle.wasm_types.specs.declared.instr.Instr.{Instr}
use Rattle.wasm_types.specs.declared.instr.Instr as instr
use Rattle.wasm_types.specs.declared.place.Node.{Node}
use Rattle.wasm_types.specs.declared.place.Node.TheVariants.{Exit}
use Rattle.wasm_types.specs.Code.{Code, done, one, block, repeat, branch, count}
use Rattle.wasm_types.specs.Marked.{Marked, plain, marked, size}
use Rattle.wasm_types.specs.Actions.{Callees}
use Rattle.wasm_types.specs.Nodes.{At, Join, named, made}
use Rattle.wasm_types.specs.Labels.{arity, arities, outermost, Label, block_label, loop_label, point_of, first}
use Rattle.wasm_types.specs.Sites.{Head, DoHead, BlockHead, LoopHead, IfHead, BrHead, BrIfHead, BrTableHead, ReturnHead, UnreachableHead, Site, Sites, sites}
use Rattle.block_cfg.specs.Walk.{target_of, goes_of, goes_on, first_of, lists}

-- ---- marked code

size_leaf : (m : Bool) (op : Instr) (rest : Marked) → size (plain m op rest) ≡ 1 + size rest
size_leaf m instr.Return rest = refl
size_leaf m _ rest = refl

pub size_marked : (w : ℕ → Bool) (c : Code) (p : ℕ) → size (marked w p c) ≡ count c
size_marked w done p = refl
size_marked w (one op rest) p = omega (arith, size_leaf (w p) op (marked w (p + 1) rest), size_marked w rest (p + 1))
size_marked w (block kind body rest) p = omega (arith, size_marked w body (p + 1), size_marked w rest (p + 1 + count body))
size_marked w (repeat kind body rest) p = omega (arith, size_marked w body (p + 1), size_marked w rest (p + 1 + count body))
size_marked w (branch kind x y rest) p =
    omega (arith, size_marked w x (p + 1), size_marked w y (p + 1 + count x), size_marked w rest (p + 1 + count x + count y))

first_leaf : (m : Bool) (op : Instr) (rest : Marked) (p : ℕ) (k : Node) → first p (plain m op rest) k ≡ At p
first_leaf m instr.Return rest p k = refl
first_leaf m _ rest p k = refl

pub first_marked : (w : ℕ → Bool) (c : Code) (p : ℕ) (k : Node) → first p (marked w p c) k ≡ first_of p c k
first_marked w done p k = refl
first_marked w (one op rest) p k = first_leaf (w p) op (marked w (p + 1) rest) p k
first_marked w (block kind body rest) p k = refl
first_marked w (repeat kind body rest) p k = refl
first_marked w (branch kind x y rest) p k = refl

-- ---- labels

abbrev pub points_of : List Label → List Node
points_of [] = []
points_of (L ∷ ctx) = L.point ∷ points_of ctx

pub point_target : (ctx : List Label) (l : ℕ) → point_of ctx l ≡ target_of (points_of ctx) l
point_target [] l = refl
point_target (L ∷ ctx) zero = refl
point_target (L ∷ ctx) (suc l) = point_target ctx l

targets_same : (ctx : List Label) (labels : List ℕ) → map (point_of ctx) labels ≡ map (target_of (points_of ctx)) labels
targets_same ctx [] = refl
targets_same ctx (l ∷ labels) = ap₂ (λ (x : Node) (xs : List Node). x ∷ xs) (point_target ctx l) (targets_same ctx labels)

-- the outermost label leads to the end
abbrev pub IsRooted : List Label → Type 0
IsRooted [] = ⊥
IsRooted (L ∷ []) = L.point ≡ Exit
IsRooted (L ∷ M ∷ ctx) = IsRooted (M ∷ ctx)

pub rooted_more : (L : Label) (ctx : List Label) → IsRooted ctx → IsRooted (L ∷ ctx)
rooted_more L [] r = absurd r
rooted_more L (M ∷ ctx) r = r

rooted_exit : (ctx : List Label) → IsRooted ctx → point_of ctx (outermost (arities ctx)) ≡ Exit
rooted_exit [] r = absurd r
rooted_exit (L ∷ []) r = r
rooted_exit (L ∷ M ∷ ctx) r = rooted_exit (M ∷ ctx) r

-- ---- what a site leads to

abbrev pub head_goes : Head → Node → List Label → List Node
head_goes (DoHead op) next ctx = next ∷ []
head_goes (BlockHead kind) next ctx = []
head_goes (LoopHead kind) next ctx = []
head_goes (IfHead kind) next ctx = []
head_goes (BrHead l) next ctx = point_of ctx l ∷ []
head_goes (BrIfHead l) next ctx = next ∷ point_of ctx l ∷ []
head_goes (BrTableHead labels other) next ctx = map (point_of ctx) (other ∷ labels)
head_goes (ReturnHead l) next ctx = point_of ctx l ∷ []
head_goes UnreachableHead next ctx = []

abbrev pub head_after : Head → Node → List Node
head_after (BlockHead kind) n = n ∷ []
head_after (LoopHead kind) n = n ∷ []
head_after (IfHead kind) n = n ∷ []
head_after _ n = []

abbrev pub goes : Site → List Node
goes s = s.inside ++ head_goes s.head s.next s.around

-- the two lists of a position
abbrev pub shape : Option Site → List (List Node)
shape None = [] ∷ [] ∷ []
shape (Some s) = goes s ∷ head_after s.head s.next ∷ []

abbrev pub shapes : Sites → List (List Node)
shapes S = flat_map shape S

-- ---- dead code

abbrev pub dead : ℕ → Sites
dead n = replicate n None

dead_add : (a b : ℕ) → shapes (dead a) ++ shapes (dead b) ≡ shapes (dead (a + b))
dead_add a b = sym (flat_map-append shape (dead a) (dead b)) ∙ ap shapes (replicate-append-replicate a b None)

dead_more : (a b n : ℕ) → n ≡ suc (a + b) → [] ∷ [] ∷ (shapes (dead a) ++ shapes (dead b)) ≡ shapes (dead n)
dead_more a b n e = ap (λ (l : List (List Node)). [] ∷ [] ∷ l) (dead_add a b) ∙ ap (λ z. shapes (dead z)) (sym e)

and_false : (b : Bool) → (b && false) ≡ false
and_false true = refl
and_false false = refl

pub dead_lists : (labels : List Node) (k : Node) (c : Code) (p : ℕ) → lists false labels k c p ≡ shapes (dead (count c))
dead_lists labels k done p = refl
dead_lists labels k (one i rest) p =
    ap (λ b. [] ∷ [] ∷ lists b labels k rest (p + 1)) (and_false (goes_on i)) ∙ ap (λ (l : List (List Node)). [] ∷ [] ∷ l) (dead_lists labels k rest (p + 1)) ∙ dead_more 0 (count rest) (1 + count rest) (omega arith)
dead_lists labels k (block kind inner rest) p =
    ap₂ (λ (a b : List (List Node)). [] ∷ [] ∷ (a ++ b)) (dead_lists (Join p ∷ labels) (Join p) inner (p + 1)) (dead_lists labels k rest (p + 1 + count inner)) ∙ dead_more (count inner) (count rest) (1 + count inner + count rest) (omega arith)
dead_lists labels k (repeat kind inner rest) p =
    ap₂ (λ (a b : List (List Node)). [] ∷ [] ∷ (a ++ b)) (dead_lists (At p ∷ labels) (Join p) inner (p + 1)) (dead_lists labels k rest (p + 1 + count inner)) ∙ dead_more (count inner) (count rest) (1 + count inner + count rest) (omega arith)
dead_lists labels k (branch kind x y rest) p =
    let f = p + 1 + count x in let e = p + 1 + count x + count y in
    ap₂ (λ (a b : List (List Node)). [] ∷ [] ∷ (a ++ b)) (dead_lists (Join p ∷ labels) (Join p) x (p + 1))
    (ap₂ (λ (a b : List (List Node)). a ++ b) (dead_lists (Join p ∷ labels) (Join p) y f) (dead_lists labels k rest e) ∙ dead_add (count y) (count rest))
    ∙ dead_more (count x) (count y + count rest) (1 + count x + count y + count rest) (omega arith)

-- ---- the lists of code are those of its sites

heads : (a a' b b' : List Node) (l l' : List (List Node)) → a ≡ a' → b ≡ b' → l ≡ l' → a ∷ b ∷ l ≡ a' ∷ b' ∷ l'
heads a a' b b' l l' p q r = cc

after_transfer : (labels : List Node) (k : Node) (w : ℕ → Bool) (rest : Code) (p : ℕ) → shapes (dead (size (marked w p rest))) ≡ lists false labels k rest p
after_transfer labels k w rest p = ap (λ n. shapes (dead n)) (size_marked w rest p) ∙ sym (dead_lists labels k rest p)

leaf_shapes : (cs : Callees) (w : ℕ → Bool) (i : Instr) (rest : Code) (ctx : List Label) (k : Node) (p : ℕ) (names : List Node) → IsRooted ctx
    → ((ns : List Node) → shapes (sites cs ctx k (marked w (p + 1) rest) (p + 1) ns) ≡ lists true (points_of ctx) k rest (p + 1))
    → shapes (sites cs ctx k (plain (w p) i (marked w (p + 1) rest)) p names)
    ≡ goes_of (points_of ctx) i (first_of (p + 1) rest k) ∷ [] ∷ lists (goes_on i && true) (points_of ctx) k rest (p + 1)
leaf_shapes cs w (instr.Br l) rest ctx k p names r ih =
    heads _ _ _ _ _ _ (ap (λ (n : Node). n ∷ []) (point_target ctx l)) refl (after_transfer (points_of ctx) k w rest (p + 1))
leaf_shapes cs w (instr.BrIf l) rest ctx k p names r ih =
    heads _ _ _ _ _ _ (ap₂ (λ (m n : Node). m ∷ n ∷ []) (first_marked w rest (p + 1) k) (point_target ctx l)) refl (ih _)
leaf_shapes cs w (instr.BrTable some other) rest ctx k p names r ih =
    heads _ _ _ _ _ _ (targets_same ctx (other ∷ some)) refl (after_transfer (points_of ctx) k w rest (p + 1))
leaf_shapes cs w instr.Return rest ctx k p names r ih =
    heads _ _ _ _ _ _ (ap (λ (n : Node). n ∷ []) (rooted_exit ctx r)) refl (after_transfer (points_of ctx) k w rest (p + 1))
leaf_shapes cs w instr.Unreachable rest ctx k p names r ih = heads _ _ _ _ _ _ refl refl (after_transfer (points_of ctx) k w rest (p + 1))
leaf_shapes cs w i rest ctx k p names r ih =
    heads _ _ _ _ _ _ (ap (λ (n : Node). n ∷ []) (first_marked w rest (p + 1) k)) refl (ih (made cs p i names))

-- what comes after a block, whose end is known by its size
rest_first : (w : ℕ → Bool) (rest : Code) (k : Node) (e e' : ℕ) → e ≡ e' → first e (marked w e' rest) k ≡ first_of e' rest k
rest_first w rest k e e' same = ap (λ z. first z (marked w e' rest) k) same ∙ first_marked w rest e' k

rest_shapes : (cs : Callees) (w : ℕ → Bool) (c : Code) (ctx : List Label) (k : Node) (labels : List Node) (e e' : ℕ) (names : List Node) → e ≡ e'
    → shapes (sites cs ctx k (marked w e' c) e' names) ≡ lists true labels k c e' → shapes (sites cs ctx k (marked w e' c) e names) ≡ lists true labels k c e'
rest_shapes cs w c ctx k labels e e' names same h = ap (λ z. shapes (sites cs ctx k (marked w e' c) z names)) same ∙ h

both_shapes : (A B : Sites) (a b : List (List Node)) → shapes A ≡ a → shapes B ≡ b → shapes (A ++ B) ≡ a ++ b
both_shapes A B a b p q = flat_map-append shape A B ∙ ap₂ (λ (x y : List (List Node)). x ++ y) p q

pub sites_shapes : (cs : Callees) (w : ℕ → Bool) (c : Code) (ctx : List Label) (k : Node) (p : ℕ) (names : List Node) → IsRooted ctx
    → shapes (sites cs ctx k (marked w p c) p names) ≡ lists true (points_of ctx) k c p
sites_shapes cs w done ctx k p names r = refl
sites_shapes cs w (one i rest) ctx k p names r = leaf_shapes cs w i rest ctx k p names r (λ ns. sites_shapes cs w rest ctx k (p + 1) ns r)
sites_shapes cs w (block kind inner rest) ctx k p names r =
    let e = p + 1 + size (marked w (p + 1) inner) in
    let e' = p + 1 + count inner in
    let same : e ≡ e' = omega (arith, size_marked w inner (p + 1)) in
    let L = block_label p (arity kind) e in
    heads _ _ _ _ _ _ (ap (λ (n : Node). n ∷ []) (first_marked w inner (p + 1) (Join p))) (ap (λ (n : Node). n ∷ []) (rest_first w rest k e e' same))
    (both_shapes _ _ _ _ (sites_shapes cs w inner (L ∷ ctx) (Join p) (p + 1) [] (rooted_more L ctx r))
    (rest_shapes cs w rest ctx k (points_of ctx) e e' (named (arity kind) (Join p) names) same (sites_shapes cs w rest ctx k e' (named (arity kind) (Join p) names) r)))
sites_shapes cs w (repeat kind inner rest) ctx k p names r =
    let e = p + 1 + size (marked w (p + 1) inner) in
    let e' = p + 1 + count inner in
    let same : e ≡ e' = omega (arith, size_marked w inner (p + 1)) in
    let L = loop_label p e in
    heads _ _ _ _ _ _ (ap (λ (n : Node). n ∷ []) (first_marked w inner (p + 1) (Join p))) (ap (λ (n : Node). n ∷ []) (rest_first w rest k e e' same))
    (both_shapes _ _ _ _ (sites_shapes cs w inner (L ∷ ctx) (Join p) (p + 1) [] (rooted_more L ctx r))
    (rest_shapes cs w rest ctx k (points_of ctx) e e' (named (arity kind) (Join p) names) same (sites_shapes cs w rest ctx k e' (named (arity kind) (Join p) names) r)))
sites_shapes cs w (branch kind x y rest) ctx k p names r =
    let x' = marked w (p + 1) x in
    let y' = marked w (p + 1 + count x) y in
    let f = p + 1 + size x' in
    let f' = p + 1 + count x in
    let e = p + 1 + size x' + size y' in
    let e' = p + 1 + count x + count y in
    let same_f : f ≡ f' = omega (arith, size_marked w x (p + 1)) in
    let same : e ≡ e' = omega (arith, size_marked w x (p + 1), size_marked w y f') in
    let L = block_label p (arity kind) e in
    let after = named (arity kind) (Join p) (drop 1 names) in
    heads _ _ _ _ _ _ (ap₂ (λ (m n : Node). m ∷ n ∷ []) (first_marked w x (p + 1) (Join p)) (rest_first w y (Join p) f f' same_f)) (ap (λ (n : Node). n ∷ []) (rest_first w rest k e e' same))
    (both_shapes _ _ _ _ (sites_shapes cs w x (L ∷ ctx) (Join p) (p + 1) [] (rooted_more L ctx r))
    (both_shapes _ _ _ _ (rest_shapes cs w y (L ∷ ctx) (Join p) (Join p ∷ points_of ctx) f f' [] same_f (sites_shapes cs w y (L ∷ ctx) (Join p) f' [] (rooted_more L ctx r)))
    (rest_shapes cs w rest ctx k (points_of ctx) e e' after same (sites_shapes cs w rest ctx k e' after r))))
