-- Where sites lead, against the lists that a walk finds.
use Rattle.std.proofs.Common.{◌≡◌, ℕ, zero, suc, ◌+◌, ◌*◌, ◌<◌, ◌≤◌, ◌&&◌, inl, inr, ⊎_elim, Bool, true, false, List, [], ◌∷◌, ◌++◌, Option, Some, None, map, get_or, refl, sym, ap, ◌∙◌, subst, arith}
use Rattle.std.specs.List.{slice_get, Contains}
use Rattle.wasm_types.specs.declared.instr.Instr.{Instr}
use Rattle.wasm_types.specs.declared.instr.Instr as instr
use Rattle.wasm_types.specs.declared.place.Node.{Node}
use Rattle.wasm_types.specs.declared.place.Node.TheVariants as node
use Rattle.wasm_types.specs.declared.place.Node.TheVariants.{Exit}
use Rattle.wasm_types.specs.Code.{Code, done, one, block, repeat, branch, count}
use Rattle.wasm_types.specs.Nodes.{At, Join}
use Rattle.wasm_types.specs.Labels.{Label, point_of}
use Rattle.wasm_types.specs.Sites.{Head, DoHead, BlockHead, LoopHead, IfHead, BrHead, BrIfHead, BrTableHead, ReturnHead, UnreachableHead, Site, Sites, Among, OneOf, Branches, Goes, to_next, past, into, branches, Leads, from_at, from_join}
use Rattle.block_cfg.specs.Graph.{number, row_of}
use Rattle.block_cfg.specs.Walk.{target_of, goes_of, goes_on, first_of, where_live, points_in, lists}
use Rattle.block_cfg.proofs.MemberLemmas.{among_of, contains_of, among_left, among_right, among_cases}
use Rattle.block_cfg.proofs.SiteLemmas.{head_goes, head_after, goes, shapes, dead, dead_lists}
use Rattle.block_cfg.proofs.PointLemmas.{has_after, after_among}

-- ---- where one site leads

get_among : (xs : List Node) (k : ℕ) (x : Node) → slice_get xs k ≡ Some x → Among xs x
get_among [] k x e = absurd (grind (arith, e))
get_among (y ∷ ys) zero x e = inl (cc)
get_among (y ∷ ys) (suc k) x e = inr (get_among ys k x e)

among_get : (xs : List Node) (x : Node) → Among xs x → (k : ℕ) × (slice_get xs k ≡ Some x)
among_get [] x a = absurd a
among_get (y ∷ ys) x (inl e) = (0, ap Some e)
among_get (y ∷ ys) x (inr a) = let h = among_get ys x a in (suc h.0, h.1)

one_of_among : (f : ℕ → Node) (labels : List ℕ) (other l : ℕ) → OneOf labels other l → Among (map f (other ∷ labels)) (f l)
one_of_among f [] other l e = inl (ap f (sym e))
one_of_among f (x ∷ labels) other l (inl e) = inr (inl (ap f (sym e)))
one_of_among f (x ∷ labels) other l (inr o) = ⊎_elim (λ e. inl e) (λ a. inr (inr a)) (one_of_among f labels other l o)

other_one_of : (labels : List ℕ) (other : ℕ) → OneOf labels other other
other_one_of [] other = refl
other_one_of (x ∷ labels) other = inr (other_one_of labels other)

map_one_of : (f : ℕ → Node) (labels : List ℕ) (other : ℕ) (n : Node) → Among (map f labels) n → (l : ℕ) × (OneOf labels other l × (f l ≡ n))
map_one_of f [] other n a = absurd a
map_one_of f (x ∷ labels) other n (inl e) = (x, (inl refl, e))
map_one_of f (x ∷ labels) other n (inr a) = let h = map_one_of f labels other n a in (h.0, (inr h.1.0, h.1.1))

branch_among : (h : Head) (next : Node) (ctx : List Label) (l : ℕ) → Branches h l → Among (head_goes h next ctx) (point_of ctx l)
branch_among (DoHead op) next ctx l b = absurd b
branch_among (BlockHead kind) next ctx l b = absurd b
branch_among (LoopHead kind) next ctx l b = absurd b
branch_among (IfHead kind) next ctx l b = absurd b
branch_among (BrHead m) next ctx l b = inl (ap (point_of ctx) (sym b))
branch_among (BrIfHead m) next ctx l b = inr (inl (ap (point_of ctx) (sym b)))
branch_among (BrTableHead labels other) next ctx l b = one_of_among (point_of ctx) labels other l b
branch_among (ReturnHead m) next ctx l b = inl (ap (point_of ctx) (sym b))
branch_among UnreachableHead next ctx l b = absurd b

goes_among : (s : Site) (n : Node) → Goes s n → Among (goes s) n
goes_among s n (to_next op e) = among_right s.inside (head_goes s.head s.next s.around) s.next (subst (λ h. Among (head_goes h s.next s.around) s.next) (sym e) (inl refl))
goes_among s n (past l e) = among_right s.inside (head_goes s.head s.next s.around) s.next (subst (λ h. Among (head_goes h s.next s.around) s.next) (sym e) (inl refl))
goes_among s n (into k e) = among_left s.inside (head_goes s.head s.next s.around) n (get_among s.inside k n e)
goes_among s n (branches l b) = among_right s.inside (head_goes s.head s.next s.around) (point_of s.around l) (branch_among s.head s.next s.around l b)

head_among : (s : Site) (n : Node) (h : Head) → s.head ≡ h → Among (head_goes h s.next s.around) n → Goes s n
head_among s n (DoHead op) e (inl q) = subst (Goes s) q (to_next op e)
head_among s n (DoHead op) e (inr a) = absurd a
head_among s n (BlockHead kind) e a = absurd a
head_among s n (LoopHead kind) e a = absurd a
head_among s n (IfHead kind) e a = absurd a
head_among s n (BrHead l) e (inl q) = subst (Goes s) q (branches l (subst (λ h. Branches h l) (sym e) refl))
head_among s n (BrHead l) e (inr a) = absurd a
head_among s n (BrIfHead l) e (inl q) = subst (Goes s) q (past l e)
head_among s n (BrIfHead l) e (inr (inl q)) = subst (Goes s) q (branches l (subst (λ h. Branches h l) (sym e) refl))
head_among s n (BrIfHead l) e (inr (inr a)) = absurd a
head_among s n (BrTableHead labels other) e (inl q) = subst (Goes s) q (branches other (subst (λ h. Branches h other) (sym e) (other_one_of labels other)))
head_among s n (BrTableHead labels other) e (inr a) =
    let h = map_one_of (point_of s.around) labels other n a in subst (Goes s) h.1.1 (branches h.0 (subst (λ z. Branches z h.0) (sym e) h.1.0))
head_among s n (ReturnHead l) e (inl q) = subst (Goes s) q (branches l (subst (λ h. Branches h l) (sym e) refl))
head_among s n (ReturnHead l) e (inr a) = absurd a
head_among s n UnreachableHead e a = absurd a

among_goes : (s : Site) (n : Node) → Among (goes s) n → Goes s n
among_goes s n a = ⊎_elim
    (λ b. let h = among_get s.inside n b in into h.0 h.1)
    (λ b. head_among s n s.head refl b)
    (among_cases s.inside (head_goes s.head s.next s.around) n a)

-- ---- the lists of a position

abbrev pub at_goes : Option (Option Site) → List Node
at_goes None = []
at_goes (Some None) = []
at_goes (Some (Some s)) = goes s

abbrev pub at_after : Option (Option Site) → List Node
at_after None = []
at_after (Some None) = []
at_after (Some (Some s)) = head_after s.head s.next

row_at : (S : Sites) (p : ℕ) → get_or (shapes S) (2 * p) [] ≡ at_goes (slice_get S p)
row_at [] p = refl
row_at (None ∷ S) zero = refl
row_at (Some s ∷ S) zero = refl
row_at (None ∷ S) (suc p) = let e : 2 * suc p ≡ suc (suc (2 * p)) = omega arith in ap (λ i. get_or (shapes (None ∷ S)) i []) e ∙ row_at S p
row_at (Some s ∷ S) (suc p) = let e : 2 * suc p ≡ suc (suc (2 * p)) = omega arith in ap (λ i. get_or (shapes (Some s ∷ S)) i []) e ∙ row_at S p

join_at : (S : Sites) (p : ℕ) → get_or (shapes S) (2 * p + 1) [] ≡ at_after (slice_get S p)
join_at [] p = refl
join_at (None ∷ S) zero = refl
join_at (Some s ∷ S) zero = refl
join_at (None ∷ S) (suc p) = let e : 2 * suc p + 1 ≡ suc (suc (2 * p + 1)) = omega arith in ap (λ i. get_or (shapes (None ∷ S)) i []) e ∙ join_at S p
join_at (Some s ∷ S) (suc p) = let e : 2 * suc p + 1 ≡ suc (suc (2 * p + 1)) = omega arith in ap (λ i. get_or (shapes (Some s ∷ S)) i []) e ∙ join_at S p

-- the end's list, and then those of the positions
abbrev pub all_rows : Sites → List (List Node)
all_rows S = [] ∷ shapes S

at_row : (S : Sites) (p : ℕ) → row_of (all_rows S) (At p) ≡ at_goes (slice_get S p)
at_row S p = let e : 2 * p + 1 ≡ suc (2 * p) = omega arith in ap (λ i. get_or (all_rows S) i []) e ∙ row_at S p

join_row : (S : Sites) (p : ℕ) → row_of (all_rows S) (Join p) ≡ at_after (slice_get S p)
join_row S p = let e : 2 * p + 2 ≡ suc (2 * p + 1) = omega arith in ap (λ i. get_or (all_rows S) i []) e ∙ join_at S p

at_leads : (S : Sites) (p : ℕ) (b : Node) (o : Option (Option Site)) → slice_get S p ≡ o → Among (at_goes o) b → Leads S (At p) b
at_leads S p b None e a = absurd a
at_leads S p b (Some None) e a = absurd a
at_leads S p b (Some (Some s)) e a = from_at s e (among_goes s b a)

join_leads : (S : Sites) (p : ℕ) (b : Node) (o : Option (Option Site)) → slice_get S p ≡ o → Among (at_after o) b → Leads S (Join p) b
join_leads S p b None e a = absurd a
join_leads S p b (Some None) e a = absurd a
join_leads S p b (Some (Some s)) e a = let h = after_among s.head s.next b a in subst (Leads S (Join p)) h.1 (from_join s e h.0)

pub leads_of : (S : Sites) (a b : Node) → Contains (row_of (all_rows S) a) b → Leads S a b
leads_of S node.Exit b c = absurd (omega (arith, c.1))
leads_of S (node.At p) b c = at_leads S p.0 b (slice_get S p.0) refl (subst (λ l. Among l b) (at_row S p.0) (among_of (row_of (all_rows S) (node.At p)) b c))
leads_of S (node.Join p) b c = join_leads S p.0 b (slice_get S p.0) refl (subst (λ l. Among l b) (join_row S p.0) (among_of (row_of (all_rows S) (node.Join p)) b c))

pub of_leads : (S : Sites) (a b : Node) → Leads S a b → Contains (row_of (all_rows S) a) b
of_leads S a b (from_at {p} {n} s is g) =
    contains_of (row_of (all_rows S) (At p)) n (subst (λ l. Among l n) (sym (at_row S p ∙ ap at_goes is)) (goes_among s n g))
of_leads S a b (from_join {p} s is j) =
    contains_of (row_of (all_rows S) (Join p)) s.next (subst (λ l. Among l s.next) (sym (join_row S p ∙ ap at_after is)) (has_after s.head s.next j))

-- ---- points lead to points

abbrev pub EachNode : (Node → Type 0) → List Node → Type 0
EachNode P [] = Unit {0}
EachNode P (n ∷ ns) = P n × EachNode P ns

abbrev pub EachRow : (Node → Type 0) → List (List Node) → Type 0
EachRow P [] = Unit {0}
EachRow P (row ∷ rows) = EachNode P row × EachRow P rows

each_append : (P : Node → Type 0) (xs ys : List Node) → EachNode P (xs ++ ys) → EachNode P xs × EachNode P ys
each_append P [] ys h = (tt, h)
each_append P (x ∷ xs) ys h = let r = each_append P xs ys h.1 in ((h.0, r.0), r.1)

append_each : (P : Node → Type 0) (xs ys : List Node) → EachNode P xs → EachNode P ys → EachNode P (xs ++ ys)
append_each P [] ys f g = g
append_each P (x ∷ xs) ys f g = (f.0, append_each P xs ys f.1 g)

pub rows_append : (P : Node → Type 0) (xs ys : List (List Node)) → EachRow P xs → EachRow P ys → EachRow P (xs ++ ys)
rows_append P [] ys f g = g
rows_append P (x ∷ xs) ys f g = (f.0, rows_append P xs ys f.1 g)

pub each_among : (P : Node → Type 0) (xs : List Node) (x : Node) → EachNode P xs → Among xs x → P x
each_among P [] x h a = absurd a
each_among P (y ∷ ys) x h (inl e) = subst P e h.0
each_among P (y ∷ ys) x h (inr a) = each_among P ys x h.1 a

pub each_from : (P : Node → Type 0) (xs : List Node) → ((x : Node) → Among xs x → P x) → EachNode P xs
each_from P [] f = tt
each_from P (x ∷ xs) f = (f x (inl refl), each_from P xs (λ y a. f y (inr a)))

pub row_each : (P : Node → Type 0) (rows : List (List Node)) (k : ℕ) → EachRow P rows → EachNode P (get_or rows k [])
row_each P [] k h = tt
row_each P (row ∷ rows) zero h = h.0
row_each P (row ∷ rows) (suc k) h = row_each P rows k h.1

pub target_each : (P : Node → Type 0) (labels : List Node) (l : ℕ) → P Exit → EachNode P labels → P (target_of labels l)
target_each P [] l x h = x
target_each P (n ∷ labels) zero x h = h.0
target_each P (n ∷ labels) (suc l) x h = target_each P labels l x h.1

pub targets_each : (P : Node → Type 0) (labels : List Node) (ls : List ℕ) → P Exit → EachNode P labels → EachNode P (map (target_of labels) ls)
targets_each P labels [] x h = tt
targets_each P labels (l ∷ ls) x h = (target_each P labels l x h, targets_each P labels ls x h)

first_each : (P : Node → Type 0) (c : Code) (p : ℕ) (k : Node) → P k → EachNode P (points_in true c p) → P (first_of p c k)
first_each P done p k h g = h
first_each P (one i rest) p k h g = g.0
first_each P (block kind inner rest) p k h g = g.0
first_each P (repeat kind inner rest) p k h g = g.0
first_each P (branch kind x y rest) p k h g = g.0

none_each : (P : Node → Type 0) (n : ℕ) → EachRow P (shapes (dead n))
none_each P zero = tt
none_each P (suc n) = (tt, (tt, none_each P n))

dead_each : (P : Node → Type 0) (labels : List Node) (k : Node) (c : Code) (p : ℕ) → EachRow P (lists false labels k c p)
dead_each P labels k c p = subst (EachRow P) (sym (dead_lists labels k c p)) (none_each P (count c))

leaf_each : (P : Node → Type 0) (labels : List Node) (k : Node) (i : Instr) (rest : Code) (p : ℕ) → P Exit → EachNode P labels → P k
    → EachNode P (points_in (goes_on i && true) rest (p + 1)) → (EachNode P (points_in true rest (p + 1)) → EachRow P (lists true labels k rest (p + 1)))
    → EachNode P (goes_of labels i (first_of (p + 1) rest k)) × EachRow P (lists (goes_on i && true) labels k rest (p + 1))
leaf_each P labels k (instr.Br l) rest p x ls h g ih = ((target_each P labels l x ls, tt), dead_each P labels k rest (p + 1))
leaf_each P labels k (instr.BrIf l) rest p x ls h g ih = ((first_each P rest (p + 1) k h g, (target_each P labels l x ls, tt)), ih g)
leaf_each P labels k (instr.BrTable some other) rest p x ls h g ih = (targets_each P labels (other ∷ some) x ls, dead_each P labels k rest (p + 1))
leaf_each P labels k instr.Return rest p x ls h g ih = ((x, tt), dead_each P labels k rest (p + 1))
leaf_each P labels k instr.Unreachable rest p x ls h g ih = (tt, dead_each P labels k rest (p + 1))
leaf_each P labels k i rest p x ls h g ih = ((first_each P rest (p + 1) k h g, tt), ih g)

pub lists_each : (P : Node → Type 0) (labels : List Node) (k : Node) (c : Code) (p : ℕ) → P Exit → EachNode P labels → P k → EachNode P (points_in true c p)
    → EachRow P (lists true labels k c p)
lists_each P labels k done p x ls h g = tt
lists_each P labels k (one i rest) p x ls h g =
    let r = leaf_each P labels k i rest p x ls h g.1 (λ f. lists_each P labels k rest (p + 1) x ls h f) in (r.0, (tt, r.1))
lists_each P labels k (block kind inner rest) p x ls h g =
    let e = p + 1 + count inner in
    let parts = each_append P (points_in true inner (p + 1)) (points_in true rest e) g.1.1 in
    let join : P (Join p) = g.1.0 in (
      (first_each P inner (p + 1) (Join p) join parts.0, tt),
      (
        (first_each P rest e k h parts.1, tt),
        rows_append P (lists true (Join p ∷ labels) (Join p) inner (p + 1)) (lists true labels k rest e) (lists_each P (Join p ∷ labels) (Join p) inner (p + 1) x (join, ls) join parts.0)
            (lists_each P labels k rest e x ls h parts.1),
      ),
    )
lists_each P labels k (repeat kind inner rest) p x ls h g =
    let e = p + 1 + count inner in
    let parts = each_append P (points_in true inner (p + 1)) (points_in true rest e) g.1.1 in
    let join : P (Join p) = g.1.0 in (
      (first_each P inner (p + 1) (Join p) join parts.0, tt),
      (
        (first_each P rest e k h parts.1, tt),
        rows_append P (lists true (At p ∷ labels) (Join p) inner (p + 1)) (lists true labels k rest e) (lists_each P (At p ∷ labels) (Join p) inner (p + 1) x (g.0, ls) join parts.0)
            (lists_each P labels k rest e x ls h parts.1),
      ),
    )
lists_each P labels k (branch kind a b rest) p x ls h g =
    let f = p + 1 + count a in
    let e = p + 1 + count a + count b in
    let parts = each_append P (points_in true a (p + 1)) (points_in true b f ++ points_in true rest e) g.1.1 in
    let more = each_append P (points_in true b f) (points_in true rest e) parts.1 in
    let join : P (Join p) = g.1.0 in (
      (first_each P a (p + 1) (Join p) join parts.0, (first_each P b f (Join p) join more.0, tt)),
      (
        (first_each P rest e k h more.1, tt),
        rows_append P (lists true (Join p ∷ labels) (Join p) a (p + 1)) (lists true (Join p ∷ labels) (Join p) b f ++ lists true labels k rest e)
            (lists_each P (Join p ∷ labels) (Join p) a (p + 1) x (join, ls) join parts.0)
            (rows_append P (lists true (Join p ∷ labels) (Join p) b f) (lists true labels k rest e) (lists_each P (Join p ∷ labels) (Join p) b f x (join, ls) join more.0)
            (lists_each P labels k rest e x ls h more.1)),
      ),
    )

-- ---- the numbers of points

live_below : (b : Bool) (p hi : ℕ) → p + 1 ≤ hi → EachNode (λ (n : Node). number n < 2 * hi + 1) (where_live b (At p ∷ []))
live_below true p hi le = (omega arith, tt)
live_below false p hi le = tt

both_below : (b : Bool) (p hi : ℕ) → p + 1 ≤ hi → EachNode (λ (n : Node). number n < 2 * hi + 1) (where_live b (At p ∷ Join p ∷ []))
both_below true p hi le = (omega arith, (omega arith, tt))
both_below false p hi le = tt

pub points_below : (b : Bool) (c : Code) (p hi : ℕ) → p + count c ≤ hi → EachNode (λ (n : Node). number n < 2 * hi + 1) (points_in b c p)
points_below b done p hi le = tt
points_below b (one i rest) p hi le =
    append_each (λ (n : Node). number n < 2 * hi + 1) (where_live b (At p ∷ [])) _ (live_below b p hi (omega arith)) (points_below (goes_on i && b) rest (p + 1) hi (omega arith))
points_below b (block kind inner rest) p hi le =
    append_each (λ (n : Node). number n < 2 * hi + 1) (where_live b (At p ∷ Join p ∷ [])) _ (both_below b p hi (omega arith))
    (append_each (λ (n : Node). number n < 2 * hi + 1) (points_in b inner (p + 1)) _ (points_below b inner (p + 1) hi (omega arith)) (points_below b rest (p + 1 + count inner) hi (omega arith)))
points_below b (repeat kind inner rest) p hi le =
    append_each (λ (n : Node). number n < 2 * hi + 1) (where_live b (At p ∷ Join p ∷ [])) _ (both_below b p hi (omega arith))
    (append_each (λ (n : Node). number n < 2 * hi + 1) (points_in b inner (p + 1)) _ (points_below b inner (p + 1) hi (omega arith)) (points_below b rest (p + 1 + count inner) hi (omega arith)))
points_below b (branch kind x y rest) p hi le =
    append_each (λ (n : Node). number n < 2 * hi + 1) (where_live b (At p ∷ Join p ∷ [])) _ (both_below b p hi (omega arith))
    (append_each (λ (n : Node). number n < 2 * hi + 1) (points_in b x (p + 1)) _ (points_below b x (p + 1) hi (omega arith))
    (append_each (λ (n : Node). number n < 2 * hi + 1) (points_in b y (p + 1 + count x)) _ (points_below b y (p + 1 + count x) hi (omega arith))
    (points_below b rest (p + 1 + count x + count y) hi (omega arith))))
