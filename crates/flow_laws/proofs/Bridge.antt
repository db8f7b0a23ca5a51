-- Positions as a flat list against positions in the tree.
use Rattle.std.proofs.Common.{◌≡◌, ℕ, zero, suc, ◌+◌, ◌-◌, ◌≤◌, inl, inr, List, [], ◌∷◌, ◌++◌, Bool, true, false, Option, Some, None, drop, length, replicate, slice_get, refl, sym, ap, ◌∙◌, subst, arith, true≢false, length-append, append_assoc, length-drop}
use Rattle.wasm_types.specs.declared.instr.Instr.{Instr}
use Rattle.wasm_types.specs.Actions.{Callees, callees, leaves, takes}
use Rattle.flow_laws.proofs.Closed.{BlockOk, BrOk, Closed, Cuts, Dark, DoOk, Mode, Skip, cuts, strict}
use Rattle.flow_laws.proofs.Falls.{dark-sub}
use Rattle.flow_laws.proofs.Silent.{Silent, arity_small}
use Rattle.flow_domain.specs.Cut.{shown}
use Rattle.flow_domain.specs.Heights.{HasLabel, Shaped}
use Rattle.wasm_types.specs.Labels.{Label, arities, block_label, first, join_of, loop_label, loop_of, point_of, start_of, stop_of, arity, carried, outermost}
use Rattle.wasm_types.specs.Nodes.{AllIn, At, Join, every, made, named}
use Rattle.wasm_types.specs.declared.place.Node.{Node}
use Rattle.wasm_types.specs.Sites.{HasJoin, Among, BrIfHead, BrTableHead, Branches, DoHead, EndAt, IfHead, IsSite, Leads, Site, Sites, UnreachableHead, branches, carry_names, end_names, from_at, from_join, inner_ends, into, one_end, past, sites}
use Rattle.wasm_types.specs.Shadow.{Inside, at_position, at_join, arms, later, around, looping, InShadow, if_join}
use Rattle.wasm_types.specs.Reaching.{Table, Writes, writes_it}
use Rattle.flow_domain.specs.Bounds.{written_by, writes_at, Bounds, Cover, bounds}
use Rattle.wasm_meaning.specs.Effects.{Calls, Fixed}
use Rattle.wasm_types.specs.declared.place.Loc.{Loc}
use Rattle.wasm_types.specs.declared.module.ValType.{ValType}
use Rattle.wasm_types.specs.Marked.{Block, Br, BrIf, BrTable, Do, End, If, Loop, Marked, Return, Unreachable, size}

abbrev pub HasAt : Sites → ℕ → Sites → Type 0
HasAt S p [] = Unit {0}
HasAt S p (x ∷ xs) = (slice_get S p ≡ Some x) × HasAt S (p + 1) xs

pub has_front : (S : Sites) (p : ℕ) (xs ys : Sites) → HasAt S p (xs ++ ys) → HasAt S p xs
has_front S p [] ys h = tt
has_front S p (x ∷ xs) ys h = (h.0, has_front S (p + 1) xs ys h.1)

pub has_back : (S : Sites) (p q : ℕ) (xs ys : Sites) → q ≡ p + length xs → HasAt S p (xs ++ ys) → HasAt S q ys
has_back S p q [] ys e h = let f : p ≡ q = omega arith in subst (λ n. HasAt S n ys) f h
has_back S p q (x ∷ xs) ys e h = has_back S (p + 1) q xs ys (omega arith) h.1

get-past : (pre : Sites) (x : Option Site) (xs : Sites) → slice_get (pre ++ x ∷ xs) (length pre) ≡ Some x
get-past [] x xs = refl
get-past (y ∷ pre) x xs = get-past pre x xs

pub has_all : (pre xs : Sites) (p : ℕ) → p ≡ length pre → HasAt (pre ++ xs) p xs
has_all pre [] p e = tt
has_all pre (x ∷ xs) p e = (
  rw (e, get-past),
  subst (λ S. HasAt S (p + 1) xs) (append_assoc pre (x ∷ []) xs) (has_all (pre ++ x ∷ []) xs (p + 1) (omega (arith, length-append pre (x ∷ [])))),
)

length-nones : (n : ℕ) → length (replicate {A = Option Site} n None) ≡ n
length-nones zero = refl
length-nones (suc n) = ap suc (length-nones n)

pub length-sites : (cs : Callees) (code : Marked) (ctx : List Label) (k : Node) (p : ℕ) (names : List Node) → length (sites cs ctx k code p names) ≡ size code
length-sites cs End ctx k p names = refl
length-sites cs (Do m op rest) ctx k p names = omega (arith, length-sites cs rest ctx k (p + 1) (made cs p op names))
length-sites cs (Block m r body rest) ctx k p names =
    let a = length-sites cs body (block_label p (arity r) (p + 1 + size body) ∷ ctx) (Join p) (p + 1) [] in
    let b = length-sites cs rest ctx k (p + 1 + size body) (named (arity r) (Join p) names) in
    omega (
      arith,
      length-append (sites cs (block_label p (arity r) (p + 1 + size body) ∷ ctx) (Join p) body (p + 1) [])
          (sites cs ctx k rest (p + 1 + size body) (named (arity r) (Join p) names)),
    )
length-sites cs (Loop m r body rest) ctx k p names =
    let a = length-sites cs body (loop_label p (p + 1 + size body) ∷ ctx) (Join p) (p + 1) [] in
    let b = length-sites cs rest ctx k (p + 1 + size body) (named (arity r) (Join p) names) in
    omega (
      arith,
      length-append (sites cs (loop_label p (p + 1 + size body) ∷ ctx) (Join p) body (p + 1) [])
          (sites cs ctx k rest (p + 1 + size body) (named (arity r) (Join p) names)),
    )
length-sites cs (If m r x y rest) ctx k p names =
    let e = p + 1 + size x + size y in
    let L = block_label p (arity r) e in
    let a = length-sites cs x (L ∷ ctx) (Join p) (p + 1) [] in
    let b = length-sites cs y (L ∷ ctx) (Join p) (p + 1 + size x) [] in
    let c = length-sites cs rest ctx k e (named (arity r) (Join p) (drop 1 names)) in
    omega (
      arith,
      length-append (sites cs (L ∷ ctx) (Join p) x (p + 1) [])
          (sites cs (L ∷ ctx) (Join p) y (p + 1 + size x) [] ++ sites cs ctx k rest e (named (arity r) (Join p) (drop 1 names))),
      length-append (sites cs (L ∷ ctx) (Join p) y (p + 1 + size x) []) (sites cs ctx k rest e (named (arity r) (Join p) (drop 1 names))),
    )
length-sites cs (Br m l rest) ctx k p names = omega (arith, length-nones (size rest))
length-sites cs (BrIf m l rest) ctx k p names = omega (arith, length-sites cs rest ctx k (p + 1) (drop 1 names))
length-sites cs (BrTable m labels other rest) ctx k p names = omega (arith, length-nones (size rest))
length-sites cs (Return m rest) ctx k p names = omega (arith, length-nones (size rest))
length-sites cs (Unreachable m rest) ctx k p names = omega (arith, length-nones (size rest))

pub no_join : {U : Table} {x : Loc} {p : ℕ} → Writes U x (Join p) → ⊥
no_join = elim [ ]

some_site : Option (Option Site) → Site → Site
some_site (Some (Some s)) d = s
some_site (Some None) d = d
some_site None d = d

pub same_site : (S : Sites) (p : ℕ) (s s' : Site) → IsSite S p s → IsSite S p s' → s ≡ s'
unfolding some_site
same_site S p s s' e e' = ap (λ o. some_site o s) (sym e ∙ e')

pub writes_only : (B : Bounds) (S : Sites) (x : Loc) (p : ℕ) (s : Site) → IsSite S p s → writes_at B s.head x ≡ false → Writes (written_by B S) x (At p) → ⊥
writes_only B S x p s is off (writes_it w) = true≢false (sym w.2 ∙ ap (λ z. writes_at B z.head x) (same_site S p w.0 s w.1 is) ∙ off)

-- the stops of the labels around rise
abbrev pub Nested : List Label → ℕ → Type 0
Nested [] q = Unit {0}
Nested (L ∷ ctx) q = (q ≤ L.stop) × Nested ctx L.stop

pub nested-sub : (ctx : List Label) (q q' : ℕ) → q' ≤ q → Nested ctx q → Nested ctx q'
nested-sub [] q q' le n = tt
nested-sub (L ∷ ctx) q q' le n = let a = n.0 in (omega arith, n.1)

nested-stop : (ctx : List Label) (l q : ℕ) → HasLabel (arities ctx) l → Nested ctx q → q ≤ stop_of ctx l
nested-stop [] l q h n = absurd h
nested-stop (L ∷ ctx) zero q h n = n.0
nested-stop (L ∷ ctx) (suc l) q h n = let a = n.0 in let b = nested-stop ctx l L.stop h n.1 in omega arith

pub skip_of : (w : Mode) (K : Node → Bool) (ctx : List Label) (l q : ℕ) → HasLabel (arities ctx) l → Nested ctx q → Dark K q (stop_of ctx l)
    → K (join_of ctx l) ≡ false → (loop_of ctx l ≡ true → Dark K (start_of ctx l) (stop_of ctx l)) → (strict w ≡ true → loop_of ctx l ≡ false)
    → Skip w K ctx l q
skip_of w K [] l q h n d j lp fl = absurd h
skip_of w K (L ∷ ctx) zero q h n d j lp fl = (d, j, lp, fl)
skip_of w K (L ∷ ctx) (suc l) q h n d j lp fl = (
  dark-sub K q (stop_of ctx l) q L.stop d (omega arith) (nested-stop ctx l L.stop h n.1),
  skip_of w K ctx l L.stop h n.1 (dark-sub K q (stop_of ctx l) L.stop (stop_of ctx l) d n.0 (omega arith)) j lp fl,
)

pub all_shown : (P : Node → Bool) (t : ℕ) (names : List Node) → AllIn P t names → length names ≡ t → shown P names ≡ t
all_shown P zero [] a e = refl
all_shown P zero (d ∷ names) a e = absurd (omega arith)
all_shown P (suc t) [] a e = absurd a
all_shown P (suc t) (d ∷ names) a e = rw a.0 (ap suc (all_shown P t names a.1 (omega arith)))

pub length-named_of : (a : ℕ) (d : Node) (names : List Node) → a ≤ 1 → length (named a d names) ≡ a + length names
length-named_of zero d names le = omega arith
length-named_of (suc zero) d names le = omega arith
length-named_of (suc (suc a)) d names le = absurd (omega arith)

pub length-made : (cs : Callees) (p : ℕ) (op : Instr) (names : List Node) → leaves cs op ≤ 1
    → length (made cs p op names) ≡ leaves cs op + (length names - takes cs op)
length-made cs p op names few = omega (arith, length-named_of (leaves cs op) (At p) (drop (takes cs op) names) few, length-drop (takes cs op) names)

pub among_left : {A : Type 0} (xs ys : List A) (e : A) → Among xs e → Among (xs ++ ys) e
among_left [] ys e a = absurd a
among_left (x ∷ xs) ys e (inl q) = inl q
among_left (x ∷ xs) ys e (inr a) = inr (among_left xs ys e a)

pub among_right : {A : Type 0} (xs ys : List A) (e : A) → Among ys e → Among (xs ++ ys) e
among_right [] ys e a = a
among_right (x ∷ xs) ys e a = inr (among_right xs ys e a)

pub among_end : (k : Node) (t : ℕ) (names : List Node) (o : Option (List Node)) → o ≡ Some names
    → Among (one_end k t o) (record { owner = k; count = t; names = names })
among_end k t names o e = subst (λ z. Among (one_end k t z) (record { owner = k; count = t; names = names })) (sym e) (inl refl)

pub not_both : {A : Type 0} (q : Bool) → q ≡ true → q ≡ false → A
not_both q e f = absurd (true≢false (sym e ∙ f))

pub off-or-on : (q : Bool) → (q ≡ true → ⊥) → q ≡ false
off-or-on true f = absurd (f refl)
off-or-on false f = refl

pub all_drop : (K : Node → Bool) (n : ℕ) (names : List Node) → AllIn K (suc n) names → AllIn K n (drop 1 names)
all_drop K n [] a = absurd a
all_drop K n (d ∷ names) a = a.1

pub every_in : (n : ℕ) (names : List Node) → n ≤ length names → AllIn every n names
every_in zero names le = tt
every_in (suc n) [] le = absurd (omega arith)
every_in (suc n) (d ∷ names) le = (refl, every_in n names (omega arith))

-- where a position is live, and where a join is one of a live position
pub record Standing (S : Sites) (K : Node → Bool) : Type 0 where
  pub at_live : (p : ℕ) → K (At p) ≡ true → (s : Site) × IsSite S p s
  pub at_end : (b : ℕ) → K (Join b) ≡ true → (s : Site) × IsSite S b s × HasJoin s.head

-- a set of live nodes keeps nothing where it keeps no live node
pub unlit_of : (S : Sites) (K : Node → Bool) → Standing S K → (a e : ℕ) → ((d : Node) → Inside S a e d → K d ≡ false) → Dark K a e
unlit_of S K st a e f i le lt = (
  off-or-on (K (At i)) (λ on. let t = st.at_live i on in not_both (K (At i)) on (f (At i) (at_position t.0 t.1 le lt))),
  off-or-on (K (Join i)) (λ on. let t = st.at_end i on in not_both (K (Join i)) on (f (Join i) (at_join t.0 t.1 t.2 le lt))),
)

-- what the closure of a set gives at each position, K and M being told apart
pub record Facts (Z : Fixed) (W : Cover) (G : Calls → Type 0) (w : Mode) (S : Sites) (ends : List EndAt) (X : Instr → Type 0) (K M : Node → Bool)
    (N : Node → Loc → Type 0) : Type 0 where
  pub do_ok : (p : ℕ) (s : Site) (op : Instr) → IsSite S p s → s.head ≡ DoHead op → X op → takes (callees Z.m) op ≤ length s.names
      → leaves (callees Z.m) op ≤ 1 → DoOk Z W G w K M every N false op p s.names s.next
  pub test_if : (p : ℕ) (kind : Option ValType) (s : Site) → IsSite S p s → s.head ≡ IfHead kind → K (At p) ≡ true → 1 ≤ length s.names → AllIn M 1 s.names
  pub test_br : (p l : ℕ) (s : Site) → IsSite S p s → s.head ≡ BrIfHead l → K (At p) ≡ true → 1 ≤ length s.names → AllIn M 1 s.names
  pub test_table : (p other : ℕ) (labels : List ℕ) (s : Site) → IsSite S p s → s.head ≡ BrTableHead labels other → K (At p) ≡ true → 1 ≤ length s.names
      → AllIn M 1 s.names
  pub shadows : (p : ℕ) (n : Node) → InShadow S p n → K n ≡ true → K (At p) ≡ true
  pub carries : (p l : ℕ) (s : Site) → IsSite S p s → Branches s.head l → carried (arities s.around) l ≤ length (carry_names s.head s.names)
      → M (join_of s.around l) ≡ true → AllIn M (carried (arities s.around) l) (carry_names s.head s.names)
  pub live_ends : (e : EndAt) → Among ends e → e.count ≤ length e.names → M e.owner ≡ true → AllIn M e.count e.names
  pub no_back : strict w ≡ true → (p l : ℕ) (s : Site) → IsSite S p s → Branches s.head l → loop_of s.around l ≡ true → K (At p) ≡ true
  pub stops : strict w ≡ true → (p : ℕ) (s : Site) → IsSite S p s → s.head ≡ UnreachableHead → K (At p) ≡ true
  pub no_cut : cuts w ≡ false
  pub standing : Standing S K
  pub before : (a b : Node) (x : Loc) → Leads S a b → (Writes (written_by (bounds Z.m W) S) x a → ⊥) → N b x → N a x

not_watched : {A : Type 0} (m : Bool) → m ≡ false → m ≡ true → A
not_watched m off on = absurd (true≢false (sym on ∙ off))

module _ (Z : Fixed) (W : Cover) (G : Calls → Type 0) (w : Mode) (S : Sites) (ends : List EndAt) (X : Instr → Type 0) (K M : Node → Bool)
    (N : Node → Loc → Type 0) (fa : Facts Z W G w S ends X K M N) where
  -- the values at the live end of a sequence that k owns
  abbrev pub EndRule : Node → ℕ → Marked → ℕ → List Node → Type 0
  EndRule k t code p names = (ns : List Node) → end_names (callees Z.m) code p names ≡ Some ns → length ns ≡ t → M k ≡ true → AllIn M t ns

  abbrev Sub : List EndAt → Type 0
  Sub xs = (e : EndAt) → Among xs e → Among ends e

  -- the rule at the end of a block, loop or arm
  inner_rule : (p r : ℕ) (code : Marked) (q : ℕ) → Sub (one_end (Join p) r (end_names (callees Z.m) code q [])) → EndRule (Join p) r code q []
  inner_rule p r code q sub ns e long on =
      let a = sub _ (among_end (Join p) r ns (end_names (callees Z.m) code q []) e) in fa.live_ends _ a (omega arith) on

  unlit : (a e : ℕ) → ((d : Node) → Inside S a e d → K d ≡ false) → Dark K a e
  unlit a e f = unlit_of S K fa.standing a e f

  if_ok : (m : Bool) (kind : Option ValType) (p e : ℕ) (s : Site) (f : Node) → IsSite S p s → m ≡ false → s.stop ≡ e → s.head ≡ IfHead kind
      → slice_get s.inside 0 ≡ Some f → ((x : Loc) → writes_at (bounds Z.m W) s.head x ≡ false) → BlockOk Z W G Cuts K M every N m (arity kind) p e f s.next
  if_ok m kind p e s f is em ee hd ins quiet = record {
    small = arity_small kind;
    marks = λ on. not_watched m em on;
    shows = λ on. refl;
    dark =
        λ on_w off. unlit (p + 1) e
        (λ d i. off-or-on (K d) (λ on. not_both (K (At p)) (fa.shadows p d (arms kind s is hd (subst (λ z. Inside S (p + 1) z d) (sym ee) i)) on) off));
    join = λ on_w off. off-or-on (K (Join p)) (λ on. not_both (K (At p)) (fa.shadows p (Join p) (if_join kind s is hd) on) off);
    enters = λ x nd. fa.before (At p) f x (from_at s is (into 0 ins)) (writes_only (bounds Z.m W) S x p s is (quiet x)) nd;
    leaves_it = λ x nd. fa.before (Join p) s.next x (from_join s is (subst HasJoin (sym hd) tt)) no_join nd;
  }

  block_ok : (m : Bool) (r p e : ℕ) (s : Site) (f : Node) → IsSite S p s → m ≡ false → r ≤ 1 → HasJoin s.head → slice_get s.inside 0 ≡ Some f
      → ((x : Loc) → writes_at (bounds Z.m W) s.head x ≡ false) → BlockOk Z W G w K M every N m r p e f s.next
  block_ok m r p e s f is em small joins ins quiet = record {
    small = small;
    marks = λ on. not_watched m em on;
    shows = λ on. refl;
    dark = λ on_w off i le lt. absurd (true≢false (sym on_w ∙ fa.no_cut));
    join = λ on_w off. absurd (true≢false (sym on_w ∙ fa.no_cut));
    enters = λ x nd. fa.before (At p) f x (from_at s is (into 0 ins)) (writes_only (bounds Z.m W) S x p s is (quiet x)) nd;
    leaves_it = λ x nd. fa.before (Join p) s.next x (from_join s is joins) no_join nd;
  }

  -- what is not kept where a branch is not kept
  br_ok : (ctx : List Label) (m : Bool) (l p n : ℕ) (s : Site) (names : List Node) → IsSite S p s → m ≡ false → s.around ≡ ctx → Branches s.head l
      → ((x : Loc) → writes_at (bounds Z.m W) s.head x ≡ false) → carry_names s.head s.names ≡ names → HasLabel (arities ctx) l → Nested ctx (p + 1)
      → carried (arities ctx) l ≤ length names → BrOk Z W G w K M every N ctx m l p names
  br_ok ctx m l p n s names is em ec br quiet en has nested enough = record {
    enough = enough;
    marks = λ on. not_watched m em on;
    watched = λ on. not_watched m em on;
    shows = λ on. every_in (carried (arities ctx) l) names enough;
    carries = λ on.
        let le : carried (arities s.around) l ≤ length (carry_names s.head s.names) = rw (ec, en) enough in
        subst (λ z. AllIn M (carried (arities ctx) l) z) en
        (subst (λ z. AllIn M (carried (arities z) l) (carry_names s.head s.names)) ec (fa.carries p l s is br le (ap (λ z. M (join_of z l)) ec ∙ on)));
    skips = λ off.
        let out = λ (d : Node) (i : InShadow S p d). off-or-on (K d) (λ on. not_both (K (At p)) (fa.shadows p d i on) off) in
        skip_of w K ctx l (p + 1) has nested
        (unlit (p + 1) (stop_of ctx l) (λ d i. out d (later l s is br (subst (λ z. Inside S (p + 1) (stop_of z l) d) (sym ec) i))))
        (ap (λ z. K (join_of z l)) (sym ec) ∙ out (join_of s.around l) (around l l s is br (omega arith)))
        (λ lp. unlit (start_of ctx l) (stop_of ctx l) (λ d i. out d (looping l l s is br (omega arith) (ap (λ z. loop_of z l) ec ∙ lp) (subst (λ z. Inside S (start_of z l) (stop_of z l) d) (sym ec) i))))
        (λ st. off-or-on (loop_of ctx l) (λ lp. not_both (K (At p)) (fa.no_back st p l s is br (ap (λ z. loop_of z l) ec ∙ lp)) off));
    goes =
        λ x nd. fa.before (At p) (point_of ctx l) x (subst (λ z. Leads S (At p) (point_of z l)) ec (from_at s is (branches l br)))
        (writes_only (bounds Z.m W) S x p s is (quiet x)) nd;
  }

  pub closed_of : (code : Marked) (ctx : List Label) (k : Node) (t p : ℕ) (names : List Node) → HasAt S p (sites (callees Z.m) ctx k code p names)
      → Shaped (callees Z.m) X (arities ctx) t code (length names) → Silent code → Nested ctx (p + size code) → EndRule k t code p names
      → Sub (inner_ends (callees Z.m) code p names) → (o : Bool) → Closed Z W G w K M every N ctx o k t code p names
  closed_of End ctx k t p names at ty si nest rule sub o =
      record { long = ty; values = λ on. rule names refl ty on; shows = λ on. all_shown every t names (every_in t names (omega arith)) ty }
  closed_of (Do m op rest) ctx k t p names at ty si nest rule sub o = (
    subst (λ z. DoOk Z W G w K M every N z op p names (first (p + 1) rest k)) (sym si.0) (fa.do_ok p _ op at.0 refl ty.1 ty.0 ty.2),
    closed_of rest ctx k t (p + 1) (made (callees Z.m) p op names) at.1
        (subst (Shaped (callees Z.m) X (arities ctx) t rest) (sym (length-made (callees Z.m) p op names ty.2)) ty.3) si.1 (nested-sub ctx _ _ (omega arith) nest)
        rule sub o,
  )
  closed_of (Block m r body rest) ctx k t p names at ty si nest rule sub o =
      let e = p + 1 + size body in
      let bs = sites (callees Z.m) (block_label p (arity r) e ∷ ctx) (Join p) body (p + 1) [] in
      let rs = sites (callees Z.m) ctx k rest e (named (arity r) (Join p) names) in
      let e1 = one_end (Join p) (arity r) (end_names (callees Z.m) body (p + 1) []) in
      let e2 = inner_ends (callees Z.m) body (p + 1) [] in
      let e3 = inner_ends (callees Z.m) rest e (named (arity r) (Join p) names) in (
        block_ok m (arity r) p e _ (first (p + 1) body (Join p)) at.0 si.0 (arity_small r) tt refl (λ x. refl),
        closed_of body (block_label p (arity r) e ∷ ctx) (Join p) (arity r) (p + 1) [] (has_front S (p + 1) bs rs at.1) ty.0 si.1
            (omega arith, nested-sub ctx _ _ (omega arith) nest) (inner_rule p (arity r) body (p + 1) (λ z a. sub z (among_left e1 (e2 ++ e3) z a)))
            (λ z a. sub z (among_right e1 (e2 ++ e3) z (among_left e2 e3 z a))) (K (At p)),
        closed_of rest ctx k t e (named (arity r) (Join p) names)
            (has_back S (p + 1) e bs rs (omega (arith, length-sites (callees Z.m) body (block_label p (arity r) e ∷ ctx) (Join p) (p + 1) [])) at.1)
            (subst (Shaped (callees Z.m) X (arities ctx) t rest) (sym (length-named_of (arity r) (Join p) names (arity_small r))) ty.1) si.2
            (nested-sub ctx _ _ (omega arith) nest) rule (λ z a. sub z (among_right e1 (e2 ++ e3) z (among_right e2 e3 z a))) o,
      )
  closed_of (Loop m r body rest) ctx k t p names at ty si nest rule sub o =
      let e = p + 1 + size body in
      let bs = sites (callees Z.m) (loop_label p e ∷ ctx) (Join p) body (p + 1) [] in
      let rs = sites (callees Z.m) ctx k rest e (named (arity r) (Join p) names) in
      let e1 = one_end (Join p) (arity r) (end_names (callees Z.m) body (p + 1) []) in
      let e2 = inner_ends (callees Z.m) body (p + 1) [] in
      let e3 = inner_ends (callees Z.m) rest e (named (arity r) (Join p) names) in (
        block_ok m (arity r) p e _ (first (p + 1) body (Join p)) at.0 si.0 (arity_small r) tt refl (λ x. refl),
        closed_of body (loop_label p e ∷ ctx) (Join p) (arity r) (p + 1) [] (has_front S (p + 1) bs rs at.1) ty.0 si.1
            (omega arith, nested-sub ctx _ _ (omega arith) nest) (inner_rule p (arity r) body (p + 1) (λ z a. sub z (among_left e1 (e2 ++ e3) z a)))
            (λ z a. sub z (among_right e1 (e2 ++ e3) z (among_left e2 e3 z a))) (K (At p)),
        closed_of rest ctx k t e (named (arity r) (Join p) names)
            (has_back S (p + 1) e bs rs (omega (arith, length-sites (callees Z.m) body (loop_label p e ∷ ctx) (Join p) (p + 1) [])) at.1)
            (subst (Shaped (callees Z.m) X (arities ctx) t rest) (sym (length-named_of (arity r) (Join p) names (arity_small r))) ty.1) si.2
            (nested-sub ctx _ _ (omega arith) nest) rule (λ z a. sub z (among_right e1 (e2 ++ e3) z (among_right e2 e3 z a))) o,
      )
  closed_of (If m r x y rest) ctx k t p names at ty si nest rule sub o =
      let f = p + 1 + size x in
      let e = p + 1 + size x + size y in
      let L = block_label p (arity r) e in
      let xs = sites (callees Z.m) (L ∷ ctx) (Join p) x (p + 1) [] in
      let ys = sites (callees Z.m) (L ∷ ctx) (Join p) y f [] in
      let rs = sites (callees Z.m) ctx k rest e (named (arity r) (Join p) (drop 1 names)) in
      let e1 = one_end (Join p) (arity r) (end_names (callees Z.m) x (p + 1) []) in
      let e2 = one_end (Join p) (arity r) (end_names (callees Z.m) y f []) in
      let e3 = inner_ends (callees Z.m) x (p + 1) [] in
      let e4 = inner_ends (callees Z.m) y f [] in
      let e5 = inner_ends (callees Z.m) rest e (named (arity r) (Join p) (drop 1 names)) in
      let back_x = has_back S (p + 1) f xs (ys ++ rs) (omega (arith, length-sites (callees Z.m) x (L ∷ ctx) (Join p) (p + 1) [])) at.1 in
      let long : (arity r) + (length names - 1) ≡ length (named (arity r) (Join p) (drop 1 names)) =
      omega (arith, length-named_of (arity r) (Join p) (drop 1 names) (arity_small r), length-drop 1 names) in (
        record { enough = ty.0; operand = λ on. fa.test_if p r _ at.0 refl on ty.0 },
        if_ok m r p e _ (first (p + 1) x (Join p)) at.0 si.0 refl refl refl (λ x. refl),
        (λ z nd. fa.before (At p) (first f y (Join p)) z (from_at _ at.0 (into 1 refl)) (writes_only (bounds Z.m W) S z p _ at.0 refl) nd),
        closed_of x (L ∷ ctx) (Join p) (arity r) (p + 1) [] (has_front S (p + 1) xs (ys ++ rs) at.1) ty.1 si.1
            (omega arith, nested-sub ctx _ _ (omega arith) nest) (inner_rule p (arity r) x (p + 1) (λ z a. sub z (among_left e1 _ z a)))
            (λ z a. sub z (among_right e1 _ z (among_right e2 _ z (among_left e3 _ z a)))) (K (At p)),
        closed_of y (L ∷ ctx) (Join p) (arity r) f [] (has_front S f ys rs back_x) ty.2 si.2 (omega arith, nested-sub ctx _ _ (omega arith) nest)
            (inner_rule p (arity r) y f (λ z a. sub z (among_right e1 _ z (among_left e2 _ z a))))
            (λ z a. sub z (among_right e1 _ z (among_right e2 _ z (among_right e3 _ z (among_left e4 _ z a))))) (K (At p)),
        closed_of rest ctx k t e (named (arity r) (Join p) (drop 1 names))
            (has_back S f e ys rs (omega (arith, length-sites (callees Z.m) y (L ∷ ctx) (Join p) f [])) back_x)
            (subst (Shaped (callees Z.m) X (arities ctx) t rest) long ty.3) si.3 (nested-sub ctx _ _ (omega arith) nest) rule
            (λ z a. sub z (among_right e1 _ z (among_right e2 _ z (among_right e3 _ z (among_right e4 e5 z a))))) o,
      )
  closed_of (Br m l rest) ctx k t p names at ty si nest rule sub o =
      br_ok ctx m l p 0 _ names at.0 si refl refl (λ x. refl) refl ty.0 (nested-sub ctx _ _ (omega arith) nest) ty.1
  closed_of (BrIf m l rest) ctx k t p names at ty si nest rule sub o =
      let c1 = carried (arities ctx) l in
      let en : 1 ≤ length names = let a = ty.1 in omega arith in (
        record { enough = en; operand = λ on. fa.test_br p l _ at.0 refl on en },
        br_ok ctx m l p 0 _ (drop 1 names) at.0 si.0 refl refl (λ x. refl) refl ty.0 (nested-sub ctx _ _ (omega arith) nest)
            (let a = ty.1 in omega (arith, length-drop 1 names)),
        (λ z nd. fa.before (At p) (first (p + 1) rest k) z (from_at _ at.0 (past l refl)) (writes_only (bounds Z.m W) S z p _ at.0 refl) nd),
        closed_of rest ctx k t (p + 1) (drop 1 names) at.1 (subst (Shaped (callees Z.m) X (arities ctx) t rest) (sym (length-drop 1 names)) ty.2) si.1
            (nested-sub ctx _ _ (omega arith) nest) rule sub o,
      )
  closed_of (BrTable m labels other rest) ctx k t p names at ty si nest rule sub o = (
    record { enough = ty.0; operand = λ on. fa.test_table p other labels _ at.0 refl on ty.0 },
    (λ l one. let a = ty.1 l one in (br_ok ctx m l p 0 _ (drop 1 names) at.0 si refl one (λ x. refl) refl a.0 (nested-sub ctx _ _ (omega arith) nest) (let e = a.1 in omega (arith, length-drop 1 names)), a.2)),
  )
  closed_of (Return m rest) ctx k t p names at ty si nest rule sub o =
      br_ok ctx m (outermost (arities ctx)) p 0 _ names at.0 si refl refl (λ x. refl) refl ty.0 (nested-sub ctx _ _ (omega arith) nest) ty.1
  closed_of (Unreachable m rest) ctx k t p names at ty si nest rule sub o = (λ on. not_watched m si on, λ st. fa.stops st p _ at.0 refl)
