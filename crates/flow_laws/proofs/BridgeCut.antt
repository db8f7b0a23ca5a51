-- The rules over positions give what the simulation asks at each instruction.
use Rattle.wasm_types.specs.declared.place.Node.TheVariants.{Exit}
use Rattle.flow_domain.specs.Kept.{NamesIn}
use Rattle.flow_domain.specs.Presence.{at_exit, left, operand, result, maker, HoldsNeeded}
use Rattle.std.proofs.Common.{suc, zero, Option, ◌≡◌, ℕ, ◌+◌, ◌-◌, ◌≤◌, ◌<◌, List, [], ◌∷◌, ◌++◌, Bool, true, false, Some, drop, length, slice_get, refl, sym, ap, ◌∙◌, subst, arith, true≢false, length-drop}
use Rattle.wasm_types.specs.declared.module.ValType.{ValType}
use Rattle.wasm_types.specs.Marked.{Marked, End, Do, Block, Loop, If, Br, BrIf, BrTable, Return, Unreachable, size}
use Rattle.wasm_types.specs.declared.instr.Instr.{Instr}
use Rattle.wasm_types.specs.declared.place.Loc.{Loc}
use Rattle.flow_domain.specs.Bounds.{written_by, Cover, bounds, writes_at}
use Rattle.wasm_meaning.specs.Effects.{Fixed, Calls}
use Rattle.wasm_types.specs.Actions.{Callees, callees, takes, leaves}
use Rattle.wasm_types.specs.Labels.{arity, carried, outermost, Label, block_label, loop_label, arities, point_of, join_of, loop_of, start_of, stop_of, first}
use Rattle.wasm_types.specs.declared.place.Node.{Node}
use Rattle.wasm_types.specs.Nodes.{At, Join, named, made, AllIn}
use Rattle.wasm_types.specs.Sites.{HasJoin, DoHead, IfHead, BrIfHead, BrTableHead, Site, Sites, sites, IsSite, Branches, EndAt, one_end, end_names, inner_ends, all_operands, past, into, branches, Leads, from_at, from_join, carry_names, Among}
use Rattle.wasm_types.specs.Reaching.{Writes}
use Rattle.wasm_types.specs.Shadow.{Inside, arms, later, around, looping, InShadow, if_join}
use Rattle.flow_domain.specs.Heights.{HasLabel, Shaped}
use Rattle.flow_laws.proofs.Closed.{Dark, Cuts, DoOk, BlockOk, BrOk, Closed}
use Rattle.flow_laws.proofs.Stacks.{at, arity-few}
use Rattle.flow_laws.proofs.Bridge.{Standing, unlit_of, not_both, off-or-on, HasAt, has_front, has_back, length-sites, no_join, writes_only, Nested, nested-sub, skip_of, all_shown, length-named_of, length-made, among_left, among_right, among_end, all_drop}

-- the first so many names, where there are so many, are in a set that each of them is in
pub all_in : (K : Node → Bool) (n : ℕ) (names : List Node) → n ≤ length names → NamesIn K n names → AllIn K n names
all_in K zero names le a = tt
all_in K (suc n) [] le a = absurd (omega arith)
all_in K (suc n) (d ∷ names) le a = (a 0 d (omega arith) refl, all_in K n names (omega arith) (λ k e lt q. a (suc k) e (omega arith) q))

-- what has to be present in a cut
pub record IsShown (cs : Callees) (S : Sites) (ends : List EndAt) (K P : Node → Bool) : Type 0 where
  pub kept : (n : Node) → K n ≡ true → P n ≡ true
  pub joined : (b : ℕ) → K (At b) ≡ true → P (Join b) ≡ true
  pub taken : (p : ℕ) (s : Site) → IsSite S p s → K (At p) ≡ true → all_operands cs s.around s.head ≤ length s.names
      → AllIn P (all_operands cs s.around s.head) s.names
  pub ended : (e : EndAt) (b : ℕ) → Among ends e → e.owner ≡ Join b → length e.names ≡ e.count → K (At b) ≡ true → AllIn P e.count e.names
  pub body_end : (e : EndAt) → Among ends e → e.owner ≡ Exit → length e.names ≡ e.count → AllIn P e.count e.names

-- a set that holds what is needed
pub shown_of : (cs : Callees) (S : Sites) (ends : List EndAt) (K P : Node → Bool) → HoldsNeeded cs S ends K P → IsShown cs S ends K P
shown_of cs S ends K P holds = record {
  kept = λ n on. holds n (maker on);
  joined = λ b on. holds (Join b) (result on);
  taken = λ p s is on le. all_in P _ s.names le (λ k d lt e. holds d (operand p s is on (k, lt, e)));
  ended = λ e b a o long on. all_in P e.count e.names (omega arith) (λ k d lt g. holds d (left b e a o on (k, lt, g)));
  body_end = λ e a o long. all_in P e.count e.names (omega arith) (λ k d lt g. holds d (at_exit e a o (k, lt, g)));
}

-- what the closure gives at each position
pub record CutFacts (Z : Fixed) (W : Cover) (G : Calls → Type 0) (S : Sites) (ends : List EndAt) (X : Instr → Type 0) (K M P : Node → Bool)
    (N : Node → Loc → Type 0) : Type 0 where
  pub do_ok : (p : ℕ) (s : Site) (op : Instr) → IsSite S p s → s.head ≡ DoHead op → X op → takes (callees Z.m) op ≤ length s.names
      → leaves (callees Z.m) op ≤ 1 → DoOk Z W G Cuts K M P N s.mark op p s.names s.next
  pub watched : (p : ℕ) (s : Site) → IsSite S p s → s.mark ≡ true → K (At p) ≡ true
  pub watched_in : (p : ℕ) (s : Site) → IsSite S p s → s.mark ≡ true → all_operands (callees Z.m) s.around s.head ≤ length s.names
      → AllIn M (all_operands (callees Z.m) s.around s.head) s.names
  pub test_if : (p : ℕ) (kind : Option ValType) (s : Site) → IsSite S p s → s.head ≡ IfHead kind → K (At p) ≡ true → 1 ≤ length s.names → AllIn M 1 s.names
  pub test_br : (p l : ℕ) (s : Site) → IsSite S p s → s.head ≡ BrIfHead l → K (At p) ≡ true → 1 ≤ length s.names → AllIn M 1 s.names
  pub test_table : (p other : ℕ) (labels : List ℕ) (s : Site) → IsSite S p s → s.head ≡ BrTableHead labels other → K (At p) ≡ true → 1 ≤ length s.names
      → AllIn M 1 s.names
  pub shadows : (p : ℕ) (n : Node) → InShadow S p n → K n ≡ true → K (At p) ≡ true
  pub carries : (p l : ℕ) (s : Site) → IsSite S p s → Branches s.head l → carried (arities s.around) l ≤ length (carry_names s.head s.names)
      → M (join_of s.around l) ≡ true → AllIn M (carried (arities s.around) l) (carry_names s.head s.names)
  pub live_ends : (e : EndAt) → Among ends e → e.count ≤ length e.names → M e.owner ≡ true → AllIn M e.count e.names
  pub around_at : (b m : ℕ) (s : Site) → IsSite S b s → b < m → m < s.stop → K (At m) ≡ true → K (At b) ≡ true
  pub around_join : (b m : ℕ) (s : Site) → IsSite S b s → b < m → m < s.stop → K (Join m) ≡ true → K (At b) ≡ true
  pub own_join : (b : ℕ) → K (Join b) ≡ true → K (At b) ≡ true
  pub standing : Standing S K
  pub before : (a b : Node) (x : Loc) → Leads S a b → (Writes (written_by (bounds Z.m W) S) x a → ⊥) → N b x → N a x

module _ (Z : Fixed) (W : Cover) (G : Calls → Type 0) (S : Sites) (ends : List EndAt) (X : Instr → Type 0) (K M P : Node → Bool) (N : Node → Loc → Type 0)
    (fa : CutFacts Z W G S ends X K M P N) (sh : IsShown (callees Z.m) S ends K P) where
  -- the values at the live end of a sequence that k owns
  abbrev pub EndRule : Bool → Node → ℕ → Marked → ℕ → List Node → Type 0
  EndRule o k t code p names =
      (ns : List Node) → end_names (callees Z.m) code p names ≡ Some ns → length ns ≡ t → (M k ≡ true → AllIn M t ns) × (o ≡ true → AllIn P t ns)

  abbrev Sub : List EndAt → Type 0
  Sub xs = (e : EndAt) → Among xs e → Among ends e

  inner_rule : (p r : ℕ) (code : Marked) (q : ℕ) → Sub (one_end (Join p) r (end_names (callees Z.m) code q [])) → EndRule (K (At p)) (Join p) r code q []
  inner_rule p r code q sub ns e long =
      let a = sub _ (among_end (Join p) r ns (end_names (callees Z.m) code q []) e) in
      ((λ on. fa.live_ends _ a (omega arith) on), (λ on. sh.ended _ p a refl long on))

  unlit : (a e : ℕ) → ((d : Node) → Inside S a e d → K d ≡ false) → Dark K a e
  unlit a e f = unlit_of S K fa.standing a e f

  if_ok : (m : Bool) (kind : Option ValType) (p e : ℕ) (s : Site) (f : Node) → IsSite S p s → s.mark ≡ m → s.stop ≡ e → s.head ≡ IfHead kind
      → slice_get s.inside 0 ≡ Some f → ((x : Loc) → writes_at (bounds Z.m W) s.head x ≡ false) → BlockOk Z W G Cuts K M P N m (arity kind) p e f s.next
  if_ok m kind p e s f is em ee hd ins quiet = record {
    small = arity-few kind;
    marks = λ on. fa.watched p s is (em ∙ on);
    shows = λ on. sh.joined p on;
    dark =
        λ on_w off. unlit (p + 1) e
        (λ d i. off-or-on (K d) (λ on. not_both (K (At p)) (fa.shadows p d (arms kind s is hd (subst (λ z. Inside S (p + 1) z d) (sym ee) i)) on) off));
    join = λ on_w off. off-or-on (K (Join p)) (λ on. not_both (K (At p)) (fa.shadows p (Join p) (if_join kind s is hd) on) off);
    enters = λ x nd. fa.before (At p) f x (from_at s is (into 0 ins)) (writes_only (bounds Z.m W) S x p s is (quiet x)) nd;
    leaves_it = λ x nd. fa.before (Join p) s.next x (from_join s is (subst HasJoin (sym hd) tt)) no_join nd;
  }

  block_ok : (m : Bool) (r p e : ℕ) (s : Site) (f : Node) → IsSite S p s → s.mark ≡ m → s.stop ≡ e → r ≤ 1 → HasJoin s.head → slice_get s.inside 0 ≡ Some f
      → ((x : Loc) → writes_at (bounds Z.m W) s.head x ≡ false) → BlockOk Z W G Cuts K M P N m r p e f s.next
  block_ok m r p e s f is em ee small joins ins quiet = record {
    small = small;
    marks = λ on. fa.watched p s is (em ∙ on);
    shows = λ on. sh.joined p on;
    dark = λ on_w off i le lt. (let le' : p < i = omega arith in let lt' : i < s.stop = omega arith in
        (off-or-on (K (At i)) (λ on. not_both (K (At p)) (fa.around_at p i s is le' lt' on) off), off-or-on (K (Join i)) (λ on. not_both (K (At p)) (fa.around_join p i s is le' lt' on) off)));
    join = λ on_w off. off-or-on (K (Join p)) (λ on. not_both (K (At p)) (fa.own_join p on) off);
    enters = λ x nd. fa.before (At p) f x (from_at s is (into 0 ins)) (writes_only (bounds Z.m W) S x p s is (quiet x)) nd;
    leaves_it = λ x nd. fa.before (Join p) s.next x (from_join s is joins) no_join nd;
  }

  -- what is not kept where a branch is not kept
  br_ok : (ctx : List Label) (m : Bool) (l p n : ℕ) (s : Site) (names : List Node) → IsSite S p s → s.mark ≡ m → s.around ≡ ctx → Branches s.head l
      → ((x : Loc) → writes_at (bounds Z.m W) s.head x ≡ false) → carry_names s.head s.names ≡ names → HasLabel (arities ctx) l → Nested ctx (p + 1)
      → carried (arities ctx) l ≤ length names → (s.mark ≡ true → AllIn M (carried (arities ctx) l) names)
      → (K (At p) ≡ true → AllIn P (carried (arities ctx) l) names) → BrOk Z W G Cuts K M P N ctx m l p names
  br_ok ctx m l p n s names is em ec br quiet en has nested enough wt shw = record {
    enough = enough;
    marks = λ on. fa.watched p s is (em ∙ on);
    watched = λ on. wt (em ∙ on);
    shows = shw;
    carries = λ on.
        let le : carried (arities s.around) l ≤ length (carry_names s.head s.names) = rw (ec, en) enough in
        subst (λ z. AllIn M (carried (arities ctx) l) z) en
        (subst (λ z. AllIn M (carried (arities z) l) (carry_names s.head s.names)) ec (fa.carries p l s is br le (ap (λ z. M (join_of z l)) ec ∙ on)));
    skips = λ off.
        let out = λ (d : Node) (i : InShadow S p d). off-or-on (K d) (λ on. not_both (K (At p)) (fa.shadows p d i on) off) in
        skip_of Cuts K ctx l (p + 1) has nested
        (unlit (p + 1) (stop_of ctx l) (λ d i. out d (later l s is br (subst (λ z. Inside S (p + 1) (stop_of z l) d) (sym ec) i))))
        (ap (λ z. K (join_of z l)) (sym ec) ∙ out (join_of s.around l) (around l l s is br (omega arith)))
        (λ lp. unlit (start_of ctx l) (stop_of ctx l) (λ d i. out d (looping l l s is br (omega arith) (ap (λ z. loop_of z l) ec ∙ lp) (subst (λ z. Inside S (start_of z l) (stop_of z l) d) (sym ec) i))))
        (λ st. absurd (true≢false (sym st)));
    goes =
        λ x nd. fa.before (At p) (point_of ctx l) x (subst (λ z. Leads S (At p) (point_of z l)) ec (from_at s is (branches l br)))
        (writes_only (bounds Z.m W) S x p s is (quiet x)) nd;
  }

  pub cut_closed_of : (code : Marked) (ctx : List Label) (k : Node) (t p : ℕ) (names : List Node) → HasAt S p (sites (callees Z.m) ctx k code p names)
      → Shaped (callees Z.m) X (arities ctx) t code (length names) → Nested ctx (p + size code) → (o : Bool) → EndRule o k t code p names
      → Sub (inner_ends (callees Z.m) code p names) → Closed Z W G Cuts K M P N ctx o k t code p names
  cut_closed_of End ctx k t p names at ty nest o rule sub =
      let r = rule names refl ty in record { long = ty; values = r.0; shows = λ on. all_shown P t names (r.1 on) ty }
  cut_closed_of (Do m op rest) ctx k t p names at ty nest o rule sub = (
    fa.do_ok p _ op at.0 refl ty.1 ty.0 ty.2,
    cut_closed_of rest ctx k t (p + 1) (made (callees Z.m) p op names) at.1
        (subst (Shaped (callees Z.m) X (arities ctx) t rest) (sym (length-made (callees Z.m) p op names ty.2)) ty.3) (nested-sub ctx _ _ (omega arith) nest) o
        rule sub,
  )
  cut_closed_of (Block m r body rest) ctx k t p names at ty nest o rule sub =
      let e = p + 1 + size body in
      let bs = sites (callees Z.m) (block_label p (arity r) e ∷ ctx) (Join p) body (p + 1) [] in
      let rs = sites (callees Z.m) ctx k rest e (named (arity r) (Join p) names) in
      let e1 = one_end (Join p) (arity r) (end_names (callees Z.m) body (p + 1) []) in
      let e2 = inner_ends (callees Z.m) body (p + 1) [] in
      let e3 = inner_ends (callees Z.m) rest e (named (arity r) (Join p) names) in (
        block_ok m (arity r) p e _ (first (p + 1) body (Join p)) at.0 refl refl (arity-few r) tt refl (λ x. refl),
        cut_closed_of body (block_label p (arity r) e ∷ ctx) (Join p) (arity r) (p + 1) [] (has_front S (p + 1) bs rs at.1) ty.0
            (omega arith, nested-sub ctx _ _ (omega arith) nest) (K (At p)) (inner_rule p (arity r) body (p + 1) (λ z a. sub z (among_left e1 (e2 ++ e3) z a)))
            (λ z a. sub z (among_right e1 (e2 ++ e3) z (among_left e2 e3 z a))),
        cut_closed_of rest ctx k t e (named (arity r) (Join p) names)
            (has_back S (p + 1) e bs rs (omega (arith, length-sites (callees Z.m) body (block_label p (arity r) e ∷ ctx) (Join p) (p + 1) [])) at.1)
            (subst (Shaped (callees Z.m) X (arities ctx) t rest) (sym (length-named_of (arity r) (Join p) names (arity-few r))) ty.1)
            (nested-sub ctx _ _ (omega arith) nest) o rule (λ z a. sub z (among_right e1 (e2 ++ e3) z (among_right e2 e3 z a))),
      )
  cut_closed_of (Loop m r body rest) ctx k t p names at ty nest o rule sub =
      let e = p + 1 + size body in
      let bs = sites (callees Z.m) (loop_label p e ∷ ctx) (Join p) body (p + 1) [] in
      let rs = sites (callees Z.m) ctx k rest e (named (arity r) (Join p) names) in
      let e1 = one_end (Join p) (arity r) (end_names (callees Z.m) body (p + 1) []) in
      let e2 = inner_ends (callees Z.m) body (p + 1) [] in
      let e3 = inner_ends (callees Z.m) rest e (named (arity r) (Join p) names) in (
        block_ok m (arity r) p e _ (first (p + 1) body (Join p)) at.0 refl refl (arity-few r) tt refl (λ x. refl),
        cut_closed_of body (loop_label p e ∷ ctx) (Join p) (arity r) (p + 1) [] (has_front S (p + 1) bs rs at.1) ty.0
            (omega arith, nested-sub ctx _ _ (omega arith) nest) (K (At p)) (inner_rule p (arity r) body (p + 1) (λ z a. sub z (among_left e1 (e2 ++ e3) z a)))
            (λ z a. sub z (among_right e1 (e2 ++ e3) z (among_left e2 e3 z a))),
        cut_closed_of rest ctx k t e (named (arity r) (Join p) names)
            (has_back S (p + 1) e bs rs (omega (arith, length-sites (callees Z.m) body (loop_label p e ∷ ctx) (Join p) (p + 1) [])) at.1)
            (subst (Shaped (callees Z.m) X (arities ctx) t rest) (sym (length-named_of (arity r) (Join p) names (arity-few r))) ty.1)
            (nested-sub ctx _ _ (omega arith) nest) o rule (λ z a. sub z (among_right e1 (e2 ++ e3) z (among_right e2 e3 z a))),
      )
  cut_closed_of (If m r x y rest) ctx k t p names at ty nest o rule sub =
      let f = p + 1 + size x in
      let e = p + 1 + size x + size y in
      let L = block_label p (arity r) e in
      let xs = sites (callees Z.m) (L ∷ ctx) (Join p) x (p + 1) [] in
      let ys = sites (callees Z.m) (L ∷ ctx) (Join p) y f [] in
      let rs = sites (callees Z.m) ctx k rest e (named (arity r) (Join p) (drop 1 names)) in
      let e1 = one_end (Join p) (arity r) (end_names (callees Z.m) x (p + 1) []) in
      let e2 = one_end (Join p) (arity r) (end_names (callees Z.m) y f []) in
      let e3 = inner_ends (callees Z.m) x (p + 1) [] in
      let e4 = inner_ends (callees Z.m) y f [] in
      let e5 = inner_ends (callees Z.m) rest e (named (arity r) (Join p) (drop 1 names)) in
      let back_x = has_back S (p + 1) f xs (ys ++ rs) (omega (arith, length-sites (callees Z.m) x (L ∷ ctx) (Join p) (p + 1) [])) at.1 in
      let long : arity r + (length names - 1) ≡ length (named (arity r) (Join p) (drop 1 names)) =
      omega (arith, length-named_of (arity r) (Join p) (drop 1 names) (arity-few r), length-drop 1 names) in (
        record { enough = ty.0; operand = λ on. fa.test_if p r _ at.0 refl on ty.0 },
        if_ok m r p e _ (first (p + 1) x (Join p)) at.0 refl refl refl refl (λ x. refl),
        (λ z nd. fa.before (At p) (first f y (Join p)) z (from_at _ at.0 (into 1 refl)) (writes_only (bounds Z.m W) S z p _ at.0 refl) nd),
        cut_closed_of x (L ∷ ctx) (Join p) (arity r) (p + 1) [] (has_front S (p + 1) xs (ys ++ rs) at.1) ty.1
            (omega arith, nested-sub ctx _ _ (omega arith) nest) (K (At p)) (inner_rule p (arity r) x (p + 1) (λ z a. sub z (among_left e1 _ z a)))
            (λ z a. sub z (among_right e1 _ z (among_right e2 _ z (among_left e3 _ z a)))),
        cut_closed_of y (L ∷ ctx) (Join p) (arity r) f [] (has_front S f ys rs back_x) ty.2 (omega arith, nested-sub ctx _ _ (omega arith) nest) (K (At p))
            (inner_rule p (arity r) y f (λ z a. sub z (among_right e1 _ z (among_left e2 _ z a))))
            (λ z a. sub z (among_right e1 _ z (among_right e2 _ z (among_right e3 _ z (among_left e4 _ z a))))),
        cut_closed_of rest ctx k t e (named (arity r) (Join p) (drop 1 names))
            (has_back S f e ys rs (omega (arith, length-sites (callees Z.m) y (L ∷ ctx) (Join p) f [])) back_x)
            (subst (Shaped (callees Z.m) X (arities ctx) t rest) long ty.3) (nested-sub ctx _ _ (omega arith) nest) o rule
            (λ z a. sub z (among_right e1 _ z (among_right e2 _ z (among_right e3 _ z (among_right e4 e5 z a))))),
      )
  cut_closed_of (Br m l rest) ctx k t p names at ty nest o rule sub =
      br_ok ctx m l p 0 _ names at.0 refl refl refl (λ x. refl) refl ty.0 (nested-sub ctx _ _ (omega arith) nest) ty.1 (λ on. fa.watched_in p _ at.0 on ty.1)
      (λ on. sh.taken p _ at.0 on ty.1)
  cut_closed_of (BrIf m l rest) ctx k t p names at ty nest o rule sub =
      let c1 = carried (arities ctx) l in
      let en : 1 ≤ length names = let a = ty.1 in omega arith in (
        record { enough = en; operand = λ on. fa.test_br p l _ at.0 refl on en },
        br_ok ctx m l p 0 _ (drop 1 names) at.0 refl refl refl (λ x. refl) refl ty.0 (nested-sub ctx _ _ (omega arith) nest)
            (let a = ty.1 in omega (arith, length-drop 1 names)) (λ on. all_drop M c1 names (fa.watched_in p _ at.0 on (let a = ty.1 in omega arith)))
            (λ on. all_drop P c1 names (sh.taken p _ at.0 on (let a = ty.1 in omega arith))),
        (λ z nd. fa.before (At p) (first (p + 1) rest k) z (from_at _ at.0 (past l refl)) (writes_only (bounds Z.m W) S z p _ at.0 refl) nd),
        cut_closed_of rest ctx k t (p + 1) (drop 1 names) at.1 (subst (Shaped (callees Z.m) X (arities ctx) t rest) (sym (length-drop 1 names)) ty.2)
            (nested-sub ctx _ _ (omega arith) nest) o rule sub,
      )
  cut_closed_of (BrTable m labels other rest) ctx k t p names at ty nest o rule sub = (
    record { enough = ty.0; operand = λ on. fa.test_table p other labels _ at.0 refl on ty.0 },
    (λ l one. let a = ty.1 l one in (br_ok ctx m l p 0 _ (drop 1 names) at.0 refl refl one (λ x. refl) refl a.0 (nested-sub ctx _ _ (omega arith) nest) (let e = a.1 in omega (arith, length-drop 1 names)) (λ on. subst (λ z. AllIn M z (drop 1 names)) (sym a.2) (all_drop M (carried (arities ctx) other) names (fa.watched_in p _ at.0 on (let e = a.1 in let g = a.2 in omega arith)))) (λ on. subst (λ z. AllIn P z (drop 1 names)) (sym a.2) (all_drop P (carried (arities ctx) other) names (sh.taken p _ at.0 on (let e = a.1 in let g = a.2 in omega arith)))), a.2)),
  )
  cut_closed_of (Return m rest) ctx k t p names at ty nest o rule sub =
      br_ok ctx m (outermost (arities ctx)) p 0 _ names at.0 refl refl refl (λ x. refl) refl ty.0 (nested-sub ctx _ _ (omega arith) nest) ty.1
      (λ on. fa.watched_in p _ at.0 on ty.1) (λ on. sh.taken p _ at.0 on ty.1)
  cut_closed_of (Unreachable m rest) ctx k t p names at ty nest o rule sub = ((λ on. fa.watched p _ at.0 on), (λ st. absurd (true≢false (sym st))))
