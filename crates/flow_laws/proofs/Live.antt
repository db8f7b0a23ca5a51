-- The live nodes of a set: they keep the rules that the set keeps, and make the same cut.
use Rattle.std.proofs.Common.{◌≡◌, ℕ, zero, suc, ◌+◌, ◌&&◌, List, [], ◌∷◌, ◌++◌, Bool, true, false, Option, Some, None, take, drop, reverse, slice_get, refl, sym, ap, ap₂, ◌∙◌, arith, true≢false}
use Rattle.wasm_types.specs.declared.module.ValType.{ValType}
use Rattle.wasm_types.specs.declared.place.Loc.{Loc}
use Rattle.wasm_types.specs.declared.place.Node.{Node}
use Rattle.wasm_types.specs.declared.place.Node.TheVariants as node
use Rattle.wasm_types.specs.declared.place.Node.TheVariants.{Exit}
use Rattle.wasm_types.specs.Marked.{Marked, End, Do, Block, Loop, If, Br, BrIf, BrTable, Return, Unreachable, size}
use Rattle.wasm_types.specs.Actions.{Callees, callees, takes, leaves}
use Rattle.wasm_types.specs.Nodes.{At, Join, named, made}
use Rattle.wasm_types.specs.Labels.{Label, block_label, loop_label, arity}
use Rattle.wasm_types.specs.Sites.{Head, DoHead, BlockHead, LoopHead, IfHead, BrHead, BrIfHead, BrTableHead, ReturnHead, UnreachableHead, HasJoin, Site, Sites, IsSite, EndAt, sites, body_sites, body_ends, carry_names}
use Rattle.flow_domain.specs.Bounds.{Bounds}
use Rattle.flow_domain.specs.Cut.{pick, shown, drops, zeros, filler, result_of, cut}
use Rattle.flow_domain.specs.Kept.{NamesIn}
use Rattle.flow_domain.specs.Presence.{IsNeeded, HoldsNeeded, maker, result, operand, left, at_exit}
use Rattle.flow_domain.specs.Rows.{CallRows}
use Rattle.flow_laws.specs.Cutting.{NeedK, used, used_done, used_result, used_final, later, IsKept}
use Rattle.flow_laws.proofs.Bridge.{HasAt, has_front, has_back, length-sites, Standing}
use Rattle.flow_laws.proofs.Fine.{none_node, some_node, MadeOk, AllMade, carry_made, shadow_stands, site_fine, end_fine}
use Rattle.flow_laws.proofs.Order.{get_reverse}

abbrev pub is_site : Option (Option Site) → Bool
is_site (Some (Some s)) = true
is_site _ = false

abbrev pub has_join : Head → Bool
has_join (BlockHead kind) = true
has_join (LoopHead kind) = true
has_join (IfHead kind) = true
has_join _ = false

abbrev pub is_end : Option (Option Site) → Bool
is_end (Some (Some s)) = has_join s.head
is_end _ = false

-- a live position, the end of a live block, loop or if, and the end of the body
abbrev pub live : Sites → Node → Bool
live S (node.At p) = is_site (slice_get S p.0)
live S (node.Join b) = is_end (slice_get S b.0)
live S Exit = true

abbrev pub among_live : Sites → (Node → Bool) → Node → Bool
among_live S K n = K n && live S n

both_on : (a b : Bool) → (a && b) ≡ true → (a ≡ true) × (b ≡ true)
both_on true true e = (refl, refl)
both_on true false e = absurd (true≢false (sym e))
both_on false b e = absurd (true≢false (sym e))

and_on : (a b : Bool) → a ≡ true → b ≡ true → (a && b) ≡ true
and_on a b e f = rw (e, f)

and_true : (a : Bool) → (a && true) ≡ a
and_true true = refl
and_true false = refl

site_of : (o : Option (Option Site)) → is_site o ≡ true → (s : Site) × (o ≡ Some (Some s))
site_of (Some (Some s)) e = (s, refl)
site_of (Some None) e = absurd (true≢false (sym e))
site_of None e = absurd (true≢false (sym e))

joins : (h : Head) → has_join h ≡ true → HasJoin h
joins (DoHead op) e = absurd (true≢false (sym e))
joins (BlockHead kind) e = tt
joins (LoopHead kind) e = tt
joins (IfHead kind) e = tt
joins (BrHead l) e = absurd (true≢false (sym e))
joins (BrIfHead l) e = absurd (true≢false (sym e))
joins (BrTableHead labels other) e = absurd (true≢false (sym e))
joins (ReturnHead l) e = absurd (true≢false (sym e))
joins UnreachableHead e = absurd (true≢false (sym e))

joining : (h : Head) → HasJoin h → has_join h ≡ true
joining (DoHead op) e = absurd e
joining (BlockHead kind) e = refl
joining (LoopHead kind) e = refl
joining (IfHead kind) e = refl
joining (BrHead l) e = absurd e
joining (BrIfHead l) e = absurd e
joining (BrTableHead labels other) e = absurd e
joining (ReturnHead l) e = absurd e
joining UnreachableHead e = absurd e

end_of : (o : Option (Option Site)) → is_end o ≡ true → (s : Site) × (o ≡ Some (Some s)) × HasJoin s.head
end_of (Some (Some s)) e = (s, refl, joins s.head e)
end_of (Some None) e = absurd (true≢false (sym e))
end_of None e = absurd (true≢false (sym e))

live_at : (S : Sites) (p : ℕ) (s : Site) → IsSite S p s → live S (At p) ≡ true
live_at S p s is = ap is_site is

live_made : (S : Sites) (n : Node) → MadeOk S n → live S n ≡ true
live_made S (node.At p) m = ap is_site m.1
live_made S (node.Join b) m = ap is_end m.1 ∙ joining m.0.head m.2
live_made S Exit m = refl

pub live_stands : (S : Sites) (K : Node → Bool) → Standing S (among_live S K)
live_stands S K = record {
  at_live = λ p on. site_of (slice_get S p) (both_on (K (At p)) (live S (At p)) on).1;
  at_end = λ b on. end_of (slice_get S b) (both_on (K (Join b)) (live S (Join b)) on).1;
}

live_name : (S : Sites) (names : List Node) (k : ℕ) (d : Node) → AllMade S names → slice_get names k ≡ Some d → live S d ≡ true
live_name S [] k d a e = none_node d e
live_name S (n ∷ names) zero d a e = ap (live S) (sym (some_node n d e)) ∙ live_made S n a.0
live_name S (n ∷ names) (suc k) d a e = live_name S names k d a.1 e

all_live : (S : Sites) (M : Node → Bool) (n : ℕ) (names : List Node) → AllMade S names → NamesIn M n names → NamesIn (among_live S M) n names
all_live S M n names a f k d lt e = and_on (M d) (live S d) (f k d lt e) (live_name S names k d a e)

taken_in : (n k : ℕ) (names : List Node) (d : Node) → slice_get (take n names) k ≡ Some d → slice_get names k ≡ Some d
taken_in zero k names d e = none_node d e
taken_in (suc n) k [] d e = none_node d e
taken_in (suc n) zero (x ∷ names) d e = e
taken_in (suc n) (suc k) (x ∷ names) d e = taken_in n k names d e

-- what is needed for the live nodes is needed for the set
need_more : (B : Bounds) (R : CallRows) (S : Sites) (K M : Node → Bool) (a : Node) (x : Loc) → NeedK B R S (among_live S K) (among_live S M) a x
    → NeedK B R S K M a x
need_more B R S K M a x (used {p = p} s op is hd n on u) = used s op is hd n (both_on (K (At p)) (live S (At p)) on).0 u
need_more B R S K M a x (used_done {p = p} g s op is hd n on row out) = used_done g s op is hd n (both_on (K (At p)) (live S (At p)) on).0 row out
need_more B R S K M a x (used_result {p = p} g s op is hd n on row out) = used_result g s op is hd n (both_on (M (At p)) (live S (At p)) on).0 row out
need_more B R S K M a x (used_final g y s op is hd n w nd row out) = used_final g y s op is hd n w (need_more B R S K M s.next y nd) row out
need_more B R S K M a x (later b l off nd) = later b l off (need_more B R S K M b x nd)

module _ (B : Bounds) (R : CallRows) (t : ℕ) (c : Marked) (K M : Node → Bool) where
  abbrev S : Sites
  S = body_sites (callees B.m) t c

  abbrev E : List EndAt
  E = body_ends (callees B.m) t c

  abbrev K1 : Node → Bool
  K1 = among_live S K

  abbrev M1 : Node → Bool
  M1 = among_live S M

  k_on : (n : Node) → K1 n ≡ true → K n ≡ true
  k_on n on = (both_on (K n) (live S n) on).0

  m_on : (n : Node) → M1 n ≡ true → M n ≡ true
  m_on n on = (both_on (M n) (live S n) on).0

  k_at : (p : ℕ) (s : Site) → IsSite S p s → K (At p) ≡ true → K1 (At p) ≡ true
  k_at p s is on = and_on (K (At p)) (live S (At p)) on (live_at S p s is)

  m_at : (p : ℕ) (s : Site) → IsSite S p s → M (At p) ≡ true → M1 (At p) ≡ true
  m_at p s is on = and_on (M (At p)) (live S (At p)) on (live_at S p s is)

  names_live : (p n : ℕ) (s : Site) → IsSite S p s → NamesIn M n s.names → NamesIn M1 n s.names
  names_live p n s is a = all_live S M n s.names (site_fine (callees B.m) t c p s is).names a

  arg_live : (p k : ℕ) (d : Node) (s : Site) (n : ℕ) → IsSite S p s → slice_get (reverse (take n s.names)) k ≡ Some d → M d ≡ true → M1 d ≡ true
  arg_live p k d s n is e on =
      let i = get_reverse (take n s.names) k d e in
      and_on (M d) (live S d) on (live_name S s.names i.place d (site_fine (callees B.m) t c p s is).names (taken_in n i.place s.names d i.is))

  need : (a : Node) (x : Loc) → NeedK B R S K1 M1 a x → NeedK B R S K M a x
  need a x nd = need_more B R S K M a x nd

  pub live_kept : IsKept B R S E K M → IsKept B R S E K1 M1
  live_kept ke = record {
    makers = λ d on. and_on (K d) (live S d) (ke.makers d (m_on d on)) (both_on (M d) (live S d) on).1;
    watched = λ p s is mark. let w = ke.watched p s is mark in (m_at p s is w.0, names_live p _ s is w.1);
    operands = λ p s op is hd n on. let w = ke.operands p s op is hd n (k_on (At p) on) in (m_at p s is w.0, names_live p _ s is w.1);
    tests = λ p s is on test. names_live p 1 s is (ke.tests p s is (k_on (At p) on) test);
    args_done = λ p k g d s op is hd n on row e. arg_live p k d s _ is e (ke.args_done p k g d s op is hd n (k_on (At p) on) row e);
    args_result = λ p k g d s op is hd n on row e. arg_live p k d s _ is e (ke.args_result p k g d s op is hd n (m_on (At p) on) row e);
    args_final = λ p k g y d s op is hd n w nd row e. arg_live p k d s _ is e (ke.args_final p k g y d s op is hd n w (need s.next y nd) row e);
    reaches = λ p x s is w nd. k_at p s is (ke.reaches p x s is w (need s.next x nd));
    shadows = λ p n sh on. let st = shadow_stands S p n sh in k_at p st.site st.is (ke.shadows p n sh (k_on n on));
    carries =
        λ p l s is br on. all_live S M _ (carry_names s.head s.names) (carry_made S s.head s.names (site_fine (callees B.m) t c p s is).names)
        (ke.carries p l s is br (m_on _ on));
    live_ends = λ e a on. all_live S M e.count e.names (end_fine (callees B.m) t c e a).names (ke.live_ends e a (m_on e.owner on));
    around_at = λ b q s is l g on. k_at b s is (ke.around_at b q s is l g (k_on (At q) on));
    around_join = λ b q s is l g on. k_at b s is (ke.around_join b q s is l g (k_on (Join q) on));
    own_join = λ b on. let x = end_of (slice_get S b) (both_on (K (Join b)) (live S (Join b)) on).1 in k_at b x.0 x.1 (ke.own_join b (k_on (Join b) on));
  }

  needed_more : (n : Node) → IsNeeded (callees B.m) S E K1 n → IsNeeded (callees B.m) S E K n
  needed_more n (maker on) = maker (k_on n on)
  needed_more n (result on) = result (k_on _ on)
  needed_more n (operand p s is on a) = operand p s is (k_on (At p) on) a
  needed_more n (left b e a o on i) = left b e a o (k_on (At b) on) i
  needed_more n (at_exit e a o i) = at_exit e a o i

  pub live_needed : (P : Node → Bool) → HoldsNeeded (callees B.m) S E K P → HoldsNeeded (callees B.m) S E K1 P
  live_needed P holds n nd = holds n (needed_more n nd)

-- two sets with the same live positions make the same cut
module _ (cs : Callees) (S : Sites) (K K1 P : Node → Bool) (T : Node → ValType) (agree : (p : ℕ) (s : Site) → IsSite S p s → K1 (At p) ≡ K (At p)) where
  pub cut_same : (code : Marked) (ctx : List Label) (k : Node) (t : Option ValType) (p : ℕ) (names : List Node) → HasAt S p (sites cs ctx k code p names)
      → cut cs K1 P T t code p names ≡ cut cs K P T t code p names
  cut_same End ctx k t p names at = refl
  cut_same (Do m op rest) ctx k t p names at =
      ap₂ {A = Bool} {B = Marked}
      (λ q x. pick q (Do m op x) (drops (shown P (take (takes cs op) names)) (filler P (result_of (leaves cs op) (T (At p))) (At p) x))) (agree p _ at.0)
      (cut_same rest ctx k t (p + 1) (made cs p op names) at.1)
  cut_same (Block m r body rest) ctx k t p names at =
      let e = p + 1 + size body in
      let bs = sites cs (block_label p (arity r) e ∷ ctx) (Join p) body (p + 1) [] in
      let rs = sites cs ctx k rest e (named (arity r) (Join p) names) in
      ap
      (λ q. pick q (Block m r (cut cs K1 P T r body (p + 1) []) (cut cs K1 P T t rest e (named (arity r) (Join p) names)))
      (filler P r (Join p) (cut cs K1 P T t rest e (named (arity r) (Join p) names)))) (agree p _ at.0)
      ∙ ap₂ {A = Marked} {B = Marked} (λ x y. pick (K (At p)) (Block m r x y) (filler P r (Join p) y))
      (cut_same body (block_label p (arity r) e ∷ ctx) (Join p) r (p + 1) [] (has_front S (p + 1) bs rs at.1))
      (cut_same rest ctx k t e (named (arity r) (Join p) names)
      (has_back S (p + 1) e bs rs (omega (arith, length-sites cs body (block_label p (arity r) e ∷ ctx) (Join p) (p + 1) [])) at.1))
  cut_same (Loop m r body rest) ctx k t p names at =
      let e = p + 1 + size body in
      let bs = sites cs (loop_label p e ∷ ctx) (Join p) body (p + 1) [] in
      let rs = sites cs ctx k rest e (named (arity r) (Join p) names) in
      ap
      (λ q. pick q (Loop m r (cut cs K1 P T r body (p + 1) []) (cut cs K1 P T t rest e (named (arity r) (Join p) names)))
      (filler P r (Join p) (cut cs K1 P T t rest e (named (arity r) (Join p) names)))) (agree p _ at.0)
      ∙ ap₂ {A = Marked} {B = Marked} (λ x y. pick (K (At p)) (Loop m r x y) (filler P r (Join p) y))
      (cut_same body (loop_label p e ∷ ctx) (Join p) r (p + 1) [] (has_front S (p + 1) bs rs at.1))
      (cut_same rest ctx k t e (named (arity r) (Join p) names)
      (has_back S (p + 1) e bs rs (omega (arith, length-sites cs body (loop_label p e ∷ ctx) (Join p) (p + 1) [])) at.1))
  cut_same (If m r x y rest) ctx k t p names at =
      let f = p + 1 + size x in
      let e = p + 1 + size x + size y in
      let L = block_label p (arity r) e in
      let xs = sites cs (L ∷ ctx) (Join p) x (p + 1) [] in
      let ys = sites cs (L ∷ ctx) (Join p) y f [] in
      let rs = sites cs ctx k rest e (named (arity r) (Join p) (drop 1 names)) in
      let back_x = has_back S (p + 1) f xs (ys ++ rs) (omega (arith, length-sites cs x (L ∷ ctx) (Join p) (p + 1) [])) at.1 in
      let a = cut cs K1 P T r x (p + 1) [] in
      let b = cut cs K1 P T r y f [] in
      let c = cut cs K1 P T t rest e (named (arity r) (Join p) (drop 1 names)) in
      ap (λ q. pick q (If m r a b c) (drops (shown P (take 1 names)) (filler P r (Join p) c))) (agree p _ at.0)
      ∙ ap (λ z. pick (K (At p)) (If m r z b c) (drops (shown P (take 1 names)) (filler P r (Join p) c)))
      (cut_same x (L ∷ ctx) (Join p) r (p + 1) [] (has_front S (p + 1) xs (ys ++ rs) at.1))
      ∙ ap₂ {A = Marked} {B = Marked}
      (λ u v. pick (K (At p)) (If m r (cut cs K P T r x (p + 1) []) u v) (drops (shown P (take 1 names)) (filler P r (Join p) v)))
      (cut_same y (L ∷ ctx) (Join p) r f [] (has_front S f ys rs back_x))
      (cut_same rest ctx k t e (named (arity r) (Join p) (drop 1 names))
      (has_back S f e ys rs (omega (arith, length-sites cs y (L ∷ ctx) (Join p) f [])) back_x))
  cut_same (Br m l rest) ctx k t p names at = ap (λ q. pick q (Br m l End) (drops (shown P names) (zeros t End))) (agree p _ at.0)
  cut_same (BrIf m l rest) ctx k t p names at =
      ap₂ {A = Bool} {B = Marked} (λ q x. pick q (BrIf m l x) (drops (shown P (take 1 names)) x)) (agree p _ at.0)
      (cut_same rest ctx k t (p + 1) (drop 1 names) at.1)
  cut_same (BrTable m labels other rest) ctx k t p names at =
      ap (λ q. pick q (BrTable m labels other End) (drops (shown P names) (zeros t End))) (agree p _ at.0)
  cut_same (Return m rest) ctx k t p names at = ap (λ q. pick q (Return m End) (drops (shown P names) (zeros t End))) (agree p _ at.0)
  cut_same (Unreachable m rest) ctx k t p names at = ap (λ q. pick q (Unreachable m End) (drops (shown P names) (zeros t End))) (agree p _ at.0)

pub live_agrees : (S : Sites) (K : Node → Bool) (p : ℕ) (s : Site) → IsSite S p s → among_live S K (At p) ≡ K (At p)
live_agrees S K p s is = ap (λ z. K (At p) && z) (live_at S p s is) ∙ and_true (K (At p))
