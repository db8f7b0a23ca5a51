-- What is made in a body: names stand for instructions with a value, and for blocks.
use Rattle.wasm_types.specs.declared.module.ValType.{ValType}
use Rattle.std.proofs.Common.{◌≡◌, ℕ, zero, suc, ◌+◌, inl, inr, List, [], ◌∷◌, ◌++◌, true, Option, Some, None, take, drop, replicate, slice_get, refl, sym, ap, ◌∙◌, subst, arith, true≢false}
use Rattle.flow_laws.proofs.Bridge.{HasAt, has_all, has_back, has_front, length-sites, same_site}
use Rattle.flow_laws.proofs.Module.{Apt, AtNode, decides_it, makes_it}
use Rattle.flow_laws.proofs.Order.{get_reverse}
use Rattle.wasm_types.specs.Labels.{Label, block_label, body_label, loop_label, arity}
use Rattle.wasm_types.specs.Nodes.{At, Join, made, named}
use Rattle.wasm_types.specs.declared.place.Node.TheVariants.{Exit}
use Rattle.wasm_types.specs.declared.place.Node.{Node}
use Rattle.flow_domain.specs.Rows.{CallRows, Decider, Item, Led, Makes, Output, Place, argument, carrying, condition, deciding, deciding_again, done_branch, done_trap, done_unreachable, ending, final, func_ends, func_sites, operand, place, reading, result, writer}
use Rattle.wasm_types.specs.Funcs.{text, Func}
use Rattle.wasm_types.specs.Sites.{body_ends, body_sites, HasJoin, Among, BlockHead, BrHead, BrIfHead, BrTableHead, DoHead, EndAt, Head, IfHead, IsSite, LoopHead, ReturnHead, Site, Sites, UnreachableHead, carry_names, end_names, inner_ends, one_end, sites}
use Rattle.wasm_types.specs.Shadow.{looping, around, later, arms, InShadow, if_join}
use Rattle.wasm_types.specs.Reaching.{Writes, writes_it}
use Rattle.flow_domain.specs.Bounds.{written_by, writes_at, Bounds}
use Rattle.wasm_types.specs.Actions.{Callees, callees, leaves, takes}
use Rattle.wasm_types.specs.declared.instr.Instr.{Instr}
use Rattle.wasm_types.specs.declared.place.Loc.{Loc}
use Rattle.wasm_types.specs.declared.place.Node.TheVariants as node
use Rattle.wasm_types.specs.Marked.{Block, Br, BrIf, BrTable, Do, End, If, Loop, Marked, Return, Unreachable, size}

abbrev pub IsDo : Head → Type 0
IsDo (DoHead op) = Unit {0}
IsDo (BlockHead kind) = ⊥
IsDo (LoopHead kind) = ⊥
IsDo (IfHead kind) = ⊥
IsDo (BrHead l) = ⊥
IsDo (BrIfHead l) = ⊥
IsDo (BrTableHead labels other) = ⊥
IsDo (ReturnHead l) = ⊥
IsDo UnreachableHead = Unit {0}

abbrev pub MadeOk : Sites → Node → Type 0
MadeOk S (node.At p) = (s : Site) × IsSite S p.0 s × IsDo s.head
MadeOk S (node.Join b) = (s : Site) × IsSite S b.0 s × HasJoin s.head
MadeOk S Exit = Unit {0}

abbrev pub AllMade : Sites → List Node → Type 0
AllMade S [] = Unit {0}
AllMade S (d ∷ names) = MadeOk S d × AllMade S names

abbrev pub JoinsOk : Sites → List Label → Type 0
JoinsOk S [] = Unit {0}
JoinsOk S (L ∷ ctx) = MadeOk S L.join × JoinsOk S ctx

abbrev pub FineAt : Sites → Sites → Type 0
FineAt S [] = Unit {0}
FineAt S (None ∷ xs) = FineAt S xs
FineAt S (Some s ∷ xs) = AllMade S s.names × JoinsOk S s.around × FineAt S xs

abbrev pub EndsFine : Sites → List EndAt → Type 0
EndsFine S [] = Unit {0}
EndsFine S (e ∷ es) = AllMade S e.names × MadeOk S e.owner × EndsFine S es

pub none_node : {A : Type 0} (n : Node) → None ≡ Some n → A
none_node n e = absurd (grind arith)

get_node : Option Node → Node → Node
get_node None d = d
get_node (Some n) d = n

pub some_node : (a n : Node) → Some a ≡ Some n → a ≡ n
unfolding get_node
some_node a n e = ap (λ o. get_node o a) e

pub made_get : (S : Sites) (n k : ℕ) (names : List Node) (d : Node) → AllMade S names → slice_get (take n names) k ≡ Some d → MadeOk S d
made_get S zero k names d a e = none_node d e
made_get S (suc n) k [] d a e = none_node d e
made_get S (suc n) zero (x ∷ names) d a e = subst (MadeOk S) (some_node x d e) a.0
made_get S (suc n) (suc k) (x ∷ names) d a e = made_get S n k names d a.1 e

made_drop : (S : Sites) (n : ℕ) (names : List Node) → AllMade S names → AllMade S (drop n names)
made_drop S zero names a = a
made_drop S (suc n) [] a = tt
made_drop S (suc n) (d ∷ names) a = made_drop S n names a.1

made_named : (S : Sites) (k : ℕ) (d : Node) (names : List Node) → MadeOk S d → AllMade S names → AllMade S (named k d names)
made_named S zero d names m a = a
made_named S (suc k) d names m a = (m, a)

fine_both : (S xs ys : Sites) → FineAt S xs → FineAt S ys → FineAt S (xs ++ ys)
fine_both S [] ys a b = b
fine_both S (None ∷ xs) ys a b = fine_both S xs ys a b
fine_both S (Some s ∷ xs) ys a b = (a.0, a.1, fine_both S xs ys a.2 b)

fine_nones : (S : Sites) (n : ℕ) → FineAt S (replicate {A = Option Site} n None)
fine_nones S zero = tt
fine_nones S (suc n) = fine_nones S n

ends_both : (S : Sites) (xs ys : List EndAt) → EndsFine S xs → EndsFine S ys → EndsFine S (xs ++ ys)
ends_both S [] ys a b = b
ends_both S (e ∷ xs) ys a b = (a.0, a.1, ends_both S xs ys a.2 b)

ends_one : (S : Sites) (k : Node) (t : ℕ) (o : Option (List Node)) → MadeOk S k → ((ns : List Node) → o ≡ Some ns → AllMade S ns) → EndsFine S (one_end k t o)
ends_one S k t None m f = tt
ends_one S k t (Some ns) m f = (f ns refl, m, tt)

no_names : {A : Type 0} (ns : List Node) → None ≡ Some ns → A
no_names ns e = absurd (grind arith)

get_names : Option (List Node) → List Node → List Node
get_names None d = d
get_names (Some n) d = n

some_names : (a n : List Node) → Some a ≡ Some n → a ≡ n
unfolding get_names
some_names a n e = ap (λ o. get_names o a) e

-- a sequence's sites, its live end, and the ends inside it
record FineCode (cs : Callees) (S : Sites) (ctx : List Label) (k : Node) (code : Marked) (p : ℕ) (names : List Node) : Type 0 where
  pub all : FineAt S (sites cs ctx k code p names)
  pub last : (ns : List Node) → end_names cs code p names ≡ Some ns → AllMade S ns
  pub inner : EndsFine S (inner_ends cs code p names)

fine_of : (cs : Callees) (S : Sites) (code : Marked) (ctx : List Label) (k : Node) (p : ℕ) (names : List Node) → HasAt S p (sites cs ctx k code p names)
    → AllMade S names → JoinsOk S ctx → FineCode cs S ctx k code p names
fine_of cs S End ctx k p names at a j = record { all = tt; last = λ ns e. subst (AllMade S) (some_names names ns e) a; inner = tt }
fine_of cs S (Do m op rest) ctx k p names at a j =
    let r =
    fine_of cs S rest ctx k (p + 1) (made cs p op names) at.1
    (made_named S (leaves cs op) (At p) (drop (takes cs op) names) (_, at.0, tt) (made_drop S (takes cs op) names a)) j in
    record { all = (a, j, r.all); last = r.last; inner = r.inner }
fine_of cs S (Block m r body rest) ctx k p names at a j =
    let e = p + 1 + size body in
    let bs = sites cs (block_label p (arity r) e ∷ ctx) (Join p) body (p + 1) [] in
    let rs = sites cs ctx k rest e (named (arity r) (Join p) names) in
    let b = fine_of cs S body (block_label p (arity r) e ∷ ctx) (Join p) (p + 1) [] (has_front S (p + 1) bs rs at.1) tt ((_, at.0, tt), j) in
    let x =
    fine_of cs S rest ctx k e (named (arity r) (Join p) names)
    (has_back S (p + 1) e bs rs (omega (arith, length-sites cs body (block_label p (arity r) e ∷ ctx) (Join p) (p + 1) [])) at.1)
    (made_named S (arity r) (Join p) names (_, at.0, tt) a) j in
    record {
      all = (a, j, fine_both S bs rs b.all x.all);
      last = x.last;
      inner =
          ends_both S (one_end (Join p) (arity r) (end_names cs body (p + 1) [])) _
          (ends_one S (Join p) (arity r) (end_names cs body (p + 1) []) (_, at.0, tt) b.last) (ends_both S (inner_ends cs body (p + 1) []) _ b.inner x.inner);
    }
fine_of cs S (Loop m r body rest) ctx k p names at a j =
    let e = p + 1 + size body in
    let bs = sites cs (loop_label p e ∷ ctx) (Join p) body (p + 1) [] in
    let rs = sites cs ctx k rest e (named (arity r) (Join p) names) in
    let b = fine_of cs S body (loop_label p e ∷ ctx) (Join p) (p + 1) [] (has_front S (p + 1) bs rs at.1) tt ((_, at.0, tt), j) in
    let x =
    fine_of cs S rest ctx k e (named (arity r) (Join p) names)
    (has_back S (p + 1) e bs rs (omega (arith, length-sites cs body (loop_label p e ∷ ctx) (Join p) (p + 1) [])) at.1)
    (made_named S (arity r) (Join p) names (_, at.0, tt) a) j in
    record {
      all = (a, j, fine_both S bs rs b.all x.all);
      last = x.last;
      inner =
          ends_both S (one_end (Join p) (arity r) (end_names cs body (p + 1) [])) _
          (ends_one S (Join p) (arity r) (end_names cs body (p + 1) []) (_, at.0, tt) b.last) (ends_both S (inner_ends cs body (p + 1) []) _ b.inner x.inner);
    }
fine_of cs S (If m r x y rest) ctx k p names at a j =
    let f = p + 1 + size x in
    let e = p + 1 + size x + size y in
    let L = block_label p (arity r) e in
    let xs = sites cs (L ∷ ctx) (Join p) x (p + 1) [] in
    let ys = sites cs (L ∷ ctx) (Join p) y f [] in
    let rs = sites cs ctx k rest e (named (arity r) (Join p) (drop 1 names)) in
    let back_x = has_back S (p + 1) f xs (ys ++ rs) (omega (arith, length-sites cs x (L ∷ ctx) (Join p) (p + 1) [])) at.1 in
    let b = fine_of cs S x (L ∷ ctx) (Join p) (p + 1) [] (has_front S (p + 1) xs (ys ++ rs) at.1) tt ((_, at.0, tt), j) in
    let c = fine_of cs S y (L ∷ ctx) (Join p) f [] (has_front S f ys rs back_x) tt ((_, at.0, tt), j) in
    let d =
    fine_of cs S rest ctx k e (named (arity r) (Join p) (drop 1 names))
    (has_back S f e ys rs (omega (arith, length-sites cs y (L ∷ ctx) (Join p) f [])) back_x)
    (made_named S (arity r) (Join p) (drop 1 names) (_, at.0, tt) (made_drop S 1 names a)) j in
    record {
      all = (a, j, fine_both S xs (ys ++ rs) b.all (fine_both S ys rs c.all d.all));
      last = d.last;
      inner =
          ends_both S (one_end (Join p) (arity r) (end_names cs x (p + 1) [])) _
          (ends_one S (Join p) (arity r) (end_names cs x (p + 1) []) (_, at.0, tt) b.last)
          (ends_both S (one_end (Join p) (arity r) (end_names cs y f [])) _ (ends_one S (Join p) (arity r) (end_names cs y f []) (_, at.0, tt) c.last) (ends_both S (inner_ends cs x (p + 1) []) _ b.inner (ends_both S (inner_ends cs y f []) _ c.inner d.inner)));
    }
fine_of cs S (Br m l rest) ctx k p names at a j = record { all = (a, j, fine_nones S (size rest)); last = λ ns e. no_names ns e; inner = tt }
fine_of cs S (BrIf m l rest) ctx k p names at a j =
    let r = fine_of cs S rest ctx k (p + 1) (drop 1 names) at.1 (made_drop S 1 names a) j in
    record { all = (a, j, r.all); last = r.last; inner = r.inner }
fine_of cs S (BrTable m labels other rest) ctx k p names at a j = record { all = (a, j, fine_nones S (size rest)); last = λ ns e. no_names ns e; inner = tt }
fine_of cs S (Return m rest) ctx k p names at a j = record { all = (a, j, fine_nones S (size rest)); last = λ ns e. no_names ns e; inner = tt }
fine_of cs S (Unreachable m rest) ctx k p names at a j = record { all = (a, j, fine_nones S (size rest)); last = λ ns e. no_names ns e; inner = tt }

no_site : {A : Type 0} (s : Site) → None ≡ Some s → A
no_site s e = absurd (grind arith)

no_entry : {A : Type 0} (s : Option Site) → None ≡ Some s → A
no_entry s e = absurd (grind arith)

get_entry : Option (Option Site) → Option Site → Option Site
get_entry None d = d
get_entry (Some n) d = n

some_entry : (a n : Option Site) → Some a ≡ Some n → a ≡ n
unfolding get_entry
some_entry a n e = ap (λ o. get_entry o a) e

pub record FineSite (S : Sites) (s : Site) : Type 0 where
  pub names : AllMade S s.names
  pub joins : JoinsOk S s.around

get_site : Option Site → Site → Site
get_site None d = d
get_site (Some n) d = n

some_of : (a n : Site) → Some a ≡ Some n → a ≡ n
unfolding get_site
some_of a n e = ap (λ o. get_site o a) e

fine_get : (S xs : Sites) (p : ℕ) (s : Site) → FineAt S xs → slice_get xs p ≡ Some (Some s) → FineSite S s
fine_get S [] p s f e = no_entry (Some s) e
fine_get S (None ∷ xs) zero s f e = no_site s (some_entry None (Some s) e)
fine_get S (Some x ∷ xs) zero s f e = subst (FineSite S) (some_of x s (some_entry (Some x) (Some s) e)) (record { names = f.0; joins = f.1 })
fine_get S (None ∷ xs) (suc p) s f e = fine_get S xs p s f e
fine_get S (Some x ∷ xs) (suc p) s f e = fine_get S xs p s f.2 e

pub record FineEnd (S : Sites) (e : EndAt) : Type 0 where
  pub names : AllMade S e.names
  pub owner : MadeOk S e.owner

fine_end : (S : Sites) (es : List EndAt) (e : EndAt) → EndsFine S es → Among es e → FineEnd S e
fine_end S [] e f a = absurd a
fine_end S (x ∷ es) e f (inl q) = subst (FineEnd S) q (record { names = f.0; owner = f.1 })
fine_end S (x ∷ es) e f (inr a) = fine_end S es e f.2 a

-- only an instruction writes
pub wrote : (B : Bounds) (h : Head) (x : Loc) → writes_at B h x ≡ true → (op : Instr) × (h ≡ DoHead op)
wrote B (DoHead op) x w = (op, refl)
wrote B (BlockHead t) x w = absurd (true≢false (sym w))
wrote B (LoopHead t) x w = absurd (true≢false (sym w))
wrote B (IfHead t) x w = absurd (true≢false (sym w))
wrote B (BrHead l) x w = absurd (true≢false (sym w))
wrote B (BrIfHead l) x w = absurd (true≢false (sym w))
wrote B (BrTableHead labels other) x w = absurd (true≢false (sym w))
wrote B (ReturnHead l) x w = absurd (true≢false (sym w))
wrote B UnreachableHead x w = absurd (true≢false (sym w))

written_made : (B : Bounds) (S : Sites) (x : Loc) (n : Node) → Writes (written_by B S) x n → MadeOk S n
written_made B S x n (writes_it w) = (w.0, w.1, subst IsDo (sym (wrote B w.0.head x w.2).1) tt)

pub carry_made : (S : Sites) (h : Head) (names : List Node) → AllMade S names → AllMade S (carry_names h names)
carry_made S (DoHead op) names a = a
carry_made S (BlockHead t) names a = a
carry_made S (LoopHead t) names a = a
carry_made S (IfHead t) names a = a
carry_made S (BrHead l) names a = a
carry_made S (BrIfHead l) names a = made_drop S 1 names a
carry_made S (BrTableHead labels other) names a = made_drop S 1 names a
carry_made S (ReturnHead l) names a = a
carry_made S UnreachableHead names a = a

-- a decider stands somewhere
pub record Stands (S : Sites) (p : ℕ) : Type 0 where
  pub site : Site
  pub is : IsSite S p site

pub shadow_stands : (S : Sites) (p : ℕ) (n : Node) → InShadow S p n → Stands S p
shadow_stands S p n (arms kind s is hd i) = record { site = s; is = is }
shadow_stands S p n (if_join kind s is hd) = record { site = s; is = is }
shadow_stands S p n (later l s is br i) = record { site = s; is = is }
shadow_stands S p n (around l j s is br le) = record { site = s; is = is }
shadow_stands S p n (looping l j s is br le lp i) = record { site = s; is = is }

abbrev pub ItemOk : Sites → Item → Type 0
ItemOk S (Makes n out) = MadeOk S n
ItemOk S (Place a x) = Unit {0}
ItemOk S (Decider p) = Stands S p

-- ---- whole bodies

module _ (cs : Callees) (t : ℕ) (c : Marked) where
  abbrev pub S : Sites
  S = body_sites cs t c

  abbrev pub E : List EndAt
  E = body_ends cs t c

  body_fine : FineCode cs S (body_label t (size c) ∷ []) Exit c 0 []
  body_fine = fine_of cs S c (body_label t (size c) ∷ []) Exit 0 [] (has_all [] S 0 refl) tt (tt, tt)

  pub site_fine : (p : ℕ) (s : Site) → IsSite S p s → FineSite S s
  site_fine p s is = fine_get S S p s body_fine.all is

  pub end_fine : (e : EndAt) → Among E e → FineEnd S e
  end_fine e a =
      fine_end S E e
      (ends_both S (one_end Exit t (end_names cs c 0 [])) (inner_ends cs c 0 []) (ends_one S Exit t (end_names cs c 0 []) tt body_fine.last) body_fine.inner)
      a

module _ (B : Bounds) (R : CallRows) (F : Func) (o : Output) where
  abbrev SF : Sites
  SF = func_sites B F

  abbrev EF : List EndAt
  EF = func_ends B F

  pub led_fine : (i : Item) → Led B R SF EF o i → ItemOk SF i
  led_fine i (result e) = tt
  led_fine i (final e) = tt
  led_fine i (done_branch l s e is br lp) = record { site = s; is = is }
  led_fine i (done_trap op s e is hd m) = (s, is, subst IsDo (sym hd) tt)
  led_fine i (done_unreachable s e is hd) = (s, is, subst IsDo (sym hd) tt)
  led_fine i (writer {x = x} {d = d} a led w path) = written_made B SF x (At d) w
  led_fine i (operand {n = n} p k out s op led is hd c nd g) =
      made_get SF (takes (callees B.m) op) k s.names n (site_fine (callees B.m) F.results (text F) p s is).names g
  led_fine i (reading out s op led is hd nd) = tt
  led_fine i (argument {n = n} p k f out s op led is hd c row e) =
      let i = get_reverse (take (takes (callees B.m) op) s.names) k n e in
      made_get SF (takes (callees B.m) op) i.place s.names n (site_fine (callees B.m) F.results (text F) p s is).names i.is
  led_fine i (place f out s op led is hd c row on) = tt
  led_fine i (carrying {n = n} p l k s led is br g) =
      made_get SF _ k (carry_names s.head s.names) n (carry_made SF s.head s.names (site_fine (callees B.m) F.results (text F) p s is).names) g
  led_fine i (ending {n = n} e k led a g) = made_get SF e.count k e.names n (end_fine (callees B.m) F.results (text F) e a).names g
  led_fine i (deciding {p = p} n out led sh) = shadow_stands SF p n sh
  led_fine i (deciding_again {p = p} q led sh) = shadow_stands SF p (At q) sh
  led_fine i (condition {n = n} p k s led is g) = made_get SF _ k s.names n (site_fine (callees B.m) F.results (text F) p s is).names g

  no_do : {A : Type 0} (p : ℕ) (s : Site) (h : Head) → IsSite SF p s → s.head ≡ h → (IsDo h → ⊥) → MadeOk SF (At p) → A
  no_do p s h is hd f m = absurd (f (subst IsDo (ap (λ z. z.head) (same_site SF p m.0 s m.1 is) ∙ hd) m.2))

  pub apt_of : Apt B R SF EF o
  apt_of = record {
    stands = λ p a. at_case p a;
    stands_end = λ b a. end_case b a;
    decides_if = λ p kind s is hd a. if_case p kind s is hd a;
    decides_br = λ p l s is hd a. br_case p l s is hd a;
    decides_table = λ p other labels s is hd a. table_case p other labels s is hd a;
  }
    where
      at_case : (p : ℕ) → AtNode B R SF EF o (At p) → (s : Site) × IsSite SF p s
      at_case p (makes_it out led) = let m : MadeOk SF (At p) = led_fine (Makes (At p) out) led in (m.0, m.1)
      at_case p (decides_it led) = let m = led_fine (Decider p) led in (m.site, m.is)

      end_case : (b : ℕ) → AtNode B R SF EF o (Join b) → (s : Site) × IsSite SF b s × HasJoin s.head
      end_case b (makes_it out led) = led_fine (Makes (Join b) out) led

      if_case : (p : ℕ) (kind : Option ValType) (s : Site) → IsSite SF p s → s.head ≡ IfHead kind → AtNode B R SF EF o (At p) → Led B R SF EF o (Decider p)
      if_case p kind s is hd (makes_it out led) = no_do p s (IfHead kind) is hd (λ z. z) (led_fine (Makes (At p) out) led)
      if_case p kind s is hd (decides_it led) = led

      br_case : (p l : ℕ) (s : Site) → IsSite SF p s → s.head ≡ BrIfHead l → AtNode B R SF EF o (At p) → Led B R SF EF o (Decider p)
      br_case p l s is hd (makes_it out led) = no_do p s (BrIfHead l) is hd (λ z. z) (led_fine (Makes (At p) out) led)
      br_case p l s is hd (decides_it led) = led

      table_case : (p other : ℕ) (labels : List ℕ) (s : Site) → IsSite SF p s → s.head ≡ BrTableHead labels other → AtNode B R SF EF o (At p)
          → Led B R SF EF o (Decider p)
      table_case p other labels s is hd (makes_it out led) = no_do p s (BrTableHead labels other) is hd (λ z. z) (led_fine (Makes (At p) out) led)
      table_case p other labels s is hd (decides_it led) = led
