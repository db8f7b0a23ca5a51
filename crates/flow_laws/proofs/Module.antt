-- Two runs of a module: rows that hold what they lead to are sound.
use Rattle.wasm_types.specs.declared.module.ValType.{ValType}
use Rattle.std.proofs.Common.{Option, ◌≡◌, ℕ, zero, suc, ◌≤◌, List, [], ◌∷◌, reverse, Bool, true, false, Some, None, take, length, slice_get, refl, sym, ap, ap₂, ◌∙◌, subst, arith, true≢false}
use Rattle.wasm_types.specs.declared.module.Value.{Value}
use Rattle.wasm_types.specs.declared.instr.Instr.{Instr}
use Rattle.flow_laws.proofs.Bridge.{off-or-on, every_in, Facts, writes_only}
use Rattle.flow_laws.proofs.Callees.{FixedOk, call_does, call_done, call_outer, call_two}
use Rattle.flow_laws.proofs.Closed.{Agrees, Completes, Cuts, DoOk, Matches, Mode, cuts, follows, strict}
use Rattle.flow_laws.proofs.Order.{match_reverse}
use Rattle.flow_laws.proofs.Tasks.{call_or, plain_comes, plain_does, plain_same, plain_total}
use Rattle.wasm_types.specs.Nodes.{Join, AllIn, At, every}
use Rattle.wasm_types.specs.declared.place.Node.{Node}
use Rattle.flow_domain.specs.Rows.{CallRows, Decider, Done, Final, Led, Makes, Needed, Output, Place, Ret, RowOf, Rows, argument, carrying, condition, deciding, deciding_again, done_branch, done_trap, done_unreachable, ending, operand, place, reading, writer}
use Rattle.flow_laws.specs.Calls.{DoesLaw, DoneLaw, OpOk, SameOn, TwoLaw}
use Rattle.wasm_types.specs.Reaching.{Enters, stands, steps, Path, along, edge, writes_it}
use Rattle.wasm_types.specs.Shadow.{InShadow}
use Rattle.wasm_types.specs.Sites.{HasJoin, BrIfHead, BrTableHead, DoHead, EndAt, IfHead, IsSite, Leads, Site, Sites, carry_names, from_at, operand_count, to_next}
use Rattle.flow_domain.specs.Bounds.{written_by, writes_at, Bounds, Cover, bounds, called, may_trap, writes}
use Rattle.wasm_meaning.proofs.ActionLaws.{gives_is}
use Rattle.wasm_types.specs.Actions.{Callee, callees, leaves, takes}
use Rattle.wasm_meaning.specs.Effects.{Calls, Effect, Fixed, Gives, effect}
use Rattle.flow_laws.proofs.Effects.{Comes, Does, SameEnd}
use Rattle.wasm_meaning.specs.Equality.{EqAt}
use Rattle.wasm_types.specs.declared.place.Loc.TheVariants.{Global, Host, Local, Mem, Size}
use Rattle.wasm_types.specs.declared.place.Loc.{Loc}
use Rattle.wasm_meaning.specs.State.{Store, arg}

-- an item at a node
pub data AtNode (B : Bounds) (R : CallRows) (S : Sites) (ends : List EndAt) (o : Output) : Node → Type 0 where
  makes_it : {n : Node} (out : Output) → Led B R S ends o (Makes n out) → AtNode B R S ends o n
  decides_it : {p : ℕ} → Led B R S ends o (Decider p) → AtNode B R S ends o (At p)

-- tests of what is led to
pub record Sets (B : Bounds) (R : CallRows) (S : Sites) (ends : List EndAt) (o : Output) (K M : Node → Bool) : Type 0 where
  pub k_has : (n : Node) → K n ≡ true → AtNode B R S ends o n
  pub k_is : (n : Node) → AtNode B R S ends o n → K n ≡ true
  pub m_has : (n : Node) → M n ≡ true → Led B R S ends o (Makes n Ret)
  pub m_is : (n : Node) → Led B R S ends o (Makes n Ret) → M n ≡ true

-- the made nodes are instructions with a value, and the deciders are branches and ifs
pub record Apt (B : Bounds) (R : CallRows) (S : Sites) (ends : List EndAt) (o : Output) : Type 0 where
  pub stands : (p : ℕ) → AtNode B R S ends o (At p) → (s : Site) × IsSite S p s
  pub stands_end : (b : ℕ) → AtNode B R S ends o (Join b) → (s : Site) × IsSite S b s × HasJoin s.head
  pub decides_if : (p : ℕ) (kind : Option ValType) (s : Site) → IsSite S p s → s.head ≡ IfHead kind → AtNode B R S ends o (At p) → Led B R S ends o (Decider p)
  pub decides_br : (p l : ℕ) (s : Site) → IsSite S p s → s.head ≡ BrIfHead l → AtNode B R S ends o (At p) → Led B R S ends o (Decider p)
  pub decides_table : (p other : ℕ) (labels : List ℕ) (s : Site) → IsSite S p s → s.head ≡ BrTableHead labels other → AtNode B R S ends o (At p)
      → Led B R S ends o (Decider p)

all_of : (M : Node → Bool) (n : ℕ) (names : List Node) → n ≤ length names → ((k : ℕ) (d : Node) → slice_get (take n names) k ≡ Some d → M d ≡ true)
    → AllIn M n names
all_of M zero names le f = tt
all_of M (suc n) [] le f = absurd (omega arith)
all_of M (suc n) (d ∷ names) le f = (f 0 d refl, all_of M n names (omega arith) (λ k e q. f (suc k) e q))

pub all_match : (M : Node → Bool) (names : List Node) (vs vs' : List Value) → ((k : ℕ) (d : Node) → slice_get names k ≡ Some d → M d ≡ true)
    → Matches M names vs vs' → vs' ≡ vs
all_match M [] [] [] f m = refl
all_match M [] [] (v' ∷ vs') f m = absurd m
all_match M [] (v ∷ vs) vs' f m = absurd m
all_match M (d ∷ names) [] vs' f m = absurd m
all_match M (d ∷ names) (v ∷ vs) [] f m = absurd m
all_match M (d ∷ names) (v ∷ vs) (v' ∷ vs') f m =
    ap₂ {A = Value} {B = List Value} (λ x y. x ∷ y) (m.0 (f 0 d refl)) (all_match M names vs vs' (λ k e q. f (suc k) e q) m.1)

pub arg_same : (M : Node → Bool) (names : List Node) (vs vs' : List Value) (k : ℕ) → Matches M names vs vs'
    → ((d : Node) → slice_get names k ≡ Some d → M d ≡ true) → arg vs' k ≡ arg vs k
arg_same M [] [] [] k m f = refl
arg_same M [] [] (v' ∷ vs') k m f = absurd m
arg_same M [] (v ∷ vs) vs' k m f = absurd m
arg_same M (d ∷ names) [] vs' k m f = absurd m
arg_same M (d ∷ names) (v ∷ vs) [] k m f = absurd m
arg_same M (d ∷ names) (v ∷ vs) (v' ∷ vs') zero m f = m.0 (f d refl)
arg_same M (d ∷ names) (v ∷ vs) (v' ∷ vs') (suc k) m f = arg_same M names vs vs' k m.1 f

-- the same of arguments, counted from the first one
pub operand_same : (M : Node → Bool) (names : List Node) (vs vs' : List Value) (k : ℕ) → Matches M names vs vs'
    → ((d : Node) → slice_get (reverse names) k ≡ Some d → M d ≡ true) → arg (reverse vs') k ≡ arg (reverse vs) k
operand_same M names vs vs' k m f = arg_same M (reverse names) (reverse vs) (reverse vs') k (match_reverse M names vs vs' m) f

pub length_match : (M : Node → Bool) (names : List Node) (vs vs' : List Value) → Matches M names vs vs' → length vs' ≡ length vs
length_match M [] [] [] m = refl
length_match M [] [] (v' ∷ vs') m = absurd m
length_match M [] (v ∷ vs) vs' m = absurd m
length_match M (d ∷ names) [] vs' m = absurd m
length_match M (d ∷ names) (v ∷ vs) [] m = absurd m
length_match M (d ∷ names) (v ∷ vs) (v' ∷ vs') m = ap suc (length_match M names vs vs' m.1)

pub path_of : (B : Bounds) (S : Sites) (x : Loc) (a b q : Node) → Leads S a b → Enters (written_by B S) S x b q → Path (written_by B S) S x a q
path_of B S x a b q l stands = edge l
path_of B S x a b q l (steps c m off e) = along b l off (path_of B S x b c q m e)

-- the laws of calls that both inductions use
pub record Good (B : Bounds) (R : Rows) (c : Calls) : Type 0 where
  pub does : DoesLaw B c
  pub two : TwoLaw R B.m c

-- what an instruction of a module does
pub op_does : (Z : Fixed) (W : Cover) → FixedOk Z W → (c : Calls) → DoesLaw (bounds Z.m W) c → (op : Instr) → (vs : List Value) (st : Store) (e : Effect)
    → effect Z c op vs st ≡ Gives e → Does (bounds Z.m W) op vs st e
op_does Z W ok c law op vs st e q = call_or (bounds Z.m W) op (λ n. plain_does Z W c op vs st e n q) (λ g n cc. call_does Z W ok c law op g cc vs st e q)

module _ (Z : Fixed) (W : Cover) (R : Rows) (ok : FixedOk Z W) (self : ℕ) (S : Sites) (ends : List EndAt) (o : Output) (K M : Node → Bool)
    (sets : Sets (bounds Z.m W) (RowOf Z.m R) S ends o K M) (apt : Apt (bounds Z.m W) (RowOf Z.m R) S ends o) (G : Calls → Type 0) (w : Mode)
    (no_cut : cuts w ≡ false) (good : (c : Calls) → G c → Good (bounds Z.m W) R c)
    (done : strict w ≡ true → (o ≡ Done) × ((c : Calls) → G c → DoneLaw R Z.m c)) where
  abbrev B : Bounds
  B = bounds Z.m W

  abbrev Q : CallRows
  Q = RowOf Z.m R

  abbrev N : Node → Loc → Type 0
  N a x = Needed B Q S ends o a x

  needs : (p : ℕ) (x : Loc) → Led B Q S ends o (Place (At p) x) → N (At p) x
  needs p x h = record { at = At p; enters = stands; led = h }

  -- a plain instruction that is led to as a maker or a writer
  abbrev IsValue : Output → Type 0
  IsValue Ret = Unit {0}
  IsValue (Final x) = Unit {0}
  IsValue Done = ⊥

  plain_agrees : (out : Output) → IsValue out → (p : ℕ) (s : Site) (op : Instr) → IsSite S p s → s.head ≡ DoHead op → called B op ≡ None
      → Led B Q S ends o (Makes (At p) out) → (c : Calls) (vs vs' : List Value) (st st' : Store) (e e' : Effect)
      → Matches M (take (takes (callees Z.m) op) s.names) vs vs' → ((x : Loc) → N (At p) x → EqAt x st st') → effect Z c op vs st ≡ Gives e
      → effect Z c op vs' st' ≡ Gives e' → SameEnd B op e e'
  plain_agrees Ret v p s op is hd n led c vs vs' st st' e e' ma eq q q' =
      let same = all_match M (take (takes (callees Z.m) op) s.names) vs vs' (λ k d g. sets.m_is d (operand p k Ret s op led is hd n tt g)) ma in
      plain_same Z W c op vs st st' e e' n (λ x on. eq x (needs p x (reading Ret s op led is hd on))) q (subst (λ z. effect Z c op z st' ≡ Gives e') same q')
  plain_agrees (Final y) v p s op is hd n led c vs vs' st st' e e' ma eq q q' =
      let same = all_match M (take (takes (callees Z.m) op) s.names) vs vs' (λ k d g. sets.m_is d (operand p k (Final y) s op led is hd n tt g)) ma in
      plain_same Z W c op vs st st' e e' n (λ x on. eq x (needs p x (reading (Final y) s op led is hd on))) q
      (subst (λ z. effect Z c op z st' ≡ Gives e') same q')
  plain_agrees Done v p s op is hd n led c vs vs' st st' e e' ma eq q q' = absurd v

  -- a call whose output is led to begins equal on its row
  pub call_begins : (out : Output) (p : ℕ) (g : Callee) (s : Site) (op : Instr) → IsSite S p s → s.head ≡ DoHead op → called B op ≡ Some g
      → Led B Q S ends o (Makes (At p) out) → (vs vs' : List Value) (st st' : Store) → Matches M (take (takes (callees Z.m) op) s.names) vs vs'
      → ((x : Loc) → N (At p) x → EqAt x st st') → SameOn (Q g out) vs vs' st st'
  call_begins out p g s op is hd n led vs vs' st st' ma eq (Local k) row =
      operand_same M (take (takes (callees Z.m) op) s.names) vs vs' k ma (λ d e. sets.m_is d (argument p k g out s op led is hd n row e))
  call_begins out p g s op is hd n led vs vs' st st' ma eq (Global i) row = eq (Global i) (needs p (Global i) (place g out s op led is hd n row refl))
  call_begins out p g s op is hd n led vs vs' st st' ma eq Mem row = eq Mem (needs p Mem (place g out s op led is hd n row refl))
  call_begins out p g s op is hd n led vs vs' st st' ma eq Size row = eq Size (needs p Size (place g out s op led is hd n row refl))
  call_begins out p g s op is hd n led vs vs' st st' ma eq Host row = eq Host (needs p Host (place g out s op led is hd n row refl))

  -- a mode that follows and is no cut is strict
  must : (w1 : Mode) → follows w1 ≡ true → cuts w1 ≡ false → strict w1 ≡ true
  must Cuts on off = absurd (true≢false off)
  must Agrees on off = absurd (true≢false (sym on))
  must Completes on off = refl

  no_trap : (p : ℕ) (s : Site) (op : Instr) → IsSite S p s → s.head ≡ DoHead op → o ≡ Done → K (At p) ≡ false → may_trap B op ≡ false
  no_trap p s op is hd od off = off-or-on (may_trap B op) (λ m. true≢false (sym (sets.k_is (At p) (makes_it Done (done_trap op s od is hd m))) ∙ off))

  -- an instruction of a function whose completion is asked for goes on from the other store too
  comes_by : (p : ℕ) (s : Site) (op : Instr) → IsSite S p s → s.head ≡ DoHead op → takes (callees Z.m) op ≤ length s.names → o ≡ Done → (c : Calls)
      → DoesLaw B c → DoneLaw R Z.m c → (vs vs' : List Value) (st st' : Store) (e : Effect) → Matches M (take (takes (callees Z.m) op) s.names) vs vs'
      → ((x : Loc) → N (At p) x → EqAt x st st') → effect Z c op vs st ≡ Gives e → (m : Bool) → may_trap B op ≡ m → Comes Z c op vs' st st' e
  comes_by p s op is hd enough od c dl law vs vs' st st' e ma eq q false off =
      let d = op_does Z W ok c dl op vs st e q in
      let g = plain_total Z W c op vs st off d.took in
      let g' = plain_total Z W c op vs' st' off (length_match M (take (takes (callees Z.m) op) s.names) vs vs' ma ∙ d.took) in
      let t : e.store.state.turns ≡ st.state.turns = subst (λ z. z.store.state.turns ≡ st.state.turns) (gives_is g.effect_is e (sym g.is ∙ q)) g.turns in
      let t' = g'.turns in
      record { other = g'.effect_is; is = g'.is; turns = omega arith }
  comes_by p s op is hd enough od c dl law vs vs' st st' e ma eq q true on =
      let d = op_does Z W ok c dl op vs st e q in
      let led = done_trap op s od is hd on in
      let l' = length_match M (take (takes (callees Z.m) op) s.names) vs vs' ma ∙ d.took in
      call_or B op
      (λ n. plain_comes Z W c op vs vs' st st' e n (length_match M (take (takes (callees Z.m) op) s.names) vs vs' ma) (λ k tr. arg_same M (take (takes (callees Z.m) op) s.names) vs vs' k ma (λ x g. sets.m_is x (operand p k Done s op led is hd n tr g))) (λ x ch. eq x (needs p x (reading Done s op led is hd ch))) q)
      (λ g n cc. call_done Z W ok c R law op g cc vs vs' st st' e (length_match M (take (takes (callees Z.m) op) s.names) vs vs' ma) (call_begins Done p g s op is hd n led vs vs' st st' ma eq) q)

  do_ok : (p : ℕ) (s : Site) (op : Instr) → IsSite S p s → s.head ≡ DoHead op → OpOk B self op → takes (callees Z.m) op ≤ length s.names
      → leaves (callees Z.m) op ≤ 1 → DoOk Z W G w K M every N false op p s.names s.next
  do_ok p s op is hd wf enough few = record {
    does = λ c g0 vs st e q. op_does Z W ok c (good c g0).does op vs st e q;
    few = few;
    enough = enough;
    marks = λ on. absurd (true≢false (sym on));
    watched = λ on. absurd (true≢false (sym on));
    shows = λ on. (every_in (takes (callees Z.m) op) s.names enough, refl);
    total = λ on off c g0 vs st l. plain_total Z W c op vs st (no_trap p s op is hd (done on).0 off) l;
    comes = λ on kept c g0 vs vs' st st' e ma eq q.
        let str = must w on no_cut in
        comes_by p s op is hd enough (done str).0 c (good c g0).does ((done str).1 c g0) vs vs' st st' e ma eq q (may_trap B op) refl;
    agree = λ on c g0 vs vs' st st' e e' ma eq q q'. let g = good c g0 in record {
      results =
          λ m. call_or B op (λ n. (plain_agrees Ret tt p s op is hd n (sets.m_has (At p) m) c vs vs' st st' e e' ma eq q q').results)
          (λ h n cc. call_two Z W ok c R g.two op h cc Ret vs vs' st st' e e' (call_begins Ret p h s op is hd n (sets.m_has (At p) m) vs vs' st st' ma eq) q q');
      written = λ x nd wr. let led = written_led p s op is hd x nd wr in
          call_or B op (λ n. (plain_agrees (Final x) tt p s op is hd n led c vs vs' st st' e e' ma eq q q').written x wr)
          (λ h n cc. call_two Z W ok c R g.two op h cc (Final x) vs vs' st st' e e' (call_begins (Final x) p h s op is hd n led vs vs' st st' ma eq) q q' (call_outer Z W ok c op h cc x wr));
    };
    keeps =
        λ x nd off.
        record { at = nd.at; enters = steps s.next (from_at s is (to_next op hd)) (writes_only B S x p s is (ap (λ z. writes_at B z x) hd ∙ off)) nd.enters; led = nd.led };
    defines = λ x nd on. sets.k_is (At p) (makes_it (Final x) (written_led p s op is hd x nd on));
  }
    where
      written_led : (p : ℕ) (s : Site) (op : Instr) → IsSite S p s → s.head ≡ DoHead op → (x : Loc) → N s.next x → writes B op x ≡ true
          → Led B Q S ends o (Makes (At p) (Final x))
      written_led p s op is hd x nd on =
          writer nd.at nd.led (writes_it (s, is, ap (λ z. writes_at B z x) hd ∙ on))
          (path_of B S x (At p) s.next nd.at (from_at s is (to_next op hd)) nd.enters)

  pub facts : Facts Z W G w S ends (OpOk B self) K M N
  facts = record {
    do_ok = do_ok;
    test_if =
        λ p t s is hd on le. all_of M 1 s.names le
        (λ k d g. sets.m_is d (condition p k s (apt.decides_if p t s is hd (sets.k_has (At p) on)) is (subst (λ z. slice_get (take (operand_count (callees Z.m) z) s.names) k ≡ Some d) (sym hd) g)));
    test_br =
        λ p l s is hd on le. all_of M 1 s.names le
        (λ k d g. sets.m_is d (condition p k s (apt.decides_br p l s is hd (sets.k_has (At p) on)) is (subst (λ z. slice_get (take (operand_count (callees Z.m) z) s.names) k ≡ Some d) (sym hd) g)));
    test_table =
        λ p other labels s is hd on le. all_of M 1 s.names le
        (λ k d g. sets.m_is d (condition p k s (apt.decides_table p other labels s is hd (sets.k_has (At p) on)) is (subst (λ z. slice_get (take (operand_count (callees Z.m) z) s.names) k ≡ Some d) (sym hd) g)));
    shadows = λ p n sh on. sets.k_is (At p) (decides_it (decide p n sh (sets.k_has n on)));
    carries = λ p l s is br le on. all_of M _ (carry_names s.head s.names) le (λ k d g. sets.m_is d (carrying p l k s (sets.m_has _ on) is br g));
    live_ends = λ e a le on. all_of M e.count e.names le (λ k d g. sets.m_is d (ending e k (sets.m_has e.owner on) a g));
    no_back = λ st p l s is br lp. sets.k_is (At p) (decides_it (done_branch l s (done st).0 is br lp));
    stops = λ st p s is hd. sets.k_is (At p) (makes_it Done (done_unreachable s (done st).0 is hd));
    no_cut = no_cut;
    standing = record { at_live = λ p on. apt.stands p (sets.k_has (At p) on); at_end = λ b on. apt.stands_end b (sets.k_has (Join b) on) };
    before = λ a b x l off nd. record { at = nd.at; enters = steps b l off nd.enters; led = nd.led };
  }
    where
      decide : (p : ℕ) (n : Node) → InShadow S p n → AtNode B Q S ends o n → Led B Q S ends o (Decider p)
      decide p n sh (makes_it out led) = deciding n out led sh
      decide p n sh (decides_it {p = q} led) = deciding_again q led sh
