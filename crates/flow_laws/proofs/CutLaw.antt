-- A body's cut follows it, where kept calls use only what their needed outputs and their completion depend on.
use Rattle.flow_domain.specs.Presence.{maker}
use Rattle.flow_laws.proofs.Live.{cut_same, live_agrees, live_stands, live_needed, live_kept, among_live}
use Rattle.std.proofs.Common.{◌≡◌, ℕ, zero, suc, ◌≤◌, ◌<◌, inl, inr, List, [], ◌∷◌, Bool, true, Option, Some, None, take, length, slice_get, refl, sym, ap, ◌∙◌, subst, arith, true≢false}
use Rattle.wasm_types.specs.declared.instr.Instr.{Instr}
use Rattle.wasm_types.specs.declared.module.Value.{Value}
use Rattle.wasm_types.specs.declared.module.ValType.{ValType}
use Rattle.flow_laws.proofs.Closed as mode
use Rattle.flow_laws.proofs.Bridge.{Standing, among_end, among_left, among_right, has_all, writes_only}
use Rattle.flow_laws.proofs.BridgeCut.{all_in, shown_of, IsShown, CutFacts, cut_closed_of}
use Rattle.flow_laws.proofs.Callees.{FixedOk}
use Rattle.flow_laws.proofs.Classical.{done_laws, two_laws}
use Rattle.flow_laws.proofs.Closed.{Agreed, Closed, DoOk, Matches}
use Rattle.flow_laws.proofs.Fewer.{UsesRow, kept_agrees, kept_comes}
use Rattle.flow_laws.proofs.Laws.{does_laws}
use Rattle.flow_laws.proofs.Module.{all_match, arg_same, length_match, op_does}
use Rattle.flow_laws.proofs.Region.{dark-laps, mk}
use Rattle.flow_laws.proofs.Simulates.{Rel, Sim, Stores}
use Rattle.flow_laws.proofs.Simulation.{kept-laps, simulate}
use Rattle.flow_laws.proofs.Sound.{any_round_holds, table_fits}
use Rattle.flow_laws.proofs.Tasks.{IsCall, call_or, plain_comes, plain_same}
use Rattle.flow_domain.specs.Cut.{cut}
use Rattle.flow_laws.specs.Cutting.{IsKept, IsTest, NeedK, later, used, used_done, used_final, used_result}
use Rattle.flow_laws.proofs.Following.{Cuts, Follows, SliceFollows, IsReturn}
use Rattle.flow_domain.specs.Kept.{NamesIn}
use Rattle.wasm_types.specs.Labels.{Label, body_label, first, arity}
use Rattle.wasm_types.specs.Nodes.{AllIn, At}
use Rattle.wasm_types.specs.declared.place.Node.TheVariants.{Exit}
use Rattle.wasm_types.specs.declared.place.Node.{Node}
use Rattle.flow_domain.specs.Rows.{AnyRound, Done, Final, Ret, RowOf, Rows}
use Rattle.flow_laws.specs.Calls.{AnyInstr, DoesLaw, DoneLaw, TwoLaw}
use Rattle.wasm_types.specs.Sites.{BrIfHead, BrTableHead, DoHead, EndAt, Head, IfHead, IsSite, Site, Sites, all_operands, body_ends, body_sites, end_names, from_at, inner_ends, one_end, to_next}
use Rattle.flow_domain.specs.Bounds.{writes_at, Bounds, Cover, bounds, called, writes}
use Rattle.wasm_meaning.proofs.Equal.{eq-refl}
use Rattle.wasm_types.specs.Actions.{Callees, Callee, callees, leaves, takes}
use Rattle.wasm_meaning.specs.Effects.{Calls, Effect, Fixed, Gives, effect, fixed}
use Rattle.wasm_meaning.specs.Invoke.{nested, calls}
use Rattle.flow_laws.proofs.Effects.{Comes}
use Rattle.wasm_meaning.specs.Equality.{EqAt}
use Rattle.wasm_types.specs.declared.place.Loc.TheVariants.{Global, Host, Local, Mem, Size}
use Rattle.wasm_types.specs.declared.place.Loc.{Loc}
use Rattle.wasm_meaning.specs.Run.{Branch, Here, Normal, Outcome, Run, Stopped, below, run}
use Rattle.wasm_types.specs.declared.run.Event.{Event}
use Rattle.wasm_meaning.specs.State.{Store}
use Rattle.wasm_types.specs.Marked.{Marked, size}

-- a name among the first so many
record Taken (n k : ℕ) (names : List Node) (d : Node) : Type 0 where
  pub less : k < n
  pub is : slice_get names k ≡ Some d

no_name : {A : Type 0} (d : Node) → None ≡ Some d → A
no_name d e = absurd (grind arith)

taken_at : (n k : ℕ) (names : List Node) (d : Node) → slice_get (take n names) k ≡ Some d → Taken n k names d
taken_at zero k names d e = no_name d e
taken_at (suc n) k [] d e = no_name d e
taken_at (suc n) zero (x ∷ names) d e = record { less = omega arith; is = e }
taken_at (suc n) (suc k) (x ∷ names) d e = let t = taken_at n k names d e in let l = t.less in record { less = omega arith; is = t.is }

get_all : (M : Node → Bool) (n k : ℕ) (names : List Node) (d : Node) → NamesIn M n names → slice_get (take n names) k ≡ Some d → M d ≡ true
get_all M n k names d a e = let t = taken_at n k names d e in a k d t.less t.is

-- the laws of calls that the simulation uses
pub record Lawful (B : Bounds) (R : Rows) (c : Calls) : Type 0 where
  pub does : DoesLaw B c
  pub two : TwoLaw R B.m c
  pub done : DoneLaw R B.m c

module _ (Z : Fixed) (W : Cover) (R : Rows) (ok : FixedOk Z W) (S : Sites) (ends : List EndAt) (K M P : Node → Bool)
    (ke : IsKept (bounds Z.m W) (RowOf Z.m R) S ends K M) (sh : IsShown (callees Z.m) S ends K P) (stand : Standing S K) where
  abbrev B : Bounds
  B = bounds Z.m W

  abbrev N : Node → Loc → Type 0
  N a x = NeedK B (RowOf Z.m R) S K M a x

  abbrev G : Calls → Type 0
  G c = Lawful B R c

  all_args : (p : ℕ) (s : Site) (op : Instr) → IsSite S p s → s.head ≡ DoHead op → called B op ≡ None → K (At p) ≡ true → (vs vs' : List Value)
      → Matches M (take (takes (callees Z.m) op) s.names) vs vs' → vs' ≡ vs
  all_args p s op is hd n on vs vs' ma =
      all_match M (take (takes (callees Z.m) op) s.names) vs vs' (λ k d g. get_all M (takes (callees Z.m) op) k s.names d (ke.operands p s op is hd n on).1 g)
      ma

  mp : (d : Node) → M d ≡ true → P d ≡ true
  mp d on = sh.kept d (ke.makers d on)

  come : (p : ℕ) (s : Site) (op : Instr) → IsSite S p s → s.head ≡ DoHead op → (g : Callee) → called B op ≡ Some g → IsCall (callees Z.m) op g
      → K (At p) ≡ true → (c : Calls) → G c → (vs vs' : List Value) (st st' : Store) (e : Effect) → Matches M (take (takes (callees Z.m) op) s.names) vs vs'
      → ((x : Loc) → N (At p) x → EqAt x st st') → effect Z c op vs st ≡ Gives e → Comes Z c op vs' st st' e
  come p s op is hd g n cc on c good vs vs' st st' e ma eq q = kept_comes Z W R ok M N p s.names s.next op g cc c good.done uses vs vs' st st' e ma eq q
    where
      uses : UsesRow Z W R ok M N p s.names s.next op g cc Done
      uses (Local k) row = λ d e1. ke.args_done p k g d s op is hd n on row e1
      uses (Global i) row = used_done g s op is hd n on row refl
      uses Mem row = used_done g s op is hd n on row refl
      uses Size row = used_done g s op is hd n on row refl
      uses Host row = used_done g s op is hd n on row refl

  agree_call : (p : ℕ) (s : Site) (op : Instr) → IsSite S p s → s.head ≡ DoHead op → (g : Callee) → called B op ≡ Some g → IsCall (callees Z.m) op g
      → (c : Calls) → G c → (vs vs' : List Value) (st st' : Store) (e e' : Effect) → Matches M (take (takes (callees Z.m) op) s.names) vs vs'
      → ((x : Loc) → N (At p) x → EqAt x st st') → effect Z c op vs st ≡ Gives e → effect Z c op vs' st' ≡ Gives e' → Agreed B op (M (At p)) (N s.next) e e'
  agree_call p s op is hd g n cc c good vs vs' st st' e e' ma eq q q' =
      kept_agrees Z W R ok M N p s.names s.next op g cc c good.two ret fin vs vs' st st' e e' ma eq q q'
    where
      ret : M (At p) ≡ true → UsesRow Z W R ok M N p s.names s.next op g cc Ret
      ret m (Local k) row = λ d e1. ke.args_result p k g d s op is hd n m row e1
      ret m (Global i) row = used_result g s op is hd n m row refl
      ret m Mem row = used_result g s op is hd n m row refl
      ret m Size row = used_result g s op is hd n m row refl
      ret m Host row = used_result g s op is hd n m row refl

      fin : (y : Loc) → N s.next y → writes B op y ≡ true → UsesRow Z W R ok M N p s.names s.next op g cc (Final y)
      fin y nd w (Local k) row = λ d e1. ke.args_final p k g y d s op is hd n w nd row e1
      fin y nd w (Global i) row = used_final g y s op is hd n w nd row refl
      fin y nd w Mem row = used_final g y s op is hd n w nd row refl
      fin y nd w Size row = used_final g y s op is hd n w nd row refl
      fin y nd w Host row = used_final g y s op is hd n w nd row refl

  do_ok : (p : ℕ) (s : Site) (op : Instr) → IsSite S p s → s.head ≡ DoHead op → takes (callees Z.m) op ≤ length s.names → leaves (callees Z.m) op ≤ 1
      → DoOk Z W G mode.Cuts K M P N s.mark op p s.names s.next
  do_ok p s op is hd enough few = record {
    does = λ c g vs st e q. op_does Z W ok c g.does op vs st e q;
    few = few;
    enough = enough;
    marks = λ on. ke.makers (At p) (ke.watched p s is on).0;
    watched =
        λ on.
        (all_in M (takes (callees Z.m) op) s.names enough (subst (λ z. NamesIn M z s.names) (ap (λ z. all_operands (callees Z.m) s.around z) hd) (ke.watched p s is on).1), (ke.watched p s is on).0);
    shows =
        λ on.
        (subst (λ z. AllIn P z s.names) (ap (λ z. all_operands (callees Z.m) s.around z) hd) (sh.taken p s is on (let e : all_operands (callees Z.m) s.around s.head ≡ takes (callees Z.m) op = ap (λ z. all_operands (callees Z.m) s.around z) hd in omega arith)), sh.kept (At p) on);
    total = λ st. absurd (true≢false (sym st));
    comes = λ f on c g vs vs' st st' e ma eq q. call_or B op
        (λ n.
        plain_comes Z W c op vs vs' st st' e n (length_match M (take (takes (callees Z.m) op) s.names) vs vs' ma)
        (λ k tr. arg_same M (take (takes (callees Z.m) op) s.names) vs vs' k ma
        (λ x g1. get_all M (takes (callees Z.m) op) k s.names x (ke.operands p s op is hd n on).1 g1)) (λ x ch. eq x (used s op is hd n on (inr ch))) q)
        (λ h n cc. come p s op is hd h n cc on c g vs vs' st st' e ma eq q);
    agree = λ on c g vs vs' st st' e e' ma eq q q'. call_or B op
        (λ n. let same = plain_same Z W c op vs st st' e e' n (λ x rd. eq x (used s op is hd n on (inl rd))) q (subst (λ z. effect Z c op z st' ≡ Gives e') (all_args p s op is hd n on vs vs' ma) q') in
        record { results = λ m. same.results; written = λ x nd wr. same.written x wr })
        (λ h n cc. agree_call p s op is hd h n cc c g vs vs' st st' e e' ma eq q q');
    keeps = λ x nd off. later s.next (from_at s is (to_next op hd)) (writes_only B S x p s is (ap (λ z. writes_at B z x) hd ∙ off)) nd;
    defines = λ x nd on. ke.reaches p x s is (ap (λ z. writes_at B z x) hd ∙ on) nd;
  }

  test_at : (p : ℕ) (s : Site) (h : Head) → IsSite S p s → s.head ≡ h → IsTest h → K (At p) ≡ true → 1 ≤ length s.names → AllIn M 1 s.names
  test_at p s h is hd t on le = all_in M 1 s.names le (ke.tests p s is on (subst IsTest (sym hd) t))

  pub cut_facts : CutFacts Z W G S ends (AnyInstr) K M P N
  cut_facts = record {
    do_ok = λ p s op is hd any enough few. do_ok p s op is hd enough few;
    watched = λ p s is on. ke.makers (At p) (ke.watched p s is on).0;
    watched_in = λ p s is on le. all_in M _ s.names le (ke.watched p s is on).1;
    test_if = λ p kind s is hd on le. test_at p s (IfHead kind) is hd tt on le;
    test_br = λ p l s is hd on le. test_at p s (BrIfHead l) is hd tt on le;
    test_table = λ p other labels s is hd on le. test_at p s (BrTableHead labels other) is hd tt on le;
    shadows = ke.shadows;
    carries = λ p l s is br le on. all_in M _ _ le (ke.carries p l s is br on);
    live_ends = λ e a le on. all_in M e.count e.names le (ke.live_ends e a on);
    around_at = ke.around_at;
    around_join = ke.around_join;
    own_join = ke.own_join;
    standing = stand;
    before = λ a b x l off nd. later b l off nd;
  }

read_off : (K M : Node → Bool) (N : Node → Loc → Type 0) (t e : ℕ) (o : Outcome) (h : Here) (es : List Event) (o' : Outcome) (h' : Here) (es' : List Event)
    → Sim K M N (body_label t e ∷ []) e t Exit (mk o h es) (mk o' h' es') → IsReturn o → Follows (mk o h es) (mk o' h' es')
read_off K M N t e Normal h es Normal h' es' a r = record { returns = tt; events = a.events; turns = a.store.turns }
read_off K M N t e Normal h es (Branch l') h' es' a r = absurd a
read_off K M N t e Normal h es (Stopped why) h' es' a r = absurd a
read_off K M N t e (Branch zero) h es Normal h' es' a r = record { returns = tt; events = a.events; turns = a.store.turns }
read_off K M N t e (Branch zero) h es (Branch zero) h' es' a r = record { returns = tt; events = a.1.events; turns = a.1.store.turns }
read_off K M N t e (Branch zero) h es (Branch (suc l')) h' es' a r = absurd (let q = a.0 in omega arith)
read_off K M N t e (Branch zero) h es (Stopped why) h' es' a r = absurd a
read_off K M N t e (Branch (suc l)) h es o' h' es' a r = absurd r
read_off K M N t e (Stopped why) h es o' h' es' a r = absurd r

-- what the simulation asks of a body
pub body_closed : (Z : Fixed) (W : Cover) → FixedOk Z W → (t : Option ValType) (c : Marked) (K M P : Node → Bool) → Cuts (bounds Z.m W) t c K M P
    → Standing (body_sites (callees Z.m) (arity t) c) K
    → Closed Z W (Lawful (bounds Z.m W) (AnyRound (bounds Z.m W))) mode.Cuts K M P
    (NeedK (bounds Z.m W) (RowOf Z.m (AnyRound (bounds Z.m W))) (body_sites (callees Z.m) (arity t) c) K M) (body_label (arity t) (size c) ∷ []) true Exit
    (arity t) c 0 []
body_closed Z W ok t c K M P cu stand = closed
  where
    B : Bounds
    B = bounds Z.m W

    R : Rows
    R = AnyRound B

    S : Sites
    S = body_sites (callees Z.m) (arity t) c

    E : List EndAt
    E = body_ends (callees Z.m) (arity t) c

    ke : IsKept B (RowOf Z.m R) S E K M
    ke = cu.kept

    sh : IsShown (callees Z.m) S E K P
    sh = shown_of (callees Z.m) S E K P cu.shown

    ctx : List Label
    ctx = body_label (arity t) (size c) ∷ []

    N : Node → Loc → Type 0
    N a y = NeedK B (RowOf Z.m R) S K M a y

    G : Calls → Type 0
    G k = Lawful B R k

    exit_rule : (ns : List Node) → end_names (callees Z.m) c 0 [] ≡ Some ns → length ns ≡ arity t
        → (M Exit ≡ true → AllIn M (arity t) ns) × (true ≡ true → AllIn P (arity t) ns)
    exit_rule ns e long =
        let a =
        among_left (one_end Exit (arity t) (end_names (callees Z.m) c 0 [])) (inner_ends (callees Z.m) c 0 []) _
        (among_end Exit (arity t) ns (end_names (callees Z.m) c 0 []) e) in
        ((λ on. all_in M (arity t) ns (omega arith) (ke.live_ends _ a on)), (λ on. sh.body_end _ a refl long))

    closed : Closed Z W G mode.Cuts K M P N ctx true Exit (arity t) c 0 []
    closed =
        cut_closed_of Z W G S E AnyInstr K M P N (cut_facts Z W R ok S E K M P cu.kept sh stand) sh c ctx Exit (arity t) 0 [] (has_all [] S 0 refl) cu.shaped
        (omega arith, tt) true exit_rule (λ z a. among_right (one_end Exit (arity t) (end_names (callees Z.m) c 0 [])) (inner_ends (callees Z.m) c 0 []) z a)

-- a body returns, and so does its cut
pub body_follows : (Z : Fixed) (W : Cover) → FixedOk Z W → (t : Option ValType) (c : Marked) (K M P : Node → Bool) (T : Node → ValType)
    → Cuts (bounds Z.m W) t c K M P → Standing (body_sites (callees Z.m) (arity t) c) K → (n : ℕ) (h : Here) → h.stack ≡ []
    → IsReturn (run Z (below Z (calls Z) n) (arity t ∷ []) c h).outcome
    → Follows (run Z (below Z (calls Z) n) (arity t ∷ []) c h) (run Z (below Z (calls Z) n) (arity t ∷ []) (cut (callees Z.m) K P T t c 0 []) h)
body_follows Z W ok t c K M P T cu stand n h empty r =
    read_off K M N (arity t) (size c) x.outcome x.there x.events x'.outcome x'.there x'.events
    (simulate Z W G K M P T N ke.makers mp (below Z (calls Z) n) (goods n (omega arith)) (dark-laps Z W G mode.Cuts K M P N (calls Z) n goods) (kept-laps Z W G K M P T N ke.makers mp (calls Z) n goods) c ctx Exit t 0 (size c) [] closed (omega arith) (omega arith) h h rel sto)
    r
  where
    B : Bounds
    B = bounds Z.m W

    R : Rows
    R = AnyRound B

    S : Sites
    S = body_sites (callees Z.m) (arity t) c

    E : List EndAt
    E = body_ends (callees Z.m) (arity t) c

    ke : IsKept B (RowOf Z.m R) S E K M
    ke = cu.kept

    mp : (d : Node) → M d ≡ true → P d ≡ true
    mp d on = cu.shown d (maker (cu.kept.makers d on))

    ctx : List Label
    ctx = body_label (arity t) (size c) ∷ []

    N : Node → Loc → Type 0
    N a y = NeedK B (RowOf Z.m R) S K M a y

    G : Calls → Type 0
    G k = Lawful B R k

    goods : (m : ℕ) → m ≤ n → G (below Z (calls Z) m).call
    goods m le =
        record { does = does_laws Z W ok n m le; two = two_laws Z W ok R (any_round_holds B) n m le; done = done_laws Z W ok R (any_round_holds B) n m le }

    x : Run
    x = run Z (below Z (calls Z) n) (arity t ∷ []) c h

    x' : Run
    x' = run Z (below Z (calls Z) n) (arity t ∷ []) (cut (callees Z.m) K P T t c 0 []) h

    sto : Stores (N (first 0 c Exit)) h.store h.store
    sto = record { equal = λ y needed. eq-refl y h.store; turns = omega arith }

    rel : Rel M P [] h.stack h.stack
    rel = rw empty refl

    closed : Closed Z W G mode.Cuts K M P N ctx true Exit (arity t) c 0 []
    closed = body_closed Z W ok t c K M P cu stand

-- the same set, with its live nodes alone
pub live_cuts : (B : Bounds) (t : Option ValType) (c : Marked) (K M P : Node → Bool) → Cuts B t c K M P
    → (let S = body_sites (callees B.m) (arity t) c in Cuts B t c (among_live S K) (among_live S M) P)
live_cuts B t c K M P cu = record {
  shaped = cu.shaped;
  kept = live_kept B (RowOf B.m (AnyRound B)) (arity t) c K M cu.kept;
  shown = live_needed B (RowOf B.m (AnyRound B)) (arity t) c K M P cu.shown;
}

-- it makes the same cut
pub live_cut : (cs : Callees) (t : Option ValType) (c : Marked) (K P : Node → Bool) (T : Node → ValType)
    → cut cs (among_live (body_sites cs (arity t) c) K) P T t c 0 [] ≡ cut cs K P T t c 0 []
live_cut cs t c K P T =
    let S = body_sites cs (arity t) c in
    cut_same cs S K (among_live S K) P T (λ p s is. live_agrees S K p s is) c (body_label (arity t) (size c) ∷ []) Exit t 0 [] (has_all [] S 0 refl)

pub slice_follows : SliceFollows
slice_follows m W mok t c K M P T cu s fits depth h empty r =
    let S = body_sites (callees m) (arity t) c in
    let Z = fixed m s in
    subst (λ z. Follows (run Z (nested Z depth) (arity t ∷ []) c h) (run Z (nested Z depth) (arity t ∷ []) z h)) (live_cut (callees m) t c K P T)
    (body_follows Z W (record { module_ok = mok; fits = table_fits m s fits }) t c (among_live S K) (among_live S M) P T (live_cuts (bounds m W) t c K M P cu) (live_stands S K) depth h empty r)
