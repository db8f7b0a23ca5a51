-- A module that meets the premises, and the law applied to it: a parameter that no round leads the result to has no influence on it.
use Rattle.wasm_meaning.specs.Effects.{Stops, Gives}
use Rattle.std.proofs.Common.{◌≡◌, ℕ, zero, suc, ◌≤◌, ◌⊎◌, inl, inr, List, [], ◌∷◌, Bool, true, false, Option, Some, None, nat_eq, nat_lt, if◌then◌else◌, refl, sym, ap, ◌∙◌, subst, arith, true≢false}
use Rattle.wasm_types.specs.declared.module.ValType.TheVariants as type
use Rattle.wasm_types.specs.declared.module.Value.{Value}
use Rattle.wasm_types.specs.declared.module.Value.TheVariants as value
use Rattle.wasm_types.specs.declared.module.Module.{Module}
use Rattle.wasm_types.specs.declared.ops.NumOp.TheVariants.{Bin}
use Rattle.wasm_types.specs.declared.ops.Width.TheVariants.{W32}
use Rattle.wasm_types.specs.declared.ops.BinOp.TheVariants.{DivU}
use Rattle.wasm_types.specs.declared.instr.Instr.{Instr, LocalGet, Call, I32Const, Num}
use Rattle.wasm_types.specs.Code as sequence
use Rattle.wasm_types.specs.Code.{done, one}
use Rattle.wasm_types.specs.Spaces.{type_of_func}
use Rattle.wasm_meaning.specs.State.{State, Script}
use Rattle.wasm_meaning.specs.Stops.{Trap}
use Rattle.wasm_types.specs.declared.run.Reason.TheVariants.{DivideByZero}
use Rattle.wasm_meaning.specs.Fits.{Fits}
use Rattle.wasm_types.specs.declared.place.Loc.{Loc}
use Rattle.wasm_types.specs.declared.place.Loc.TheVariants.{Local, Global, Mem, Size, Host}
use Rattle.flow_domain.specs.Bounds.{Cover, Bounds, bounds}
use Rattle.wasm_types.specs.Locations.{is_local}
use Rattle.wasm_meaning.specs.Equality.{EqAt}
use Rattle.wasm_types.specs.Actions.{callees}
use Rattle.wasm_types.specs.declared.run.Event.{Event}
use Rattle.wasm_types.specs.declared.run.Event.TheVariants.{Take, Leave}
use Rattle.wasm_types.specs.Hosts.{HostFunc, host_of, host_from}
use Rattle.wasm_types.specs.Funcs.{Func, func_of, text}
use Rattle.wasm_meaning.specs.Invoke.{alone, invocation, Returns}
use Rattle.wasm_types.specs.declared.place.Node.{Node}
use Rattle.wasm_types.specs.Sites.{Head, DoHead, BlockHead, LoopHead, IfHead, BrHead, BrIfHead, BrTableHead, ReturnHead, UnreachableHead, Site, IsSite}
use Rattle.flow_domain.specs.Heights.{Shaped}
use Rattle.flow_domain.specs.Rows.{Output, Ret, Final, Done, Rows, CallRows, RowOf, needs_place, Place, Led, final, reading, place, LedTo, by_code, by_host, IsInput, func_sites, func_ends}
use Rattle.flow_laws.specs.Calls.{ModuleOk, OpOk}
use Rattle.flow_laws.specs.Soundness.{DifferOnly, Omits}
use Rattle.flow_laws.proofs.Starts.{some_func}
use Rattle.flow_laws.proofs.Invocations.{rows_sound}

-- function 0 calls function 1 with its first parameter; function 1 divides 84 by its parameter
abbrev two_funcs : Module
two_funcs = record {
  types = record { params = type.I32 ∷ type.I32 ∷ []; results = type.I32 ∷ [] } ∷ record { params = type.I32 ∷ []; results = type.I32 ∷ [] } ∷ [];
  imports = [];
  funcs = 0 ∷ 1 ∷ [];
  tables = [];
  mems = [];
  globals = [];
  exports = [];
  start = None;
  elems = [];
  bodies = record { locals = []; code = LocalGet 0 ∷ Call 1 ∷ [] } ∷ record { locals = []; code = I32Const 84 ∷ LocalGet 0 ∷ Num (Bin W32 DivU) ∷ [] } ∷ [];
  segments = [];
  names = None;
}

abbrev caller : Func
caller = record { params = 2; results = 1; locals = []; code = one (LocalGet 0) (one (Call 1) done) }

abbrev divider : Func
divider = record { params = 1; results = 1; locals = []; code = one (I32Const 84) (one (LocalGet 0) (one (Num (Bin W32 DivU)) done)) }

is_caller : func_of two_funcs 0 ≡ Some caller
unfolding sequence.onto
is_caller = refl

is_divider : func_of two_funcs 1 ≡ Some divider
unfolding sequence.onto
is_divider = refl

abbrev start : State
start = record { globals = []; pages = 0; bytes = []; table = []; cap = 0; host = Script []; host_calls = []; turns = 0 }

-- the state after so many turns
abbrev after_turns : ℕ → State
after_turns n = record start { turns = n }

-- a run, and what is seen at the call
gives : (invocation two_funcs 1 (nat_eq 1) 0 (value.I32 2 ∷ value.I32 9 ∷ []) start).answer ≡ Gives
    (record { results = value.I32 42 ∷ []; store = alone (after_turns 1) })
unfolding sequence.onto
gives = refl

sees : (invocation two_funcs 1 (nat_eq 1) 0 (value.I32 2 ∷ value.I32 9 ∷ []) start).events ≡ Take (value.I32 2 ∷ []) ∷ Leave (value.I32 42 ∷ []) ∷ []
unfolding sequence.onto
sees = refl

-- and one that traps below
traps : (invocation two_funcs 1 (nat_eq 1) 0 (value.I32 0 ∷ value.I32 9 ∷ []) start).answer ≡ Stops (Trap DivideByZero) (after_turns 1)
unfolding sequence.onto
traps = refl

-- nothing is written
abbrev W : Cover
W = record { writes = λ g x. false; touch = λ g x. false }

abbrev B : Bounds
B = bounds two_funcs W

off : {A : Type 0} → false ≡ true → A
off e = absurd (true≢false (sym e))

no_func : {A : Type 0} (F : Func) → None ≡ Some F → A
no_func F e = absurd (grind arith)

shaped_caller : Shaped (callees two_funcs) (OpOk B 0) (1 ∷ []) 1 (text caller) 0
shaped_caller = (omega arith, (λ x on outer. off on), omega arith, (omega arith, (λ x on outer. off on), omega arith, refl))

shaped_divider : Shaped (callees two_funcs) (OpOk B 1) (1 ∷ []) 1 (text divider) 0
shaped_divider = (
  omega arith,
  (λ x on outer. off on),
  omega arith,
  (omega arith, (λ x on outer. off on), omega arith, (omega arith, (λ x on outer. off on), omega arith, refl)),
)

shaped : (f : ℕ) (F : Func) → func_of two_funcs f ≡ Some F → Shaped (callees two_funcs) (OpOk B f) (F.results ∷ []) F.results (text F) 0
shaped zero F is =
    subst (λ z. Shaped (callees two_funcs) (OpOk B 0) (z.results ∷ []) z.results (text z) 0) (some_func caller F (sym is_caller ∙ is)) shaped_caller
shaped (suc zero) F is =
    subst (λ z. Shaped (callees two_funcs) (OpOk B 1) (z.results ∷ []) z.results (text z) 0) (some_func divider F (sym is_divider ∙ is)) shaped_divider
shaped (suc (suc f)) F is = no_func F is

small : (f : ℕ) (F : Func) → func_of two_funcs f ≡ Some F → F.results ≤ 1
small zero F is = subst (λ z. z.results ≤ 1) (some_func caller F (sym is_caller ∙ is)) (omega arith)
small (suc zero) F is = subst (λ z. z.results ≤ 1) (some_func divider F (sym is_divider ∙ is)) (omega arith)
small (suc (suc f)) F is = no_func F is

never_below : (f : ℕ) → nat_lt f 0 ≡ false
never_below f = grind arith

no_host : {A : Type 0} (f : ℕ) (H : HostFunc) → host_of two_funcs f ≡ Some H → A
no_host f H is = absurd (none (sym (ap (λ z. if z then host_from two_funcs f (type_of_func two_funcs f) else None) (never_below f)) ∙ is))
  where
    none : None ≡ Some H → ⊥
    none e = grind arith

pub module_ok : ModuleOk B
module_ok = record { shaped = shaped; small = small; hosts = λ f H is x on. no_host f H is; targets = λ t n f T x on. off on; outer = λ g x on. off on }

-- the instructions of the caller
abbrev head_op : Head → Instr → Instr
head_op (DoHead o) d = o
head_op (BlockHead kind) d = d
head_op (LoopHead kind) d = d
head_op (IfHead kind) d = d
head_op (BrHead l) d = d
head_op (BrIfHead l) d = d
head_op (BrTableHead labels other) d = d
head_op (ReturnHead l) d = d
head_op UnreachableHead d = d

same_op : (a b : Instr) → DoHead a ≡ DoHead b → a ≡ b
same_op a b e = ap (λ h. head_op h a) e

get_site : Option (Option Site) → Site → Site
get_site (Some (Some s)) d = s
get_site (Some None) d = d
get_site None d = d

the_site : (a s : Site) → Some (Some a) ≡ Some (Some s) → a ≡ s
unfolding get_site
the_site a s e = ap (λ o. get_site o a) e

no_site : {A : Type 0} (s : Option Site) → None ≡ Some s → A
no_site s e = absurd (grind arith)

caller_op : (p : ℕ) (s : Site) → IsSite (func_sites B caller) p s → (s.head ≡ DoHead (LocalGet 0)) ⊎ (s.head ≡ DoHead (Call 1))
caller_op zero s is = inl (sym (ap (λ z. z.head) (the_site _ s is)))
caller_op (suc zero) s is = inr (sym (ap (λ z. z.head) (the_site _ s is)))
caller_op (suc (suc p)) s is = no_site (Some s) is

no_get : (out : Output) → needs_place B (LocalGet 0) out (Local 1) → ⊥
no_get Ret nd = true≢false (sym nd)
no_get (Final y) nd = true≢false (sym nd)
no_get Done nd = true≢false (sym nd)

no_call : (out : Output) → needs_place B (Call 1) out (Local 1) → ⊥
no_call Ret nd = true≢false (sym nd)
no_call (Final y) nd = true≢false (sym nd)
no_call Done nd = true≢false (sym nd)

no_need : (out : Output) (s : Site) (op : Instr) → s.head ≡ DoHead op → needs_place B op out (Local 1)
    → (s.head ≡ DoHead (LocalGet 0)) ⊎ (s.head ≡ DoHead (Call 1)) → ⊥
no_need out s op hd nd (inl e) = no_get out (subst (λ z. needs_place B z out (Local 1)) (same_op op (LocalGet 0) (sym hd ∙ e)) nd)
no_need out s op hd nd (inr e) = no_call out (subst (λ z. needs_place B z out (Local 1)) (same_op op (Call 1) (sym hd ∙ e)) nd)

-- the second parameter is led to nowhere
place_only : (R : CallRows) (o : Output) (a : Node) → Led B R (func_sites B caller) (func_ends B caller) o (Place a (Local 1)) → o ≡ Final (Local 1)
place_only R o a (final e) = e
place_only R o a (reading {p = p} out s op led is hd nd) = absurd (no_need out s op hd nd (caller_op p s is))
place_only R o a (place {p = p} g out s op led is hd c row on) = absurd (true≢false (sym on))

not_final : {A : Type 0} (x : Loc) → Ret ≡ Final x → A
not_final x e = absurd (grind arith)

unled : (R : Rows) (x : Loc) → x ≡ Local 1 → LedTo R B 0 Ret x → ⊥
unled R x e (by_code F is needed input) =
    not_final (Local 1)
    (place_only (RowOf two_funcs R) Ret needed.at
    (subst (λ z. Led B (RowOf two_funcs R) (func_sites B z) (func_ends B z) Ret (Place needed.at (Local 1))) (sym (some_func caller F (sym is_caller ∙ is))) (subst (λ z. Led B (RowOf two_funcs R) (func_sites B F) (func_ends B F) Ret (Place needed.at z)) e needed.led)))
unled R x e (by_host row) = no_host 0 row.0 row.1

abbrev second : Loc → Bool
second x = is_local 1 x

is_second : (x : Loc) → second x ≡ true → x ≡ Local 1
is_second (Local k) on = let e : k ≡ 1 = grind arith in ap Local e
is_second (Global g) on = off on
is_second Mem on = off on
is_second Size on = off on
is_second Host on = off on

omits : Omits B 0 Ret second
omits x on zero h = unled _ x (is_second x on) h
omits x on (suc n) h = unled _ x (is_second x on) h

fits : Fits two_funcs start
fits = record {
  globals = tt;
  pages = omega arith;
  below_cap = omega arith;
  below_maximum = λ k d lt. absurd (omega arith);
  long = refl;
  bytes = λ k d lt. absurd (omega arith);
  table = λ k d lt. absurd (omega arith);
}

two_starts : (a b b' : Value) → DifferOnly two_funcs caller second (a ∷ b ∷ []) (a ∷ b' ∷ []) start start
two_starts a b b' = record { long = refl; long' = refl; fits = fits; table = refl; cap = refl; equal = equal }
  where
    equal : (x : Loc) → IsInput 2 x → second x ≡ false → EqAt x (record { locals = a ∷ b ∷ []; state = start }) (record { locals = a ∷ b' ∷ []; state = start })
    equal (Local zero) i f = refl
    equal (Local (suc zero)) i f = absurd (true≢false f)
    equal (Local (suc (suc k))) i f = refl
    equal (Global g) i f = refl
    equal Mem i f = λ j. refl
    equal Size i f = refl
    equal Host i f = (refl, refl)

-- the law: the second parameter has no influence on the result
pub unused : (a b b' : Value) (i i' n n' : ℕ) (results results' : List Value) (end end' : State) (events events' : List Event)
    → Returns two_funcs 0 i (a ∷ b ∷ []) start n results end events → Returns two_funcs 0 i' (a ∷ b' ∷ []) start n' results' end' events' → results' ≡ results
unused a b b' i i' n n' results results' end end' events events' r r' =
    rows_sound two_funcs W module_ok 0 caller is_caller Ret second omits (a ∷ b ∷ []) (a ∷ b' ∷ []) start start (two_starts a b b') i i' n n' results results'
    end end' events events' r r'
