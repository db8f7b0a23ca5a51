-- Where an activation starts: its arguments, and its own locals behind them.
use Rattle.wasm_meaning.specs.Stops.{Stuck}
use Rattle.std.proofs.Common.{map, ◌≡◌, ℕ, zero, suc, ◌≤◌, List, [], ◌∷◌, ◌++◌, reverse, Bool, true, false, nat_lt, not, ◌||◌, ◌-◌, if◌then◌else◌, slice_get, Option, Some, None, length, refl, sym, ap, ◌∙◌, subst, arith}
use Rattle.std.proofs.lemmas.List.{length-reverse}
use Rattle.wasm_types.specs.declared.module.Value.{Value}
use Rattle.wasm_types.specs.declared.module.FuncType.{FuncType}
use Rattle.wasm_types.specs.declared.module.Body.{Body}
use Rattle.wasm_types.specs.declared.module.Module.{Module}
use Rattle.wasm_types.specs.Spaces.{func_types, import_count, type_of_func, body_of}
use Rattle.wasm_meaning.specs.State.{State, Store, arg}
use Rattle.wasm_types.specs.declared.place.Loc.{Loc}
use Rattle.wasm_types.specs.declared.place.Loc.TheVariants.{Local, Global, Mem, Size, Host}
use Rattle.wasm_meaning.specs.Equality.{EqAt}
use Rattle.wasm_meaning.specs.Run.{Here, Stopped, Branch, Normal, Outcome, Below, turned}
use Rattle.wasm_meaning.specs.Effects.{Stops, Answer, Fixed}
use Rattle.wasm_types.specs.Hosts.{HostFunc, host_from, host_of}
use Rattle.wasm_meaning.specs.Invoke.{returned, activation, zero_value, call_own, call_by, calls, entered}
use Rattle.wasm_types.specs.Funcs.{unwatched, Func, func_from, func_of}
use Rattle.flow_laws.specs.Calls.{begun}
use Rattle.flow_laws.proofs.Order.{arg_past, arg_past_all}
use Rattle.flow_laws.specs.Soundness.{entry}

abbrev pub start : Func → List Value → Store → Store
start F vs st = (entered F (reverse vs) (turned st).state).store

arg_behind : (xs ys zs : List Value) (k : ℕ) → length ys ≡ length xs → arg ys k ≡ arg xs k → arg (ys ++ zs) k ≡ arg (xs ++ zs) k
arg_behind [] [] zs k l e = refl
arg_behind [] (y ∷ ys) zs k l e = absurd (omega arith)
arg_behind (x ∷ xs) [] zs k l e = absurd (omega arith)
arg_behind (x ∷ xs) (y ∷ ys) zs zero l e = e
arg_behind (x ∷ xs) (y ∷ ys) zs (suc k) l e = arg_behind xs ys zs k (omega arith) e

pub start_same : (F : Func) (x : Loc) (vs vs' : List Value) (st st' : Store) → length vs' ≡ length vs → EqAt x (begun vs st) (begun vs' st')
    → EqAt x (start F vs st) (start F vs' st')
start_same F (Local k) vs vs' st st' l e =
    arg_behind (reverse vs) (reverse vs') (map zero_value F.locals) k (length-reverse vs' ∙ l ∙ sym (length-reverse vs)) e
start_same F (Global g) vs vs' st st' l e = e
start_same F Mem vs vs' st st' l e = e
start_same F Size vs vs' st st' l e = e
start_same F Host vs vs' st st' l e = e

-- past the arguments both starts are equal
pub start_past : (F : Func) (k : ℕ) (vs vs' : List Value) (st st' : Store) → length vs' ≡ length vs → length vs ≤ k
    → EqAt (Local k) (start F vs st) (start F vs' st')
start_past F k vs vs' st st' l le = start_same F (Local k) vs vs' st st' l (arg_past_all vs' k (omega arith) ∙ sym (arg_past_all vs k le))

-- the type of an own function has its numbers
pub record HasType (m : Module) (f : ℕ) (F : Func) (t : FuncType) : Type 0 where
  pub params : F.params ≡ length t.params
  pub results : F.results ≡ length t.results

get_func : Option Func → Func → Func
get_func None d = d
get_func (Some x) d = x

pub some_func : (a b : Func) → Some a ≡ Some b → a ≡ b
unfolding get_func
some_func a b e = ap (λ o. get_func o a) e

no_func : {A : Type 0} (F : Func) → None ≡ Some F → A
no_func F e = absurd (grind arith)

from_type : (m : Module) (f : ℕ) (F : Func) (t : FuncType) (b : Option Body) → func_from (Some t) b ≡ Some F → HasType m f F t
from_type m f F t None e = no_func F e
from_type m f F t (Some b) e = subst (λ z. HasType m f z t) (some_func _ F e) (record { params = refl; results = refl })

pub has_type : (m : Module) (f : ℕ) (F : Func) (t : FuncType) → func_of m f ≡ Some F → type_of_func m f ≡ Some t → HasType m f F t
has_type m f F t is e = from_type m f F t (body_of m f) (subst (λ z. func_from z (body_of m f) ≡ Some F) e is)

-- the same where the arguments come the first one first, as in an invocation
pub entry_same : (F : Func) (x : Loc) (args args' : List Value) (s s' : State) → length args' ≡ length args → EqAt x (entry args s) (entry args' s')
    → EqAt x (entered F args s).store (entered F args' s').store
entry_same F (Local k) args args' s s' l e = arg_behind args args' (map zero_value F.locals) k l e
entry_same F (Global g) args args' s s' l e = e
entry_same F Mem args args' s s' l e = e
entry_same F Size args args' s s' l e = e
entry_same F Host args args' s s' l e = e

pub entry_past : (F : Func) (k : ℕ) (args args' : List Value) (s s' : State) → length args' ≡ length args → length args ≤ k
    → EqAt (Local k) (entered F args s).store (entered F args' s').store
entry_past F k args args' s s' l le = entry_same F (Local k) args args' s s' l (arg_past args' k (omega arith) ∙ sym (arg_past args k le))

-- ---- imports

none_from : (o : Option FuncType) → func_from o None ≡ None
none_from None = refl
none_from (Some t) = refl

-- an own function is no import
pub own_no_host : (m : Module) (f : ℕ) (F : Func) → func_of m f ≡ Some F → host_of m f ≡ None
own_no_host m f F is = go (nat_lt f (import_count m)) refl
  where
    go : (q : Bool) → nat_lt f (import_count m) ≡ q → (if q then host_from m f (type_of_func m f) else None) ≡ None
    go false e = refl
    go true e =
        no_func F
        (sym
        (ap (λ z. func_from (type_of_func m f) (if z || not (nat_lt f (length (func_types m))) then None else slice_get m.bodies (f - import_count m))) e
        ∙ none_from (type_of_func m f)) ∙ is)

-- what a call of an own function answers, in the caller's store
abbrev pub answer_of : Fixed → Below → Option Func → List Value → Store → Answer
answer_of Z b None vs s = Stops Stuck (turned s).state
answer_of Z b (Some f) vs s = let r = activation Z b unwatched f (reverse vs) (turned s).state in returned r.outcome s r.there

returned_turned : (o : Outcome) (s : Store) (h : Here) → returned o (turned s) h ≡ returned o s h
returned_turned Normal s h = refl
returned_turned (Branch zero) s h = refl
returned_turned (Branch (suc l)) s h = refl
returned_turned (Stopped why) s h = refl

own_turned : (Z : Fixed) (b : Below) (o : Option Func) (vs : List Value) (s : Store) → call_own Z b o vs (turned s) ≡ answer_of Z b o vs s
own_turned Z b None vs s = refl
own_turned Z b (Some f) vs s = let r = activation Z b unwatched f (reverse vs) (turned s).state in returned_turned r.outcome s r.there

pub own_calls : (Z : Fixed) (b : Below) (f : ℕ) (F : Func) → func_of Z.m f ≡ Some F → (vs : List Value) (st : Store)
    → calls Z b f vs st ≡ answer_of Z b (Some F) vs st
own_calls Z b f F is vs st =
    ap (λ z. call_by Z b z f vs (turned st)) (own_no_host Z.m f F is) ∙ ap (λ z. call_own Z b z vs (turned st)) is ∙ own_turned Z b (Some F) vs st

get_kind : Option HostFunc → FuncType → FuncType
get_kind None d = d
get_kind (Some H) d = H.kind

no_host : {A : Type 0} (H : HostFunc) → None ≡ Some H → A
no_host H e = absurd (grind arith)

pub host_type : (m : Module) (f : ℕ) (H : HostFunc) (t : FuncType) → host_of m f ≡ Some H → type_of_func m f ≡ Some t → H.kind ≡ t
unfolding get_kind
host_type m f H t is e = go (nat_lt f (import_count m)) is
  where
    go : (q : Bool) → (if q then host_from m f (type_of_func m f) else None) ≡ Some H → H.kind ≡ t
    go false h = no_host H h
    go true h = sym (ap (λ z. get_kind z H.kind) (sym (ap (host_from m f) e) ∙ h))
