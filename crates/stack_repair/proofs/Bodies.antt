-- The cut of a body of a valid module without floats is a valid body of the same type.
use Rattle.std.proofs.Common.{◌≡◌, ℕ, zero, suc, ◌+◌, ◌-◌, ◌≤◌, ◌<◌, List, [], ◌∷◌, ◌++◌, map, replicate, Bool, true, false, not, ◌||◌, nat_lt, if◌then◌else◌, Option, Some, None, length, slice_get, refl, sym, ap, subst, arith, IfSome}
use Rattle.std.specs.Prelude.{All}
use Rattle.std.proofs.lemmas.List.Elements.{All-nil, All-append, All-replicate, All-head, All-tail}
use Rattle.std.proofs.lemmas.Option.{slice_get_within}
use Rattle.std.proofs.lemmas.Option.{get_or_from_slice_get}
use Rattle.wasm_types.specs.declared.module.ValType.{ValType}
use Rattle.wasm_types.specs.declared.module.FuncType.{FuncType}
use Rattle.wasm_types.specs.declared.module.GlobalType.{GlobalType}
use Rattle.wasm_types.specs.declared.module.GlobalDef.{GlobalDef}
use Rattle.wasm_types.specs.declared.module.ImportKind.{ImportKind}
use Rattle.wasm_types.specs.declared.module.ImportKind.TheVariants as import
use Rattle.wasm_types.specs.declared.module.Import.{Import}
use Rattle.wasm_types.specs.declared.module.LocalRun.{LocalRun}
use Rattle.wasm_types.specs.declared.module.Body.{Body}
use Rattle.wasm_types.specs.declared.module.Module.{Module}
use Rattle.wasm_types.specs.declared.place.Part.TheVariants as part
use Rattle.wasm_types.specs.Code.{Code, code_of, list_of}
use Rattle.wasm_types.specs.Marked.{Marked, marked, unmarked, size}
use Rattle.wasm_types.specs.Spaces.{type_of_func, func_types, imported, global_import, global_kind, run_types, local_types, HasBody, import_count, body_of}
use Rattle.wasm_types.specs.Typing.{Context}
use Rattle.wasm_types.specs.Validity.{values_of, Leads, IsValid}
use Rattle.wasm_types.specs.Subset.{IsInteger, IsIntegerKind, IsIntegerCode, IsIntegerFunc, IsIntegerImport, HasNoFloat}
use Rattle.wasm_types.specs.Actions.{callees}
use Rattle.wasm_types.specs.Labels.{arity, body_label}
use Rattle.wasm_types.specs.declared.place.Node.{Node}
use Rattle.wasm_types.specs.declared.place.Node.TheVariants.{Exit}
use Rattle.wasm_types.specs.Sites.{body_sites, body_ends, one_end, end_names, inner_ends}
use Rattle.wasm_types.specs.Places.{TypesPlaces}
use Rattle.flow_domain.specs.Heights.{Shaped}
use Rattle.flow_domain.specs.Cut.{cut_body}
use Rattle.stack_repair.proofs.Live.{TypesLive, live_of}
use Rattle.flow_domain.specs.Presence.{HoldsNeeded, at_exit}
use Rattle.flow_domain.specs.Sliced.{context_of, result_type, watched_code}
use Rattle.stack_repair.specs.Law.{sites_in, ends_in, with_cut, HasTypedBody, HasTypes, ValidHasHeights, CutIsOne, CutIsValid}
use Rattle.stack_repair.proofs.Counting.{unmarked-marked}
use Rattle.flow_domain.proofs.Shapes.{Integers, IsIntegerContext, numbered}
use Rattle.stack_repair.proofs.Typed.{Typed, by_kind, typed_of}
use Rattle.stack_repair.proofs.CutTyping.{label_body, cut_leads}
use Rattle.stack_repair.proofs.Positions.{has_all, among_left, among_right, among_end, all_first}
use Rattle.stack_repair.proofs.Needed.{shows_of}
use Rattle.stack_repair.proofs.CodeBack.{code_back}
use Rattle.stack_repair.proofs.PlaceTypes.{types_exist, places_have_types, one_cut}
use Rattle.stack_repair.proofs.Heights.{numbered_body, shaped_of}

-- ---- lists

if_some : {A : Type 0} (o : Option A) (x : A) (P : A → Type 0) → o ≡ Some x → IfSome o P → P x
if_some None x P e h = absurd cc
if_some (Some y) x P e h = subst P (same e) h
  where
    same : {A : Type 0} {x y : A} → Some x ≡ Some y → x ≡ y
    same e = cc

pub at_of : {A : Type 0} (P : A → Type 0) (xs : List A) (i : ℕ) (x : A) → All P xs → slice_get xs i ≡ Some x → P x
at_of P xs i x all at = subst P (get_or_from_slice_get xs i x x at) (all i x (slice_get_within xs i x at))

-- P holds of each element
abbrev Each : {A : Type 0} → (A → Type 0) → List A → Type 0
Each P xs = (k : ℕ) (x : _) → slice_get xs k ≡ Some x → P x

some_same : {A : Type 0} {x y : A} → Some x ≡ Some y → x ≡ y
some_same e = cc

each_cons : {A : Type 0} (P : A → Type 0) (x : A) (xs : List A) → P x → Each P xs → Each P (x ∷ xs)
each_cons P x xs p h zero y at = subst P (some_same at) p
each_cons P x xs p h (suc k) y at = h k y at

each_append : {A : Type 0} (P : A → Type 0) (xs ys : List A) → Each P xs → Each P ys → Each P (xs ++ ys)
each_append P [] ys h g k x at = g k x at
each_append P (z ∷ xs) ys h g zero x at = h zero x at
each_append P (z ∷ xs) ys h g (suc k) x at = each_append P xs ys (λ j y a. h (suc j) y a) g k x at

-- ---- the context

types_integer : (ks : List ValType) → All IsInteger ks → Integers ks
types_integer [] h = tt
types_integer (k ∷ ks) h = (All-head IsInteger k ks h, types_integer ks (All-tail IsInteger k ks h))

runs_integer : (rs : List LocalRun) → All (λ (r : LocalRun). IsInteger r.kind) rs → All IsInteger (run_types rs)
runs_integer [] all = All-nil IsInteger
runs_integer (r ∷ rs) all =
    All-append IsInteger (replicate r.count r.kind) (run_types rs) (All-replicate IsInteger r.count r.kind (All-head (λ (x : LocalRun). IsInteger x.kind) r rs all)) (runs_integer rs (All-tail (λ (x : LocalRun). IsInteger x.kind) r rs all))

import_integer : (i : ImportKind) → IsIntegerImport i → Each (λ (g : GlobalType). IsInteger g.kind) (global_import i)
import_integer (import.Func type) h k g at = absurd cc
import_integer (import.Table l) h k g at = absurd cc
import_integer (import.Memory l) h k g at = absurd cc
import_integer (import.Global x) h k g at = each_cons (λ (g : GlobalType). IsInteger g.kind) x [] h (λ k g at. absurd cc) k g at

imports_integer : (is : List Import) → Each (λ (i : Import). IsIntegerImport i.kind) is
    → Each (λ (g : GlobalType). IsInteger g.kind) (imported global_import is)
imports_integer [] h k g at = absurd cc
imports_integer (i ∷ is) h k g at =
    each_append (λ (g : GlobalType). IsInteger g.kind) (global_import i.kind) (imported global_import is) (import_integer i.kind (h 0 i refl)) (imports_integer is (λ k x at. h (suc k) x at)) k g at

globals_integer : (gs : List GlobalDef) → Each (λ (g : GlobalDef). IsInteger g.kind.kind) gs
    → Each (λ (g : GlobalType). IsInteger g.kind) (map global_kind gs)
globals_integer [] h k g at = absurd cc
globals_integer (x ∷ gs) h k g at = each_cons (λ (g : GlobalType). IsInteger g.kind) x.kind (map global_kind gs) (h 0 x refl) (globals_integer gs (λ k y at. h (suc k) y at)) k g at

pub context_integer : (m : Module) → IsValid m → HasNoFloat m → (f : ℕ) (F : FuncType) (b : Body) → type_of_func m f ≡ Some F → HasBody m f b
    → IsIntegerContext (context_of m F b)
context_integer m valid nofl f F b at has = record {
  locals = λ x k get. at_of IsInteger (local_types F b) x k (All-append IsInteger F.params (run_types b.locals) params (runs_integer b.locals (nofl (part.FuncAt f) b has).0)) get;
  globals = each_append (λ (g : GlobalType). IsInteger g.kind) (imported global_import m.imports) (map global_kind m.globals)
      (imports_integer m.imports (λ k i get. if_some (slice_get m.imports k) i (λ (i : Import). IsIntegerImport i.kind) get (nofl (part.ImportAt k))))
      (globals_integer m.globals own);
  results = λ k G get. (
    if_some (slice_get m.types k) G (λ (t : FuncType). length t.results ≤ 1) get (valid.1 (part.TypeAt k)),
    types_integer G.results (if_some (slice_get m.types k) G IsIntegerFunc get (nofl (part.TypeAt k))).1,
  );
}
  where
    params : All IsInteger F.params
    params = let n = numbered m.types (slice_get (func_types m) f) F at in (if_some (slice_get m.types n.0) F IsIntegerFunc n.1 (nofl (part.TypeAt n.0))).0

    own : Each (λ (g : GlobalDef). IsInteger g.kind.kind) m.globals
    own j g get =
        let n = length (imported global_import m.imports) in
        let e : j ≡ n + j - n = omega arith in
        (nofl (part.GlobalAt (n + j)) g (omega arith) (subst (λ z. slice_get m.globals z ≡ Some g) e get)).0

-- ---- the result

result_values : (rs : List ValType) → length rs ≤ 1 → values_of (slice_get rs 0) ≡ rs
result_values [] le = refl
result_values (k ∷ []) le = refl
result_values (k ∷ j ∷ rs) le = absurd (omega arith)

result_arity : (rs : List ValType) → length rs ≤ 1 → arity (slice_get rs 0) ≡ length rs
result_arity [] le = refl
result_arity (k ∷ []) le = refl
result_arity (k ∷ j ∷ rs) le = absurd (omega arith)

result_integer : (rs : List ValType) → Integers rs → IsIntegerKind (slice_get rs 0)
result_integer [] i = tt
result_integer (k ∷ rs) i = i.0

-- ---- the body

-- what is known of the code of a body
pub record BodyCode (c : Context) (t : Option ValType) (code : Code) : Type 0 where
  pub numbers : IsIntegerContext c
  pub integer : IsIntegerCode code
  pub kind : IsIntegerKind t
  pub values : values_of t ≡ c.result
  pub arity : arity t ≡ length c.result
  pub leads : Leads c (c.result ∷ []) code [] (values_of t)

pub body_code : (m : Module) → IsValid m → HasNoFloat m → (f : ℕ) (F : FuncType) (b : Body) → type_of_func m f ≡ Some F → HasBody m f b
    → BodyCode (context_of m F b) (result_type F) (code_of b.code)
body_code m valid nofl f F b at has =
    let ok = context_integer m valid nofl f F b at has in
    let n = numbered m.types (slice_get (func_types m) f) F at in
    let r = ok.results n.0 F n.1 in
    let e = result_values F.results r.0 in
    record {
      numbers = ok;
      integer = (nofl (part.FuncAt f) b has).1;
      kind = result_integer F.results r.1;
      values = e;
      arity = result_arity F.results r.0;
      leads = subst (λ z. Leads (context_of m F b) (F.results ∷ []) (code_of b.code) [] z) (sym e) (valid.1 (part.FuncAt f) F b at has);
    }

pub typed_code : (c : Context) (t : Option ValType) (code : Code) (w : ℕ → Bool) (T : Node → ValType) → BodyCode c t code
    → TypesLive c T (marked w 0 code) 0 [] → Typed c T (c.result ∷ []) t (marked w 0 code) 0 []
typed_code c t code w T k ty =
    typed_of c k.numbers T (c.result ∷ []) t (marked w 0 code) 0 [] [] (by_kind w 0 code) (subst IsIntegerCode (sym (unmarked-marked w 0 code)) k.integer) tt refl
    (subst (λ z. Leads c (c.result ∷ []) z [] (values_of t)) (sym (unmarked-marked w 0 code)) k.leads) ty

pub code_leads : (c : Context) (t : Option ValType) (code : Code) (w : ℕ → Bool) (K P : Node → Bool) (T : Node → ValType) → BodyCode c t code
    → TypesLive c T (marked w 0 code) 0 []
    → HoldsNeeded (callees c.inside) (body_sites (callees c.inside) (length c.result) (marked w 0 code)) (body_ends (callees c.inside) (length c.result) (marked w 0 code)) K P
    → Leads c (c.result ∷ []) (unmarked (cut_body (callees c.inside) K P T t (marked w 0 code))) [] (values_of t)
code_leads c t code w K P T k ty has =
    let cs = callees c.inside in
    let n = length c.result in
    let d = marked w 0 code in
    let S = body_sites cs n d in
    let ends = body_ends cs n d in
    let e1 = one_end Exit n (end_names cs d 0 []) in
    let typed = typed_code c t code w T k ty in
    let lab = label_body c.result in
    cut_leads c K P T (n ∷ []) (c.result ∷ []) t d 0 [] lab k.kind typed
    (shows_of c S ends K P T has d (body_label n _ ∷ []) (c.result ∷ []) Exit t 0 [] lab (has_all [] S 0 refl) typed
    (λ ns e le. all_first P (arity t) ns le (λ x a. has x (at_exit _ (among_left e1 (inner_ends cs d 0 []) _ (among_end Exit n ns (end_names cs d 0 []) e)) refl (subst (λ z. (i : ℕ) × (i < z) × (slice_get ns i ≡ Some x)) k.arity a))))
    (λ z a. among_right e1 (inner_ends cs d 0 []) z a))

-- ---- the body's sites

pub live_body : (c : Context) (n : ℕ) (d : Marked) (T : Node → ValType) → TypesPlaces c (body_sites (callees c.inside) n d) T → TypesLive c T d 0 []
live_body c n d T ty = let S = body_sites (callees c.inside) n d in live_of c S T ty d (body_label n (size d) ∷ []) Exit 0 [] (has_all [] S 0 refl)

-- what is known of a body of a valid module, and of its cut
pub typed_body : (m : Module) (F : FuncType) (b : Body) → HasTypedBody m F b → BodyCode (context_of m F b) (result_type F) (code_of b.code)
typed_body m F b h = body_code m h.valid h.no_float h.func F b h.kind_is h.has_body

pub cut_leads_on : (m : Module) (F : FuncType) (b : Body) → HasTypedBody m F b → (w : ℕ → Bool) (K P : Node → Bool) (T : Node → ValType)
    → TypesPlaces (context_of m F b) (sites_in m F w b) T → HoldsNeeded (callees m) (sites_in m F w b) (ends_in m F w b) K P
    → Leads (context_of m F b) (F.results ∷ []) (unmarked (cut_body (callees m) K P T (result_type F) (watched_code w b))) [] (values_of (result_type F))
cut_leads_on m F b h w K P T ty needed =
    let c = context_of m F b in code_leads c (result_type F) (code_of b.code) w K P T (typed_body m F b h) (live_body c (length F.results) (watched_code w b) T ty) needed

pub cut_back : (m : Module) (F : FuncType) (b : Body) → HasTypedBody m F b → (w : ℕ → Bool) (K P : Node → Bool) (T : Node → ValType)
    → TypesPlaces (context_of m F b) (sites_in m F w b) T → HoldsNeeded (callees m) (sites_in m F w b) (ends_in m F w b) K P
    → code_of (with_cut (callees m) K P T w F b).code ≡ unmarked (cut_body (callees m) K P T (result_type F) (watched_code w b))
cut_back m F b h w K P T ty needed =
    code_back (context_of m F b) (F.results ∷ []) (unmarked (cut_body (callees m) K P T (result_type F) (watched_code w b))) [] (values_of (result_type F)) (cut_leads_on m F b h w K P T ty needed)

pub cut_is_valid : CutIsValid
cut_is_valid m F b h w K P T ty needed =
    let c = context_of m F b in
    let cut = unmarked (cut_body (callees m) K P T (result_type F) (watched_code w b)) in
    subst (λ z. Leads c (F.results ∷ []) z [] F.results) (sym (cut_back m F b h w K P T ty needed))
    (subst (λ z. Leads c (F.results ∷ []) cut [] z) (typed_body m F b h).values (cut_leads_on m F b h w K P T ty needed))

-- with any types of the places the cut is one
pub one_cut_code : (m : Module) (F : FuncType) (b : Body) → HasTypedBody m F b → (w : ℕ → Bool) (K P : Node → Bool) (T T' : Node → ValType)
    → TypesPlaces (context_of m F b) (sites_in m F w b) T → TypesPlaces (context_of m F b) (sites_in m F w b) T'
    → cut_body (callees m) K P T (result_type F) (watched_code w b) ≡ cut_body (callees m) K P T' (result_type F) (watched_code w b)
one_cut_code m F b h w K P T T' ty ty' =
    let c = context_of m F b in
    let d = watched_code w b in
    let n = length F.results in
    let typed = typed_code c (result_type F) (code_of b.code) w T (typed_body m F b h) (live_body c n d T ty) in
    one_cut c K P T T' (F.results ∷ []) (result_type F) d 0 [] typed (live_body c n d T' ty') refl

pub cut_is_one : CutIsOne
cut_is_one m F b h w K P T T' ty ty' = ap (λ z. record b { code = list_of (unmarked z) }) (one_cut_code m F b h w K P T T' ty ty')

-- the types of its places
pub types_of_body : (m : Module) (F : FuncType) (b : Body) (w : ℕ → Bool) → (T : Node → ValType) × TypesPlaces (context_of m F b) (sites_in m F w b) T
types_of_body m F b w = places_have_types (context_of m F b) (length F.results) (watched_code w b)

-- an own function's body stands among the bodies
pub has_own_body : (m : Module) (f : ℕ) (b : Body) → import_count m ≤ f → body_of m f ≡ Some b → HasBody m f b
has_own_body m f b le e = (le, go (nat_lt f (import_count m) || not (nat_lt f (length (func_types m)))) e)
  where
    go : (q : Bool) → (if q then None else slice_get m.bodies (f - import_count m)) ≡ Some b → slice_get m.bodies (f - import_count m) ≡ Some b
    go true e = absurd cc
    go false e = e

-- ---- heights

pub valid_has_heights : ValidHasHeights
valid_has_heights m F b h w =
    let c = context_of m F b in
    let d = watched_code w b in
    let k = typed_body m F b h in
    let t = types_exist c d in
    let ty = typed_code c (result_type F) (code_of b.code) w t.0 k t.1 in
    subst (λ z. Shaped (callees m) (HasTypes c) (length F.results ∷ []) z d 0) k.arity (shaped_of c t.0 (HasTypes c) (λ op s r h. (s, r, h)) (length F.results ∷ []) (F.results ∷ []) (result_type F) d 0 0 [] refl (numbered_body F.results) ty)
