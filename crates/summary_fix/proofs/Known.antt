-- What functions of a valid module write has a row, and what calls ask for has one.
use Rattle.std.proofs.Common.{◌≡◌, ℕ, suc, ◌+◌, ◌<◌, inl, inr, List, [], ◌∷◌, Bool, true, false, Option, Some, None, IsSome, nat_eq, nat_lt, if◌then◌else◌, length, slice_get, refl, sym, ap, ◌∙◌, subst, arith}
use Rattle.std.proofs.lemmas.Option.{slice_get_within}
use Rattle.wasm_types.specs.declared.module.ValType.{ValType}
use Rattle.wasm_types.specs.declared.module.FuncType.{FuncType}
use Rattle.wasm_types.specs.declared.module.GlobalType.{GlobalType}
use Rattle.wasm_types.specs.declared.module.Body.{Body}
use Rattle.wasm_types.specs.declared.module.Module.{Module}
use Rattle.wasm_types.specs.declared.place.Loc.{Loc}
use Rattle.wasm_types.specs.declared.place.Loc.TheVariants.{Local, Global, Mem, Size, Host}
use Rattle.wasm_types.specs.declared.instr.Instr.{Instr}
use Rattle.wasm_types.specs.declared.instr.Instr as instr
use Rattle.wasm_types.specs.Actions.{Callees, callees, Callee, Own, Through, Form, Plain, form_of, Task, NoTask, Acts, Asks, called_of, task_of}
use Rattle.wasm_types.specs.Locations.{writes_in}
use Rattle.wasm_types.specs.Hosts.{HostFunc, host_from, host_of, host_writes, is_seen, seen_from}
use Rattle.wasm_types.specs.Funcs.{Func, func_of, text, unwatched}
use Rattle.wasm_types.specs.Marked.{Marked, End, Do, Block, Loop, If, Br, BrIf, BrTable, Return, Unreachable}
use Rattle.wasm_types.specs.Labels.{arity}
use Rattle.wasm_types.specs.Nodes.{At}
use Rattle.wasm_types.specs.Reaching.{Writes, writes_it}
use Rattle.wasm_types.specs.Sites.{DoHead, Site, Sites, IsSite}
use Rattle.wasm_types.specs.Spaces.{globals_of, import_count, type_of_func}
use Rattle.wasm_types.specs.Subset.{HasNoFloat}
use Rattle.wasm_types.specs.Typing.{Context}
use Rattle.wasm_types.specs.Validity.{IsValid}
use Rattle.flow_domain.specs.Bounds.{Cover, bounds, called, written_by, writes_at, writes_of}
use Rattle.flow_domain.specs.Heights.{Shaped}
use Rattle.flow_domain.specs.Reach.{LiveIn, MayWrite, by_code, by_host, CalleeWrites, WritesExact}
use Rattle.flow_domain.specs.Rows.{Output, Ret, Final, Done}
use Rattle.flow_domain.specs.Sliced.{context_of, watched_code}
use Rattle.flow_domain.specs.Summaries.{IsKnown}
use Rattle.flow_domain.proofs.Summing.{among_is}
use Rattle.summary_fix.proofs.Owned.{parts}
use Rattle.stack_repair.specs.Law.{HasTypes}
use Rattle.stack_repair.proofs.Bodies.{valid_has_heights}
use Rattle.summary_fix.proofs.LiveSites.{same_site}

-- ---- what live instructions have

pub live_has : (cs : Callees) (X : Instr → Type 0) (code : Marked) (ls : List ℕ) (t n : ℕ) (op : Instr) → Shaped cs X ls t code n → LiveIn op code → X op
live_has cs X End ls t n op s l = absurd l
live_has cs X (Do m o rest) ls t n op s (inl e) = subst X e s.1
live_has cs X (Do m o rest) ls t n op s (inr l) = live_has cs X rest ls t _ op s.3 l
live_has cs X (Block m k body rest) ls t n op s (inl l) = live_has cs X body _ (arity k) 0 op s.0 l
live_has cs X (Block m k body rest) ls t n op s (inr l) = live_has cs X rest ls t _ op s.1 l
live_has cs X (Loop m k body rest) ls t n op s (inl l) = live_has cs X body _ (arity k) 0 op s.0 l
live_has cs X (Loop m k body rest) ls t n op s (inr l) = live_has cs X rest ls t _ op s.1 l
live_has cs X (If m k x y rest) ls t n op s (inl l) = live_has cs X x _ (arity k) 0 op s.1 l
live_has cs X (If m k x y rest) ls t n op s (inr (inl l)) = live_has cs X y _ (arity k) 0 op s.2 l
live_has cs X (If m k x y rest) ls t n op s (inr (inr l)) = live_has cs X rest ls t _ op s.3 l
live_has cs X (Br m k rest) ls t n op s l = absurd l
live_has cs X (BrIf m k rest) ls t n op s l = live_has cs X rest ls t _ op s.2 l
live_has cs X (BrTable m labels other rest) ls t n op s l = absurd l
live_has cs X (Return m rest) ls t n op s l = absurd l
live_has cs X (Unreachable m rest) ls t n op s l = absurd l

-- a live instruction of a valid body has types
record IsTyped (m : Module) (op : Instr) : Type 0 where
  pub kind : FuncType
  pub body : Body
  pub types : HasTypes (context_of m kind body) op

live_typed : (m : Module) → IsValid m → HasNoFloat m → (f : ℕ) (F : Func) (op : Instr) → func_of m f ≡ Some F → LiveIn op (text F) → IsTyped m op
live_typed m valid integer f F op is live =
    let p = parts m f F is in
    let shaped =
    valid_has_heights m p.kind p.body (record { valid = valid; no_float = integer; func = f; kind_is = p.kind_is; has_body = p.has }) unwatched in
    record {
      kind = p.kind;
      body = p.body;
      types = live_has (callees m) (HasTypes (context_of m p.kind p.body)) (watched_code unwatched p.body) _ _ 0 op shaped
          (subst (λ (z : Func). LiveIn op (text z)) (sym p.is) live);
    }

-- ---- globals that are written

abbrev form_writes : Form → Loc → Bool
form_writes (Plain a) x = writes_in a x
form_writes _ x = false

nat_is : (x y : ℕ) → nat_eq x y ≡ true → x ≡ y
nat_is x y e = grind arith

set_global : (c : Context) (op : Instr) (k : ℕ) → form_writes (form_of op) (Global k) ≡ true → HasTypes c op → k < length (globals_of c.inside)
set_global c (instr.GlobalSet j) k e h =
    let ty = h.2 in subst (λ n. n < length (globals_of c.inside)) (nat_is j k e) (slice_get_within (globals_of c.inside) j ty.0 ty.1)
set_global c _ k e h = absurd cc

seen_long : (m : Module) (k : ℕ) (gs : List GlobalType) → length (seen_from m k gs) ≡ length gs
seen_long m k [] = refl
seen_long m k (g ∷ gs) = ap suc (seen_long m (k + 1) gs)

seen_within : (xs : List (Option ValType)) (k : ℕ) → is_seen (slice_get xs k) ≡ true → k < length xs
seen_within xs k e = go (slice_get xs k) refl e
  where
    go : (o : Option (Option ValType)) → slice_get xs k ≡ o → is_seen o ≡ true → k < length xs
    go None at e = absurd cc
    go (Some x) at e = slice_get_within xs k x at

globals_or : List (Option ValType) → Option HostFunc → List (Option ValType)
globals_or d None = d
globals_or d (Some H) = H.globals

globals_are : (a b : HostFunc) → Some a ≡ Some b → b.globals ≡ a.globals
unfolding globals_or
globals_are a b e = sym (ap (globals_or a.globals) e)

host_globals : (m : Module) (f : ℕ) (H : HostFunc) → host_of m f ≡ Some H → H.globals ≡ seen_from m 0 (globals_of m)
host_globals m f H e = go (nat_lt f (import_count m)) (type_of_func m f) e
  where
    go : (b : Bool) (o : Option FuncType) → (if b then host_from m f o else None) ≡ Some H → H.globals ≡ seen_from m 0 (globals_of m)
    go false o e = absurd cc
    go true None e = absurd cc
    go true (Some t) e = globals_are _ H e

pub host_global : (m : Module) (f : ℕ) (H : HostFunc) (k : ℕ) → host_of m f ≡ Some H → host_writes H (Global k) ≡ true → k < length (globals_of m)
host_global m f H k is on =
    let long : length H.globals ≡ length (globals_of m) = ap length (host_globals m f H is) ∙ seen_long m 0 (globals_of m) in
    let lt = seen_within H.globals k on in omega arith

global_known : (G k : ℕ) → k < G → IsKnown G (Final (Global k))
global_known G k lt = subst IsSome (sym (among_is 5 G k lt)) refl

-- what a function writes is known
pub write_known : (m : Module) → IsValid m → HasNoFloat m → (f : ℕ) (x : Loc) → MayWrite m f x → IsKnown (length (globals_of m)) (Final x)
write_known m valid integer f Mem w = refl
write_known m valid integer f Size w = refl
write_known m valid integer f Host w = refl
write_known m valid integer f (Local k) (by_code g F op a r is live form on out) = absurd cc
write_known m valid integer f (Local k) (by_host g H r is on) = absurd cc
write_known m valid integer f (Global k) (by_code g F op a r is live form on out) =
    let t = live_typed m valid integer g F op is live in
    global_known (length (globals_of m)) k (set_global (context_of m t.kind t.body) op k (ap (λ z. form_writes z (Global k)) form ∙ on) t.types)
write_known m valid integer f (Global k) (by_host g H r is on) = global_known (length (globals_of m)) k (host_global m g H k is on)

-- ---- what calls ask for

call_writes : (W : Cover) (t : Task) (g : Callee) (x : Loc) → called_of t ≡ Some g → writes_of W t x ≡ true → W.writes g x ≡ true
call_writes W NoTask g x e on = absurd cc
call_writes W (Acts a) g x e on = absurd cc
call_writes W (Asks h n r) g x e on = let same : h ≡ g = cc in subst (λ z. W.writes z x ≡ true) same on

callee_known : (m : Module) → IsValid m → HasNoFloat m → (g : Callee) (x : Loc) → CalleeWrites m g x → IsKnown (length (globals_of m)) (Final x)
callee_known m valid integer (Own f) x w = write_known m valid integer f x w
callee_known m valid integer (Through t n) x w = write_known m valid integer w.0 x w.2

module _ (m : Module) (valid : IsValid m) (integer : HasNoFloat m) (W : Cover) (exact : WritesExact m W) where
  -- what a node is asked for at a position
  abbrev pub Asked : Sites → ℕ → Output → Type 0
  Asked S p Ret = Unit {0}
  Asked S p Done = Unit {0}
  Asked S p (Final x) = Writes (written_by (bounds m W) S) x (At p)

  -- what is asked of a call is known
  pub asked_known : (S : Sites) (p : ℕ) (s : Site) (op : Instr) (g : Callee) (out : Output) → IsSite S p s → s.head ≡ DoHead op
      → called (bounds m W) op ≡ Some g → Asked S p out → IsKnown (length (globals_of m)) out
  asked_known S p s op g Ret is head called a = refl
  asked_known S p s op g Done is head called a = refl
  asked_known S p s op g (Final x) is head called (writes_it w) =
      let same : w.0 ≡ s = same_site S p w.0 s w.1 is in
      let on : writes_at (bounds m W) (DoHead op) x ≡ true =
      subst (λ h. writes_at (bounds m W) h x ≡ true) head (subst (λ (z : Site). writes_at (bounds m W) z.head x ≡ true) same w.2) in
      callee_known m valid integer g x ((exact g x).0 (call_writes W (task_of (callees m) op) g x called on))
