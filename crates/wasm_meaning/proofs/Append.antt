-- Appended functions change no run of code that calls the old ones: an entry of a table that fits the old module is an old function.
use Rattle.std.proofs.Common.{◌≡◌, ◌↔◌, ℕ, zero, suc, ◌+◌, ◌-◌, ◌<◌, ◌≤◌, ◌⊎◌, inl, inr, ◌||◌, ◌&&◌, ◌==◌, not, List, [], ◌∷◌, ◌++◌, Bool, true, false, Option, Some, None, IfSome, nat_eq, nat_lt, if◌then◌else◌, take, length, reverse, slice_get, get_or, Any, Contains, refl, sym, ap, ap₂, ◌∙◌, subst, arith, length-append, append_assoc}
use Rattle.std.proofs.Math.Path.{fun_ext}
use Rattle.std.specs.List.{list_any}
use Rattle.std.proofs.lemmas.List.Elements.{All-head, All-tail}
use Rattle.std.proofs.lemmas.Option.{slice_get_within, get_or_from_slice_get}
use Rattle.wasm_types.specs.declared.module.ValType.{ValType}
use Rattle.wasm_types.specs.declared.module.Value.{Value}
use Rattle.wasm_types.specs.declared.module.FuncType.{FuncType}
use Rattle.wasm_types.specs.declared.module.Body.{Body}
use Rattle.wasm_types.specs.declared.module.GlobalType.{GlobalType}
use Rattle.wasm_types.specs.declared.module.Elem.{Elem}
use Rattle.wasm_types.specs.declared.module.Export.{Export}
use Rattle.wasm_types.specs.declared.module.ExportKind.TheVariants as export
use Rattle.wasm_types.specs.declared.module.Module.{Module}
use Rattle.wasm_types.specs.declared.place.Part.TheVariants as part
use Rattle.wasm_types.specs.declared.run.Event.{Event}
use Rattle.wasm_types.specs.declared.run.Event.TheVariants.{Take}
use Rattle.wasm_types.specs.declared.run.Ended.{Ended}
use Rattle.wasm_types.specs.declared.run.Ended.TheVariants as ended
use Rattle.wasm_types.specs.declared.instr.Instr.{Instr}
use Rattle.wasm_types.specs.declared.instr.Instr as instr
use Rattle.wasm_types.specs.Code.{Code, done, one, block, repeat, branch, count, code_of}
use Rattle.wasm_types.specs.Marked.{Marked, End, Do, Block, Loop, If, Br, BrIf, BrTable, Return, Unreachable, plain, marked}
use Rattle.wasm_types.specs.Spaces.{global_import, memory_import, imported, func_import, import_count, func_types, type_numbered, type_of_func, body_of, globals_of, HasBody, local_types}
use Rattle.wasm_types.specs.Typing.{Context}
use Rattle.wasm_types.specs.Validity.{Passes, Leads, IsValid}
use Rattle.wasm_types.specs.Actions.{callees, Through, Form, NoForm, Plain, CallOf, CallBy, form_of, own_task, table_task, task_by, takes, takes_of}
use Rattle.wasm_types.specs.Labels.{arity, carried}
use Rattle.wasm_types.specs.Hosts.{is_memory, is_global, memory_visible, global_visible, seen_from, TableVisible, IsFunction, MayStand, HostFunc, host_from, host_of}
use Rattle.wasm_types.specs.Funcs.{Func, func_from, func_of, unwatched}
use Rattle.wasm_meaning.specs.State.{State, Store}
use Rattle.wasm_meaning.specs.Stops.{Stuck}
use Rattle.wasm_types.specs.declared.run.Reason.TheVariants.{WrongType}
use Rattle.wasm_meaning.specs.Operations.{number_of}
use Rattle.wasm_meaning.specs.Fits.{Fits}
use Rattle.wasm_meaning.specs.Effects.{Fixed, fixed, same_type, Answer, Stops, Finds, Fails, found_at, found_by, call_found, perform, do_task}
use Rattle.wasm_meaning.specs.Run.{Here, Branch, Run, ends, after, seen, then_do, at_stack, leave, again, do_step, if_zero, on_top, Below, run, turned}
use Rattle.wasm_meaning.specs.Invoke.{call_by, call_own, entered, returned, nested, Invoked, alone, invoked_own, invoked_by, invocation, Ending, EndsAs, Ends, HasOutcome}
use Rattle.wasm_meaning.proofs.Values.{some_same, none_some}
use Rattle.wasm_meaning.specs.Appended.{appended, AreFunctions, OldForm, AllOld, AppendedKeep}

-- ---- what a valid module gives

-- each function has a body, which calls functions of the module
record IsWhole (m : Module) : Type 0 where
  pub bodies : length m.bodies ≡ length m.funcs
  pub old : (f : ℕ) (F : Func) → func_of m f ≡ Some F → (watched : ℕ → Bool) (p : ℕ) → AllOld m (marked watched p F.code)

known : (m : Module) (f : ℕ) (F : FuncType) → type_of_func m f ≡ Some F → IsFunction m f
known m f F e = go (slice_get (func_types m) f) refl e
  where
    go : (o : Option ℕ) → slice_get (func_types m) f ≡ o → type_numbered m.types o ≡ Some F → IsFunction m f
    go None at e = none_some e
    go (Some t) at e = slice_get_within (func_types m) f t at

old_leaf : (c : Context) (ls : List (List ValType)) (op : Instr) (s s' : List ValType) (mark : Bool) (rest : Marked) → Passes c ls op s s'
    → AllOld c.inside rest → AllOld c.inside (plain mark op rest)
old_leaf c ls (instr.Br l) s s' mark rest h o = tt
old_leaf c ls (instr.BrIf l) s s' mark rest h o = o
old_leaf c ls (instr.BrTable labels other) s s' mark rest h o = tt
old_leaf c ls instr.Return s s' mark rest h o = tt
old_leaf c ls instr.Unreachable s s' mark rest h o = tt
old_leaf c ls (instr.Call f) s s' mark rest (t, l, r, (F, at, ty), _, _) o = (known c.inside f F at, o)
old_leaf c ls _ s s' mark rest h o = (tt, o)

pub old_leads : (c : Context) (ls : List (List ValType)) (code : Code) (s s' : List ValType) → Leads c ls code s s' → (watched : ℕ → Bool) (p : ℕ)
    → AllOld c.inside (marked watched p code)
old_leads c ls done s s' h w p = tt
old_leads c ls (one op rest) s s' (mid, q, h) w p = old_leaf c ls op s mid (w p) (marked w (p + 1) rest) q (old_leads c ls rest mid s' h w (p + 1))
old_leads c ls (block kind inner rest) s s' h w p = (old_leads c _ inner _ _ h.0 w (p + 1), old_leads c ls rest _ s' h.1 w (p + 1 + count inner))
old_leads c ls (repeat kind inner rest) s s' h w p = (old_leads c _ inner _ _ h.0 w (p + 1), old_leads c ls rest _ s' h.1 w (p + 1 + count inner))
old_leads c ls (branch kind x y rest) s s' (r, f, hx, hy, h) w p =
    (old_leads c _ x _ _ hx w (p + 1), old_leads c _ y _ _ hy w (p + 1 + count x), old_leads c ls rest _ s' h w (p + 1 + count x + count y))

has_body : (m : Module) (f : ℕ) (b : Body) → body_of m f ≡ Some b → HasBody m f b
has_body m f b e = go (nat_lt f (import_count m)) (nat_lt f (length (func_types m))) refl e
  where
    not_below : (x y : ℕ) → nat_lt x y ≡ false → y ≤ x
    not_below x y e = grind arith

    go : (q w : Bool) → nat_lt f (import_count m) ≡ q → (if q || not w then None else slice_get m.bodies (f - import_count m)) ≡ Some b → HasBody m f b
    go true w at e = none_some e
    go false true at e = (not_below f (import_count m) at, e)
    go false false at e = none_some e

whole_of : (m : Module) → IsValid m → IsWhole m
whole_of m valid = record { bodies = sym valid.0.same; old = λ f F e w p. go f F (type_of_func m f) (body_of m f) refl refl e w p }
  where
    go : (f : ℕ) (F : Func) (o : Option FuncType) (q : Option Body) → type_of_func m f ≡ o → body_of m f ≡ q → func_from o q ≡ Some F
        → (watched : ℕ → Bool) (p : ℕ) → AllOld m (marked watched p F.code)
    go f F None None a c e w p = none_some e
    go f F None (Some b) a c e w p = none_some e
    go f F (Some t) None a c e w p = none_some e
    go f F (Some t) (Some b) a c e w p =
        subst (λ (z : Func). AllOld m (marked w p z.code)) (some_same e)
        (old_leads (record { inside = m; locals = local_types t b; result = t.results }) (t.results ∷ []) (code_of b.code) [] t.results
        (valid.1 (part.FuncAt f) t b a (has_body m f b c)) w p)

-- ---- what the host sees

none_of : (test : Export → Bool) (xs : List Export) → ((e : Export) → e.kind ≡ export.Func → test e ≡ false) → AreFunctions xs → list_any test xs ≡ false
none_of test [] off all = refl
none_of test (x ∷ xs) off all =
    let P : Export → Type 0 = λ (e : Export). e.kind ≡ export.Func in
    ap₂ {A = Bool} {B = Bool} (λ a b. a || b) (off x (All-head P x xs all)) (none_of test xs off (All-tail P x xs all))

any_front : (test : Export → Bool) (xs ys : List Export) → list_any test ys ≡ false → list_any test (xs ++ ys) ≡ list_any test xs
any_front test [] ys e = e
any_front test (x ∷ xs) ys e = ap (λ z. test x || z) (any_front test xs ys e)

no_memory : (e : Export) → e.kind ≡ export.Func → is_memory e.kind ≡ false
no_memory e q = ap is_memory q

no_global : (k : ℕ) (e : Export) → e.kind ≡ export.Func → (is_global e.kind && (e.index == k)) ≡ false
no_global k e q = ap (λ z. is_global z && (e.index == k)) q

any_longer : {A : Type 0} (P : A → Type 0) (xs ys : List A) → Any P xs → Any P (xs ++ ys)
any_longer {A} P xs ys (k, x, lt, is, p) = let l = length-append xs ys in (k, x, omega arith, front xs k x lt ∙ is, p)
  where
    front : (xs : List A) (k : ℕ) (d : A) → k < length xs → get_or (xs ++ ys) k d ≡ get_or xs k d
    front [] k d lt = absurd (omega arith)
    front (x ∷ xs) zero d lt = refl
    front (x ∷ xs) (suc k) d lt = front xs k d (omega arith)

get_front : {A : Type 0} (xs ys : List A) (k : ℕ) → k < length xs → slice_get (xs ++ ys) k ≡ slice_get xs k
get_front [] ys k lt = absurd (omega arith)
get_front (x ∷ xs) ys zero lt = refl
get_front (x ∷ xs) ys (suc k) lt = get_front xs ys k (omega arith)

lt_on : (x y : ℕ) → x < y → nat_lt x y ≡ true
lt_on x y e = grind arith

-- what is known of a function of the old module is as before
module _ (m : Module) (whole : IsWhole m) (types : List ℕ) (bodies : List Body) (exports : List Export) (only : AreFunctions exports) where
  abbrev m' : Module
  m' = appended m types bodies exports

  longer_types : func_types m' ≡ func_types m ++ types
  longer_types = sym (append_assoc (imported func_import m.imports) m.funcs types)

  type_same : (f : ℕ) → IsFunction m f → type_of_func m' f ≡ type_of_func m f
  type_same f old = ap (type_numbered m.types) (ap (λ z. slice_get z f) longer_types ∙ get_front (func_types m) types f old)

  body_in : (f : ℕ) → IsFunction m f → (q : Bool) → nat_lt f (import_count m) ≡ q
      → (if q || false then None else slice_get (m.bodies ++ bodies) (f - import_count m)) ≡
      (if q || false then None else slice_get m.bodies (f - import_count m))
  body_in f old true e = refl
  body_in f old false e =
      let b = whole.bodies in
      let n : import_count m ≡ length (imported func_import m.imports) = refl in
      let l = length-append (imported func_import m.imports) m.funcs in
      get_front m.bodies bodies (f - import_count m) (sub_less f (import_count m) (length m.bodies) (omega arith) (not_lt f (import_count m) e))
    where
      not_lt : (x y : ℕ) → nat_lt x y ≡ false → x < y → ⊥
      not_lt x y e lt = grind arith

      sub_less : (x y z : ℕ) → x < y + z → (x < y → ⊥) → x - y < z
      sub_less x y z lt off = grind arith

  body_same : (f : ℕ) → IsFunction m f → body_of m' f ≡ body_of m f
  body_same f old =
      let l = length-append (func_types m) types in
      let long : length (func_types m') ≡ length (func_types m) + length types = ap length longer_types ∙ l in
      let a : nat_lt f (length (func_types m')) ≡ true = lt_on f (length (func_types m')) (omega arith) in
      let b : nat_lt f (length (func_types m)) ≡ true = lt_on f (length (func_types m)) old in
      ap (λ z. if nat_lt f (import_count m) || not z then None else slice_get (m.bodies ++ bodies) (f - import_count m)) a
      ∙ body_in f old (nat_lt f (import_count m)) refl
      ∙ sym (ap (λ z. if nat_lt f (import_count m) || not z then None else slice_get m.bodies (f - import_count m)) b)

  func_same : (f : ℕ) → IsFunction m f → func_of m' f ≡ func_of m f
  func_same f old = ap₂ {A = Option FuncType} {B = Option Body} func_from (type_same f old) (body_same f old)

  memory_same : memory_visible m' ≡ memory_visible m
  memory_same =
      ap (λ z. nat_lt 0 (length (imported memory_import m.imports)) || z)
      (any_front (λ (e : Export). is_memory e.kind) m.exports exports (none_of (λ (e : Export). is_memory e.kind) exports no_memory only))

  global_same : (k : ℕ) (g : GlobalType) → global_visible m' k g ≡ global_visible m k g
  global_same k g =
      let test : Export → Bool = λ (e : Export). is_global e.kind && (e.index == k) in
      ap (λ z. g.mutable && (nat_lt k (length (imported global_import m.imports)) || z))
      (any_front test m.exports exports (none_of test exports (no_global k) only))

  seen_same : (k : ℕ) (gs : List GlobalType) → seen_from m' k gs ≡ seen_from m k gs
  seen_same k [] = refl
  seen_same k (g ∷ gs) = ap₂ {A = Bool} {B = List (Option ValType)} (λ b r. (if b then Some g.kind else None) ∷ r) (global_same k g) (seen_same (k + 1) gs)

  host_same : (f : ℕ) → IsFunction m f → host_of m' f ≡ host_of m f
  host_same f old = ap (λ z. if nat_lt f (import_count m) then z else None) (ap (host_from m' f) (type_same f old) ∙ by_type (type_of_func m f))
    where
      by_type : (o : Option FuncType) → host_from m' f o ≡ host_from m f o
      by_type None = refl
      by_type (Some t) =
          ap₂ {A = List (Option ValType)} {B = Bool} (λ x y. Some (record { import = f; kind = t; globals = x; memory = y }))
          (seen_same 0 (globals_of m)) memory_same

  still_function : (f : ℕ) → IsFunction m f → IsFunction m' f
  still_function f old =
      let l = length-append (func_types m) types in let long : length (func_types m') ≡ length (func_types m) + length types = ap length longer_types ∙ l in
      omega arith

  still_stands : (f : ℕ) → MayStand m f → MayStand m' f
  still_stands f h = (still_function f h.0, go h.1)
    where
      go : Any (λ (e : Elem). Contains e.funcs f) m.elems ⊎ TableVisible m → Any (λ (e : Elem). Contains e.funcs f) m.elems ⊎ TableVisible m'
      go (inl a) = inl a
      go (inr (inl a)) = inr (inl a)
      go (inr (inr a)) = inr (inr (any_longer (λ (e : Export). e.kind ≡ export.Table) m.exports exports a))

  still_entry : (entry : Option ℕ) → IfSome entry (MayStand m) → IfSome entry (MayStand m')
  still_entry None h = tt
  still_entry (Some f) h = still_stands f h

  still_fits : (s : State) → Fits m s → Fits m' s
  still_fits s f = record {
    globals = f.globals;
    pages = f.pages;
    below_cap = f.below_cap;
    below_maximum = f.below_maximum;
    long = f.long;
    bytes = f.bytes;
    table = λ k d lt. still_entry _ (f.table k d lt);
  }

  module _ (s0 : State) (fit : Fits m s0) where
    abbrev Z : Fixed
    Z = fixed m s0

    abbrev Z' : Fixed
    Z' = fixed m' s0

    entry_of : (i f : ℕ) → slice_get s0.table i ≡ Some (Some f) → MayStand m f
    entry_of i f e =
        subst (λ z. IfSome z (MayStand m)) (get_or_from_slice_get s0.table i (Some f) (Some f) e)
        (fit.table i (Some f) (slice_get_within s0.table i (Some f) e))

    record SameBelow (b b' : Below) : Type 0 where
      pub call : (f : ℕ) → IsFunction m f → (vs : List Value) (st : Store) → b'.call f vs st ≡ b.call f vs st
      pub lap : (ls : List ℕ) (body : Marked) → AllOld m body → (h : Here) → b'.lap ls body h ≡ b.lap ls body h

    same_perform : (b b' : Below) → SameBelow b b' → (t n : ℕ) (vs : List Value) (st : Store)
        → perform Z' b'.call (Through t n) vs st ≡ perform Z b.call (Through t n) vs st
    same_perform b b' s t n [] st = refl
    same_perform b b' s t n (i ∷ vs) st = by_entry (slice_get s0.table (number_of i)) refl
      where
        by_kind : (f : ℕ) → IsFunction m f → (q : Bool)
            → call_found b'.call (if q then Finds f else Fails WrongType) vs st ≡ call_found b.call (if q then Finds f else Fails WrongType) vs st
        by_kind f old true = s.call f old vs st
        by_kind f old false = refl

        by_types : (f : ℕ) → IsFunction m f → (o w : Option FuncType) → call_found b'.call (found_by f o w) vs st ≡ call_found b.call (found_by f o w) vs st
        by_types f old None None = refl
        by_types f old None (Some U) = refl
        by_types f old (Some T) None = refl
        by_types f old (Some T) (Some U) = by_kind f old (same_type T U)

        by_entry : (o : Option (Option ℕ)) → slice_get s0.table (number_of i) ≡ o
            → call_found b'.call (found_at (callees m') t o) vs st ≡ call_found b.call (found_at (callees m) t o) vs st
        by_entry None e = refl
        by_entry (Some None) e = refl
        by_entry (Some (Some f)) e =
            let old = (entry_of (number_of i) f e).0 in
            ap (λ z. call_found b'.call (found_by f z (slice_get m.types t)) vs st) (type_same f old) ∙ by_types f old (type_of_func m f) (slice_get m.types t)

    -- an instruction is the same task
    same_task : (fm : Form) → OldForm m fm → task_by (callees m') fm ≡ task_by (callees m) fm
    same_task NoForm o = refl
    same_task (Plain a) o = refl
    same_task (CallOf f) o = ap (own_task f) (type_same f o)
    same_task (CallBy t) o = refl

    -- and its effect is the same
    same_does : (b b' : Below) → SameBelow b b' → (fm : Form) → OldForm m fm → (vs : List Value) (st : Store)
        → do_task Z' b'.call (task_by (callees m) fm) vs st ≡ do_task Z b.call (task_by (callees m) fm) vs st
    same_does b b' s NoForm o vs st = refl
    same_does b b' s (Plain a) o vs st = refl
    same_does b b' s (CallOf f) o vs st = go (type_of_func m f)
      where
        go : (w : Option FuncType) → do_task Z' b'.call (own_task f w) vs st ≡ do_task Z b.call (own_task f w) vs st
        go None = refl
        go (Some t) = ap (λ z. if nat_eq (length vs) (length t.params) then z else Stops Stuck st.state) (s.call f o vs st)
    same_does b b' s (CallBy t) o vs st = go (slice_get m.types t)
      where
        go : (w : Option FuncType) → do_task Z' b'.call (table_task t w) vs st ≡ do_task Z b.call (table_task t w) vs st
        go None = refl
        go (Some u) = ap (λ z. if nat_eq (length vs) (suc (length u.params)) then z else Stops Stuck st.state) (same_perform b b' s t (length u.params) vs st)

    same_run : (b b' : Below) → SameBelow b b' → (code : Marked) → AllOld m code → (ls : List ℕ) (h : Here) → run Z' b' ls code h ≡ run Z b ls code h
    same_run b b' s End o ls h = refl
    same_run b b' s (Do k op rest) o ls h =
        ap (λ z. do_step k (takes_of z) h (do_task Z' b'.call z (take (takes_of z) h.stack) h.store) (run Z' b' ls rest)) (same_task (form_of op) o.0)
        ∙ ap₂ {A = Answer} {B = Here → Run} (λ e go. do_step k (takes (callees m) op) h e go)
        (same_does b b' s (form_of op) o.0 (take (takes (callees m) op) h.stack) h.store) (fun_ext (λ h1. same_run b b' s rest o.1 ls h1))
    same_run b b' s (Block k t body rest) o ls h =
        ap₂ {A = Run} {B = Here → Run} (λ r go. after (seen k (Take [] ∷ [])) (then_do (leave h.stack r) go))
        (same_run b b' s body o.0 (arity t ∷ ls) (at_stack [] h)) (fun_ext (λ h1. same_run b b' s rest o.1 ls h1))
    same_run b b' s (Loop k t body rest) o ls h =
        ap₂ {A = Run} {B = Here → Run} (λ r go. after (seen k (Take [] ∷ [])) (then_do (leave h.stack r) go))
        (ap₂ {A = Run} {B = Here → Run} (λ r go. again r go) (same_run b b' s body o.0 (0 ∷ ls) (at_stack [] h)) (fun_ext (λ h1. s.lap ls body o.0 h1)))
        (fun_ext (λ h1. same_run b b' s rest o.1 ls h1))
    same_run b b' s (If k t x y rest) o ls h =
        ap (λ go. on_top h h.stack go) (fun_ext (λ v. fun_ext (λ st.
        ap₂ {A = Run} {B = Here → Run} (λ r go. after (seen k (Take (v ∷ []) ∷ [])) (then_do (leave st r) go))
        (ap₂ {A = Run} {B = Run} (λ a c. if_zero (number_of v) a c) (same_run b b' s y o.1 (arity t ∷ ls) (at_stack [] h))
        (same_run b b' s x o.0 (arity t ∷ ls) (at_stack [] h)))
        (fun_ext (λ h1. same_run b b' s rest o.2 ls h1)))))
    same_run b b' s (Br k l rest) o ls h = refl
    same_run b b' s (BrIf k l rest) o ls h =
        ap {A = Here → Run} {B = Run}
        (λ go. on_top h h.stack
        (λ v st. after (seen k (Take (reverse (take (carried ls l + 1) h.stack)) ∷ []))
        (if_zero (number_of v) (go (at_stack st h)) (ends (Branch l) (at_stack (take (carried ls l) st) h)))))
        (fun_ext (λ h1. same_run b b' s rest o ls h1))
    same_run b b' s (BrTable k labels other rest) o ls h = refl
    same_run b b' s (Return k rest) o ls h = refl
    same_run b b' s (Unreachable k rest) o ls h = refl

    same_own : (b b' : Below) → SameBelow b b' → (f : ℕ) (o : Option Func) → func_of m f ≡ o → (vs : List Value) (st : Store)
        → call_own Z' b' o vs st ≡ call_own Z b o vs st
    same_own b b' s f None e vs st = refl
    same_own b b' s f (Some F) e vs st =
        ap (λ (r : Run). returned r.outcome st r.there)
        (same_run b b' s (marked unwatched 0 F.code) (whole.old f F e unwatched 0) (F.results ∷ []) (entered F (reverse vs) st.state))

    same_by : (b b' : Below) → SameBelow b b' → (f : ℕ) → IsFunction m f → (w : Option HostFunc) (vs : List Value) (st : Store)
        → call_by Z' b' w f vs st ≡ call_by Z b w f vs st
    same_by b b' s f old None vs st = ap (λ z. call_own Z' b' z vs st) (func_same f old) ∙ same_own b b' s f (func_of m f) refl vs st
    same_by b b' s f old (Some H) vs st = refl

    same_below : (n : ℕ) → SameBelow (nested Z n) (nested Z' n)
    same_below zero = record { call = λ f old vs st. refl; lap = λ ls body o h. refl }
    same_below (suc n) =
        let b = nested Z n in
        let b' = nested Z' n in
        let s = same_below n in
        record {
          call = λ f old vs st. ap (λ z. call_by Z' b' z f vs (turned st)) (host_same f old) ∙ same_by b b' s f old (host_of m f) vs (turned st);
          lap = λ ls body o h. ap₂ {A = Run} {B = Here → Run} (λ r go. again r go) (same_run b b' s body o (0 ∷ ls) h) (fun_ext (λ h1. s.lap ls body o h1));
        }

    -- ---- invocations

    same_invoked_own : (n : ℕ) (watched : ℕ → Bool) (f : ℕ) (o : Option Func) → func_of m f ≡ o → (args : List Value) (st : Store)
        → invoked_own Z' (nested Z' n) watched o args st ≡ invoked_own Z (nested Z n) watched o args st
    same_invoked_own n watched f None e args st = refl
    same_invoked_own n watched f (Some F) e args st =
        ap {B = Invoked} (λ (r : Run). record { answer = returned r.outcome st r.there; events = r.events })
        (same_run (nested Z n) (nested Z' n) (same_below n) (marked watched 0 F.code) (whole.old f F e watched 0) (F.results ∷ []) (entered F args st.state))

    same_invoked : (n : ℕ) (watched : ℕ → Bool) (f : ℕ) → IsFunction m f → (w : Option HostFunc) (args : List Value) (st : Store)
        → invoked_by Z' (nested Z' n) watched w f args st ≡ invoked_by Z (nested Z n) watched w f args st
    same_invoked n watched f old None args st =
        ap (λ z. invoked_own Z' (nested Z' n) watched z args st) (func_same f old) ∙ same_invoked_own n watched f (func_of m f) refl args st
    same_invoked n watched f old (Some H) args st = refl

    same_invocation : (f : ℕ) → IsFunction m f → (n : ℕ) (watched : ℕ → Bool) (args : List Value)
        → invocation m' n watched f args s0 ≡ invocation m n watched f args s0
    same_invocation f old n watched args =
        ap (λ z. invoked_by Z' (nested Z' n) watched z f args (alone s0)) (host_same f old) ∙ same_invoked n watched f old (host_of m f) args (alone s0)

    same_ends : (f : ℕ) → IsFunction m f → (i : ℕ) (args : List Value) (ending : Ending) (last : State) (events : List Event)
        → Ends m' f i args s0 ending last events ↔ Ends m f i args s0 ending last events
    same_ends f old i args ending last events = (there, here)
      where
        there : Ends m' f i args s0 ending last events → Ends m f i args s0 ending last events
        there d =
            let e = same_invocation f old d.depth (nat_eq i) args in
            record {
              depth = d.depth;
              ends = subst (λ (z : Invoked). EndsAs z.answer ending last) e d.ends;
              shows = ap (λ (z : Invoked). z.events) (sym e)
                  ∙ d.shows;
            }

        here : Ends m f i args s0 ending last events → Ends m' f i args s0 ending last events
        here d =
            let e = same_invocation f old d.depth (nat_eq i) args in
            record {
              depth = d.depth;
              ends = subst (λ (z : Invoked). EndsAs z.answer ending last) (sym e) d.ends;
              shows = ap (λ (z : Invoked). z.events) e
                  ∙ d.shows;
            }

    same_outcomes : (f : ℕ) → IsFunction m f → (i : ℕ) (args : List Value) (budget : ℕ) (o : Ended) (last : State) (events : List Event)
        → HasOutcome m' f i args s0 budget o last events ↔ HasOutcome m f i args s0 budget o last events
    same_outcomes f old i args budget (ended.Returned v t) last events =
        let e = same_ends f old i args _ last events in ((λ h. (e.0 h.0, h.1, h.2)), (λ h. (e.1 h.0, h.1, h.2)))
    same_outcomes f old i args budget (ended.Trapped r t) last events =
        let e = same_ends f old i args _ last events in ((λ h. (e.0 h.0, h.1, h.2)), (λ h. (e.1 h.0, h.1, h.2)))
    same_outcomes f old i args budget ended.OutOfTurns last events = (
      (λ h. (h.0, λ ending end all d. h.1 ending end all ((same_ends f old i args ending end all).1 d))),
      (λ h. (h.0, λ ending end all d. h.1 ending end all ((same_ends f old i args ending end all).0 d))),
    )

pub appended_keep : AppendedKeep
appended_keep m valid types bodies exports only s fits =
    let whole = whole_of m valid in
    record {
      fits = still_fits m whole types bodies exports only s fits;
      runs = λ n ls code o h. same_run m whole types bodies exports only s fits _ _ (same_below m whole types bodies exports only s fits n) code o ls h;
      invocations = λ f old n watched args. same_invocation m whole types bodies exports only s fits f old n watched args;
      ends = λ f old i args ending last events. same_ends m whole types bodies exports only s fits f old i args ending last events;
      outcomes = λ f old i args budget o last events. same_outcomes m whole types bodies exports only s fits f old i args budget o last events;
    }
