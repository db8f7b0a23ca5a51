-- What one function does more.
use Rattle.std.proofs.Common.{◌≡◌, ◌↔◌, ℕ, ◌+◌, ◌-◌, ◌<◌, ◌≤◌, List, [], ◌++◌, Option, Some, None, length, map, refl, ap, sym, ◌∙◌, subst, arith, le-ltb, lt-ltb, inl, inr, ◌⊎◌, ⊎_elim}
use Rattle.std.specs.Prelude.{slice_get, nat_lt}
use Rattle.std.specs.List.{Contains}
use Rattle.std.proofs.lemmas.Bool.{cases_lt}
use Rattle.std.proofs.lemmas.List.Elements.{Contains-append_left, Contains-append_right, Contains-append_cases}
use Rattle.wasm_types.specs.declared.module.Body.{Body}
use Rattle.wasm_types.specs.declared.module.FuncType.{FuncType}
use Rattle.wasm_types.specs.declared.module.Module.{Module}
use Rattle.wasm_types.specs.Code.{code_of}
use Rattle.wasm_types.specs.Funcs.{Func, func_of, func_from, text, unwatched}
use Rattle.wasm_types.specs.Hosts.{HostFunc, host_of, seen_from, memory_visible}
use Rattle.wasm_types.specs.Spaces.{func_types, globals_of, import_count, type_of_func, body_of, run_types}
use Rattle.flow_domain.specs.Reach.{LiveIn}
use Rattle.call_graph.specs.declared.acts.Act.{Act}
use Rattle.call_graph.specs.declared.deeds.Deed.{Deed}
use Rattle.call_graph.specs.Deeds.{Does, by_code, by_host}
use Rattle.call_graph.specs.Hosts.{AreHostDeeds}
use Rattle.call_graph.specs.Lists.{act_of, live_deeds}
use Rattle.call_graph.proofs.Calling.{typed_below, from_typed, host_typed, does_below}
use Rattle.call_graph.proofs.DeedLemmas.{live_in, in_live}
use Rattle.call_graph.proofs.Members.{none_in, in_map, map_in}

-- ---- lists of acts

abbrev Gained : List Act → List Act → ℕ → (Deed → Type 0) → Type 0
Gained old new f P = (a : Act) → Contains new a ↔ (Contains old a ⊎ ((a.func ≡ f) × P a.deed))

gained_each : (old new : List Act) (f : ℕ) (ds : List Deed) (P : Deed → Type 0) → new ≡ old ++ map (act_of f) ds → ((d : Deed) → Contains ds d ↔ P d)
    → Gained old new f P
gained_each old new f ds P made same a = (
  λ h. ⊎_elim
      inl
      (λ k. let r = map_in (act_of f) ds a k in
      inr (sym (ap (λ (z : Act). z.func) r.1.1), subst P (ap (λ (z : Act). z.deed) r.1.1) ((same r.0).0 r.1.0)))
      (Contains-append_cases old (map (act_of f) ds) a (rw made at h)),
  λ h. rw made (⊎_elim
      (λ k. Contains-append_left old (map (act_of f) ds) a k)
      (λ p.
      let e : act_of f a.deed ≡ a = ap (λ (g : ℕ). act_of g a.deed) (sym p.0) in
      Contains-append_right old (map (act_of f) ds) a (subst (Contains (map (act_of f) ds)) e (in_map (act_of f) ds a.deed ((same a.deed).1 p.1))))
      h),
)

gained_none : (old : List Act) (f : ℕ) (P : Deed → Type 0) → ((d : Deed) → P d → ⊥) → Gained old old f P
gained_none old f P none a = (λ h. inl h, λ h. ⊎_elim (λ k. k) (λ p. absurd (none a.deed p.1)) h)

-- ---- a function

does_typed : (m : Module) (f : ℕ) (d : Deed) → Does m f d → (t : FuncType) × (type_of_func m f ≡ Some t)
does_typed m f d (by_code F op is live does) = from_typed (type_of_func m f) (body_of m f) F is
does_typed m f d (by_host H is does) = host_typed m f (nat_lt f (import_count m)) (type_of_func m f) H is

pub untyped_gained : (m : Module) (f : ℕ) (old : List Act) → type_of_func m f ≡ None → Gained old old f (Does m f)
untyped_gained m f old none = gained_none old f (Does m f) (λ d does. let t = does_typed m f d does in let e = t.1 in absurd cc)

abbrev own_func : FuncType → Body → Func
own_func t b = record { params = length t.params; results = length t.results; locals = run_types b.locals; code = code_of b.code }

func_none : (o : Option FuncType) → func_from o None ≡ None
func_none None = refl
func_none (Some t) = refl

module _ (m : Module) (f : ℕ) (t : FuncType) (typed : type_of_func m f ≡ Some t) where
  host_is : f < import_count m → host_of m f ≡ Some (record { import = f; kind = t; globals = seen_from m 0 (globals_of m); memory = memory_visible m })
  host_is lt = rw (lt-ltb f (import_count m) lt, typed) refl

  no_func : f < import_count m → func_of m f ≡ None
  no_func lt = let none : body_of m f ≡ None = rw (lt-ltb f (import_count m) lt) refl in ap (func_from (type_of_func m f)) none ∙ func_none (type_of_func m f)

  pub import_gained : (host : List Deed) (old new : List Act) → AreHostDeeds m host → f < import_count m → new ≡ old ++ map (act_of f) host
      → Gained old new f (Does m f)
  import_gained host old new are lt made =
      let H : HostFunc = record { import = f; kind = t; globals = seen_from m 0 (globals_of m); memory = memory_visible m } in
      let is = host_is lt in
      gained_each old new f host (Does m f) made (λ d. (λ k. by_host H is ((are f H is d).0 k), λ does. does_in d does))
    where
      does_in : (d : Deed) → Does m f d → Contains host d
      does_in d (by_code F op e live does) = let none = no_func lt in absurd cc
      does_in d (by_host H e does) = (are f H e d).1 does

  no_host : import_count m ≤ f → host_of m f ≡ None
  no_host le = rw (le-ltb f (import_count m) le) refl

  body_is : import_count m ≤ f → body_of m f ≡ slice_get m.bodies (f - import_count m)
  body_is le = rw (le-ltb f (import_count m) le, lt-ltb f (length (func_types m)) (typed_below m f t typed)) refl

  func_is : (b : Body) → import_count m ≤ f → slice_get m.bodies (f - import_count m) ≡ Some b → func_of m f ≡ Some (own_func t b)
  func_is b le at =
      ap (λ (o : Option Body). func_from (type_of_func m f) o) (body_is le ∙ at) ∙ ap (λ (o : Option FuncType). func_from o (Some b)) typed

  pub own_gained : (b : Body) (old new : List Act) (deeds : List Deed) → import_count m ≤ f → slice_get m.bodies (f - import_count m) ≡ Some b
      → deeds ≡ live_deeds (code_of b.code) → new ≡ old ++ map (act_of f) deeds → Gained old new f (Does m f)
  own_gained b old new deeds le at are made = gained_each old new f deeds (Does m f) made (λ d. (to d, from d))
    where
      to : (d : Deed) → Contains deeds d → Does m f d
      to d k = let r = live_in unwatched 0 (code_of b.code) d (rw are at k) in by_code (own_func t b) r.0 (func_is b le at) r.1.0 r.1.1

      from : (d : Deed) → Does m f d → Contains deeds d
      from d (by_code G op e live does) =
          let g : Some (own_func t b) ≡ Some G = sym (func_is b le at) ∙ e in let same : own_func t b ≡ G = cc in
          rw are (in_live unwatched 0 (code_of b.code) d (op, (subst (λ (z : Func). LiveIn op (text z)) (sym same) live, does)))
      from d (by_host H e does) = let none = no_host le in absurd cc

  pub bodiless_gained : (old : List Act) → import_count m ≤ f → slice_get m.bodies (f - import_count m) ≡ None → Gained old old f (Does m f)
  bodiless_gained old le at = gained_none old f (Does m f) none
    where
      none : (d : Deed) → Does m f d → ⊥
      none d (by_code G op e live does) =
          let off : func_of m f ≡ None = ap (func_from (type_of_func m f)) (body_is le ∙ at) ∙ func_none (type_of_func m f) in absurd cc
      none d (by_host H e does) = let off = no_host le in absurd cc

-- ---- one function after another

pub acts_none : (m : Module) (a : Act) → Contains (let none : List Act = [] in none) a ↔ ((a.func < 0) × Does m a.func a.deed)
acts_none m a = (λ h. absurd (none_in a h), λ h. absurd (omega (arith, h.0)))

pub acts_more : (m : Module) (f : ℕ) (old new : List Act) → ((a : Act) → Contains old a ↔ ((a.func < f) × Does m a.func a.deed))
    → Gained old new f (Does m f) → (a : Act) → Contains new a ↔ ((a.func < f + 1) × Does m a.func a.deed)
acts_more m f old new so_far one a = (
  λ h. ⊎_elim
      (λ k. let p = (so_far a).0 k in let lt = p.0 in (omega arith, p.1))
      (λ p. let e = p.0 in (omega arith, subst (λ (g : ℕ). Does m g a.deed) (sym p.0) p.1))
      ((one a).0 h),
  λ (lt, does). (one a).1 (⊎_elim
      (λ l. inl ((so_far a).1 (l, does)))
      (λ e. inr (e, subst (λ (g : ℕ). Does m g a.deed) e does))
      (split lt)),
)
  where
    split : a.func < f + 1 → (a.func < f) ⊎ (a.func ≡ f)
    split lt = ⊎_elim inl (λ le. inr (omega arith)) (cases_lt a.func f)

pub acts_all : (m : Module) (n : ℕ) (acts : List Act) → length (func_types m) ≤ n → ((a : Act) → Contains acts a ↔ ((a.func < n) × Does m a.func a.deed))
    → (a : Act) → Contains acts a ↔ Does m a.func a.deed
acts_all m n acts le exact a = (
  λ h. ((exact a).0 h).1,
  λ d. (exact a).1 (let lt = does_below m a.func a.deed d in omega (arith, lt, le), d),
)
