-- Lists of callers and of targets.
use Rattle.std.proofs.Common.{◌≡◌, ◌↔◌, ℕ, ◌+◌, ◌<◌, ◌≤◌, List, [], ◌∷◌, ◌++◌, Vec, Global, Some, None, length, get_or, take, ap, sym, ◌∙◌, subst, arith, inl, inr, ⊎_elim}
use Rattle.std.specs.Prelude.{slice_get}
use Rattle.std.specs.List.{Contains}
use Rattle.std.specs.Prelude.{IsPermutation}
use Rattle.std.proofs.lemmas.List.{take_more}
use Rattle.std.proofs.lemmas.List.Sorted.{Contains-permutation, IsPermutation-sym}
use Rattle.std.proofs.lemmas.List.Elements.{Contains-push, Contains-push_cases, Contains-append_left}
use Rattle.std.proofs.lemmas.Option.{slice_get-get_or, slice_get_past}
use Rattle.wasm_types.specs.declared.module.Module.{Module}
use Rattle.flow_domain.specs.Rows.{Target}
use Rattle.worklist.specs.Gains.{Gains}
use Rattle.worklist.specs.Lists.{Has}
use Rattle.worklist.proofs.Pushing.{gains_same, gains_then}
use Rattle.call_graph.specs.declared.calls.CallGraph.{CallGraph}
use Rattle.call_graph.specs.declared.classes.Classes.{Classes}
use Rattle.call_graph.specs.Edges.{functions, class_in}
use Rattle.call_graph.specs.Graph.{TellsCaller}
use Rattle.call_graph.specs.Tells.{HasClass, TellsTargets}
use Rattle.call_graph.proofs.Members.{none_in}
use Rattle.call_graph.proofs.ReaderLemmas.{in_class, not_in}

-- ---- the numbers below n of a list, one after another

module _ (n : ℕ) (nodes old now : List ℕ) (i x : ℕ) (lt : i < length nodes) (here : get_or nodes i 0 ≡ x)
    (so_far : Gains (λ f. (f < n) × Contains (take i nodes) f) old now) where
  next : take (i + 1) nodes ≡ take i nodes ++ x ∷ []
  next = take_more nodes i 0 lt ∙ ap (λ (y : ℕ). take i nodes ++ y ∷ []) here

  earlier : (f : ℕ) → Contains (take i nodes) f → Contains (take (i + 1) nodes) f
  earlier f c = rw next (Contains-append_left (take i nodes) (x ∷ []) f c)

  pub below_more : x < n → (new : List ℕ) → new ≡ now ++ x ∷ [] → Gains (λ f. (f < n) × Contains (take (i + 1) nodes) f) old new
  below_more below new made = record {
    kept = λ f h. rw made (Contains-append_left now (x ∷ []) f (so_far.kept f h));
    all = λ f p. ⊎_elim
        (λ c. rw made (Contains-append_left now (x ∷ []) f (so_far.all f (p.0, c))))
        (λ e. rw made (subst (Contains (now ++ x ∷ [])) e (Contains-push now x)))
        (Contains-push_cases (take i nodes) x f (rw next at p.1));
    only = λ f h. ⊎_elim
        (λ k. ⊎_elim inl (λ p. inr (p.0, earlier f p.1)) (so_far.only f k))
        (λ e. inr (subst (λ (z : ℕ). z < n) e below, rw next (subst (Contains (take i nodes ++ x ∷ [])) e (Contains-push (take i nodes) x))))
        (Contains-push_cases now x f (rw made at h));
  }

  pub below_skip : n ≤ x → Gains (λ f. (f < n) × Contains (take (i + 1) nodes) f) old now
  below_skip past = record {
    kept = so_far.kept;
    all = λ f p. ⊎_elim
        (λ c. so_far.all f (p.0, c))
        (λ e. let lf = p.0 in absurd (omega (arith, lf, e, past)))
        (Contains-push_cases (take i nodes) x f (rw next at p.1));
    only = λ f h. ⊎_elim inl (λ p. inr (p.0, earlier f p.1)) (so_far.only f h);
  }

-- ---- those below n of a list

module _ (n : ℕ) (order now : List ℕ) (i x : ℕ) (lt : i < length order) (here : get_or order i 0 ≡ x)
    (so_far : (y : ℕ) → Contains now y ↔ (Contains (take i order) y × (y < n))) where
  upto : take (i + 1) order ≡ take i order ++ x ∷ []
  upto = take_more order i 0 lt ∙ ap (λ (y : ℕ). take i order ++ y ∷ []) here

  pub kept_more : x < n → (new : List ℕ) → new ≡ now ++ x ∷ [] → (y : ℕ) → Contains new y ↔ (Contains (take (i + 1) order) y × (y < n))
  kept_more below new made y = (
    λ h. ⊎_elim
        (λ k. let p = (so_far y).0 k in (rw upto (Contains-append_left (take i order) (x ∷ []) y p.0), p.1))
        (λ e. (rw upto (subst (Contains (take i order ++ x ∷ [])) e (Contains-push (take i order) x)), subst (λ (z : ℕ). z < n) e below))
        (Contains-push_cases now x y (rw made at h)),
    λ p. rw made (⊎_elim
        (λ k. Contains-append_left now (x ∷ []) y ((so_far y).1 (k, p.1)))
        (λ e. subst (Contains (now ++ x ∷ [])) e (Contains-push now x))
        (Contains-push_cases (take i order) x y (rw upto at p.0))),
  )

  pub kept_skip : n ≤ x → (y : ℕ) → Contains now y ↔ (Contains (take (i + 1) order) y × (y < n))
  kept_skip past y = (
    λ h. let p = (so_far y).0 h in (rw upto (Contains-append_left (take i order) (x ∷ []) y p.0), p.1),
    λ p. ⊎_elim
        (λ k. (so_far y).1 (k, p.1))
        (λ e. let below = p.1 in absurd (omega (arith, below, e, past)))
        (Contains-push_cases (take i order) x y (rw upto at p.0)),
  )

pub contains_turned : (now last : List ℕ) → IsPermutation now last → (P : ℕ → Type 0) → ((x : ℕ) → Contains now x ↔ P x) → (x : ℕ) → Contains last x ↔ P x
contains_turned now last turned P exact x = (
  λ h. (exact x).0 (Contains-permutation last now x (IsPermutation-sym now last turned) h),
  λ p. Contains-permutation now last x turned ((exact x).1 p),
)

-- a list of a table
pub has_row : (table : List (Vec ℕ Global)) (k : ℕ) (row : Vec ℕ Global) → slice_get table k ≡ Some row → (f : ℕ) → Contains row.items f ↔ Has table k f
has_row table k row is f = (
  λ h. (row, (is, h)),
  λ (r, (at, h)).
      let both : Some r ≡ Some row = sym at ∙ is in
      let same : r ≡ row = cc in subst (λ (z : Vec ℕ Global). Contains z.items f) same h,
)

-- by what a slice's `get` answers
pub got_row : (table list : List (Vec ℕ Global)) (k : ℕ) (row : Vec ℕ Global) → list ≡ table → k < length list → row ≡ get_or list k row
    → slice_get table k ≡ Some row
got_row table list k row same lt is =
    subst (λ (rows : List (Vec ℕ Global)). slice_get rows k ≡ Some row) same (slice_get-get_or list k row lt ∙ ap Some (sym is))

pub got_none : (table list : List (Vec ℕ Global)) (k : ℕ) → list ≡ table → length list ≤ k → slice_get table k ≡ None
got_none table list k same le = subst (λ (rows : List (Vec ℕ Global)). slice_get rows k ≡ None) same (slice_get_past list k le)

pub no_row : (table : List (Vec ℕ Global)) (k : ℕ) → slice_get table k ≡ None → (f : ℕ) → Has table k f → ⊥
no_row table k none f (r, (at, h)) = let wrong : None ≡ Some r = sym none ∙ at in cc

-- ---- callers: by number, and through the class

module _ (g : CallGraph) (h : ℕ) (old mid new : List ℕ) (direct : Gains (λ f. (f < functions g.classes) × Has g.callers.next.items h f) old mid) where
  pub callers_classed : (c : ℕ) → class_in (slice_get g.classes.by_func.items h) ≡ Some c
      → Gains (λ f. (f < functions g.classes) × Has g.callers.next.items (functions g.classes + c) f) mid new → Gains (TellsCaller g h) old new
  callers_classed c is through =
      let at = in_class (slice_get g.classes.by_func.items h) c is in
      gains_then (λ f. (f < functions g.classes) × Has g.callers.next.items h f)
      (λ f. (f < functions g.classes) × Has g.callers.next.items (functions g.classes + c) f) (TellsCaller g h) old mid new
      (λ f (lt, s). ⊎_elim
      (λ k. inl (lt, k))
      (λ k.
      let both : Some (Some k.0) ≡ Some (Some c) = sym k.1.0 ∙ at in
      let same : k.0 ≡ c = cc in
      inr (lt, subst (λ (z : ℕ). Has g.callers.next.items (functions g.classes + z) f) same k.1.1))
      s)
      (λ f p. (p.0, inl p.1))
      (λ f p. (p.0, inr (c, (at, p.1))))
      direct through

  pub callers_unclassed : class_in (slice_get g.classes.by_func.items h) ≡ None → Gains (TellsCaller g h) old mid
  callers_unclassed none =
      gains_same (λ f. (f < functions g.classes) × Has g.callers.next.items h f) (TellsCaller g h) old mid
      (λ f p. (p.0, inl p.1))
      (λ f (lt, s). ⊎_elim (λ k. (lt, k)) (λ k. absurd (not_in (slice_get g.classes.by_func.items h) k.0 none k.1.0)) s)
      direct

-- ---- the functions of a class, and of a type

module _ (classes : Classes) (members : List (Vec ℕ Global))
    (listed : (c f : ℕ) → Has members c f ↔ (slice_get classes.by_func.items f ≡ Some (Some c))) (c : ℕ) where
  pub members_listed : (row : Vec ℕ Global) → slice_get members c ≡ Some row → (f : ℕ) → Contains row.items f ↔ HasClass classes f c
  members_listed row at f =
      let has = has_row members c row at f in let l = listed c f in (λ h. l.0 (has.0 h), λ h. has.1 (l.1 h))

  pub members_unlisted : slice_get members c ≡ None → (f : ℕ) → Contains (let none : List ℕ = [] in none) f ↔ HasClass classes f c
  members_unlisted none f = (λ h. absurd (none_in f h), λ h. absurd (no_row members c none f ((listed c f).1 h)))

module _ (m : Module) (classes : Classes) (tells : TellsTargets m classes) (t : ℕ) where
  pub targets_listed : (c : ℕ) → class_in (slice_get classes.by_type.items t) ≡ Some c → (f : ℕ) → HasClass classes f c ↔ Target m t f
  targets_listed c ty f =
      let of = in_class (slice_get classes.by_type.items t) c ty in (
        λ h. (tells t f).0 (c, (of, h)),
        λ r.
            let s = (tells t f).1 r in
            let both : Some (Some s.0) ≡ Some (Some c) = sym s.1.0 ∙ of in
            let same : s.0 ≡ c = cc in
            s.1.1 ∙ ap (λ (z : ℕ). Some (Some z)) same,
      )

  pub untyped : class_in (slice_get classes.by_type.items t) ≡ None → (f : ℕ) → Target m t f → ⊥
  untyped none f r = let s = (tells t f).1 r in not_in (slice_get classes.by_type.items t) s.0 none s.1.0

  pub targets_untyped : class_in (slice_get classes.by_type.items t) ≡ None → (f : ℕ) → Contains (let none : List ℕ = [] in none) f ↔ Target m t f
  targets_untyped none f = (λ h. absurd (none_in f h), λ r. absurd (untyped none f r))
