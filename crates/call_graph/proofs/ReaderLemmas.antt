-- What the readers of a graph answer.
use Rattle.std.proofs.Common.{◌≡◌, ◌↔◌, ℕ, ◌+◌, Bool, true, false, IsTrue, Option, Some, None, refl, ap, sym, ◌∙◌, subst, inl, inr, ⊎_elim}
use Rattle.std.specs.Prelude.{slice_get}
use Rattle.wasm_types.specs.declared.module.Module.{Module}
use Rattle.wasm_types.specs.declared.place.Loc.{Loc}
use Rattle.flow_domain.specs.Rows.{Target}
use Rattle.call_graph.specs.declared.calls.CallGraph.{CallGraph}
use Rattle.call_graph.specs.declared.classes.Classes.{Classes}
use Rattle.call_graph.specs.declared.pairs.Pairs.{Pairs}
use Rattle.call_graph.specs.Edges.{functions, class_in}
use Rattle.call_graph.specs.Graph.{LeadsTo, TellsCall, TellsLoc}
use Rattle.call_graph.specs.Labels.{label_of}
use Rattle.call_graph.specs.Pairs.{HasPair}
use Rattle.call_graph.specs.Tells.{TellsTargets}

pub in_class : (o : Option (Option ℕ)) (c : ℕ) → class_in o ≡ Some c → o ≡ Some (Some c)
in_class None c e = absurd cc
in_class (Some class) c e = ap Some e

pub not_in : (o : Option (Option ℕ)) (c : ℕ) → class_in o ≡ None → o ≡ Some (Some c) → ⊥
not_in o c e is = let wrong : Some c ≡ None = sym (ap class_in is) ∙ e in cc

pub loc_told : (pairs : Pairs) (f : ℕ) (x : Loc) (o : ℕ) (r : Bool) (P : Type 0) → label_of x ≡ Some o → IsTrue r ↔ HasPair pairs f o
    → TellsLoc pairs f x ↔ P → IsTrue r ↔ P
loc_told pairs f x o r P lab has tells = (
  λ t. tells.0 (o, (lab, has.0 t)),
  λ p.
      let h = tells.1 p in
      let both : Some o ≡ Some h.0 = sym lab ∙ h.1.0 in
      let same : h.0 ≡ o = cc in
      has.1 (subst (HasPair pairs f) same h.1.1),
)

pub loc_untold : (pairs : Pairs) (f : ℕ) (x : Loc) (P : Type 0) → label_of x ≡ None → TellsLoc pairs f x ↔ P → IsTrue false ↔ P
loc_untold pairs f x P lab tells = (λ t. absurd cc, λ p. let h = tells.1 p in let e = h.1.0 in absurd cc)

pub loc_tells : (pairs : Pairs) (f : ℕ) (x : Loc) (o : ℕ) (r : Bool) → label_of x ≡ Some o → IsTrue r ↔ HasPair pairs f o → IsTrue r ↔ TellsLoc pairs f x
loc_tells pairs f x o r lab has = loc_told pairs f x o r (TellsLoc pairs f x) lab has (λ h. h, λ h. h)

pub loc_untells : (pairs : Pairs) (f : ℕ) (x : Loc) → label_of x ≡ None → IsTrue false ↔ TellsLoc pairs f x
loc_untells pairs f x lab = loc_untold pairs f x (TellsLoc pairs f x) lab (λ h. h, λ h. h)

module _ (m : Module) (classes : Classes) (t f : ℕ) (tells : TellsTargets m classes) where
  pub target_told : (c d : ℕ) (r : Bool) → class_in (slice_get classes.by_type.items t) ≡ Some c → class_in (slice_get classes.by_func.items f) ≡ Some d
      → IsTrue r ↔ (d ≡ c) → IsTrue r ↔ Target m t f
  target_told c d r ty fn same =
      let at = in_class (slice_get classes.by_type.items t) c ty in
      let of = in_class (slice_get classes.by_func.items f) d fn in (
        λ h. (tells t f).0 (c, (at, of ∙ ap (λ (k : ℕ). Some (Some k)) (same.0 h))),
        λ g.
            let s = (tells t f).1 g in
            let a : Some (Some c) ≡ Some (Some s.0) = sym at ∙ s.1.0 in
            let b : Some (Some d) ≡ Some (Some s.0) = sym of ∙ s.1.1 in
            let e : d ≡ c = cc in same.1 e,
      )

  pub target_untyped : class_in (slice_get classes.by_type.items t) ≡ None → IsTrue false ↔ Target m t f
  target_untyped none = (λ h. absurd cc, λ g. let s = (tells t f).1 g in absurd (not_in (slice_get classes.by_type.items t) s.0 none s.1.0))

  pub target_unclassed : class_in (slice_get classes.by_func.items f) ≡ None → IsTrue false ↔ Target m t f
  target_unclassed none = (λ h. absurd cc, λ g. let s = (tells t f).1 g in absurd (not_in (slice_get classes.by_func.items f) s.0 none s.1.1))

module _ (g : CallGraph) (f h : ℕ) (P : Type 0) (tells : TellsCall g f h ↔ P) where
  pub call_direct : LeadsTo g f h → IsTrue true ↔ P
  call_direct has = (λ t. tells.0 (inl has), λ p. refl)

  pub call_by_class : (LeadsTo g f h → ⊥) → (c : ℕ) (r : Bool) → class_in (slice_get g.classes.by_func.items h) ≡ Some c
      → IsTrue r ↔ LeadsTo g f (functions g.classes + c) → IsTrue r ↔ P
  call_by_class not c r fn has =
      let of = in_class (slice_get g.classes.by_func.items h) c fn in (
        λ t. tells.0 (inr (c, (of, has.0 t))),
        λ p. ⊎_elim
            (λ d. absurd (not d))
            (λ s.
            let a : Some (Some c) ≡ Some (Some s.0) = sym of ∙ s.1.0 in
            let e : s.0 ≡ c = cc in
            has.1 (subst (λ (k : ℕ). LeadsTo g f (functions g.classes + k)) e s.1.1))
            (tells.1 p),
      )

  pub call_by_none : (LeadsTo g f h → ⊥) → class_in (slice_get g.classes.by_func.items h) ≡ None → IsTrue false ↔ P
  call_by_none not none = (
    λ t. absurd cc,
    λ p. ⊎_elim (λ d. absurd (not d)) (λ s. absurd (not_in (slice_get g.classes.by_func.items h) s.0 none s.1.0)) (tells.1 p),
  )

pub not_both : (b : Bool) (P : Type 0) → b ≡ false → IsTrue b ↔ P → P → ⊥
not_both b P off has p = let on : b ≡ true = has.1 p in cc
