-- What is known of the class of a type number is what its targets do.
use Rattle.std.proofs.Common.{inl, inr}
use Rattle.std.proofs.Common.{◌≡◌, ◌↔◌, ℕ, ◌+◌, ◌<◌, List, Bool, false, Option, Some, None, length, slice_get, get_or, refl, sym, ap, ◌∙◌, subst, arith}
use Rattle.std.proofs.lemmas.Bool.{cases_lt}
use Rattle.std.proofs.lemmas.List.{get_or_past}
use Rattle.wasm_types.specs.declared.module.Module.{Module}
use Rattle.wasm_types.specs.declared.place.Loc.{Loc}
use Rattle.flow_domain.specs.Reach.{MayWrite}
use Rattle.flow_domain.specs.Rows.{Output, Target, TargetRow}
use Rattle.flow_domain.specs.Summaries.{TableRows}
use Rattle.flow_domain.specs.Touch.{MayTouch}
use Rattle.call_graph.specs.Edges.{class_in}
use Rattle.call_graph.proofs.ReaderLemmas.{in_class}
use Rattle.called_rows.specs.declared.callees.Called.{Called}
use Rattle.called_rows.specs.declared.classes.Targets.{Targets}
use Rattle.called_rows.specs.Called.{at_class, globals_in, targets_at, RowOfTargets, TargetsWrite, TargetsTouch}
use Rattle.called_rows.specs.Classes.{AnyIn, AreTogether}
use Rattle.called_rows.specs.Funcs.{MarksOf}
use Rattle.called_rows.specs.Locs.{IsLoc, IsMarkedAt, loc_number}
use Rattle.called_rows.specs.Right.{IsCalled}
use Rattle.called_rows.proofs.ClassLemmas.{element}
use Rattle.called_rows.proofs.FuncLemmas.{outer_loc}

-- what is known of the targets of a type number is right
pub record AreTargets (m : Module) (c : Called) (k : ℕ) (o : Option Targets) : Type 0 where
  pub rows : (out : Output) (x : Loc) → RowOfTargets o out x ↔ TargetRow m (TableRows c.rows.now) k out x
  pub writes : (x : Loc) → TargetsWrite (globals_in c) o x ↔ ((f : ℕ) × Target m k f × MayWrite m f x)
  pub touches : (x : Loc) → TargetsTouch (globals_in c) o x ↔ ((f : ℕ) × Target m k f × MayTouch m f x)

-- what is marked has a number that marks have
marked_loc : (globals : ℕ) (marks : List Bool) (x : Loc) → length marks ≡ globals + 3 → IsMarkedAt globals marks x → IsLoc globals 0 x
marked_loc globals marks x long on =
    let lt : loc_number globals x < length marks = elim (cases_lt (loc_number globals x) (length marks)) [
      | inl less ↦ less
      | inr ge ↦ let off : get_or marks (loc_number globals x) false ≡ false = get_or_past marks (loc_number globals x) false ge in absurd cc
    ] in
    outer_loc globals x (omega arith)

module _ (m : Module) (c : Called) (is : IsCalled m c) (writes_known : (f : ℕ) (x : Loc) → MayWrite m f x → IsLoc (globals_in c) 0 x)
    (touches_known : (f : ℕ) (x : Loc) → MayTouch m f x → IsLoc (globals_in c) 0 x) (k : ℕ) where
  abbrev class_of : Option ℕ
  class_of = class_in (slice_get c.graph.now.classes.by_type.items k)

  by_target : (d : ℕ) → class_of ≡ Some d → (P : ℕ → Type 0) → AnyIn c.graph.now d P ↔ ((f : ℕ) × Target m k f × P f)
  by_target d e P =
      let at = in_class (slice_get c.graph.now.classes.by_type.items k) d e in (
        λ (f, (has, p)). (f, (is.graph.targets k f).0 (d, (at, has)), p),
        λ (f, T, p).
            let s = (is.graph.targets k f).1 T in
            let both : Some (Some s.0) ≡ Some (Some d) = sym s.1.0 ∙ at in
            let same : s.0 ≡ d = cc in
            (f, (s.1.1 ∙ ap (λ (z : ℕ). Some (Some z)) same, p)),
      )

  none_target : class_of ≡ None → (f : ℕ) → Target m k f → ⊥
  none_target e f T =
      let s = (is.graph.targets k f).1 T in
      let some : None ≡ Some s.0 = sym e ∙ ap class_in s.1.0 in absurd cc

  marks_by : (d : ℕ) → class_of ≡ Some d → (marks : List Bool) (P : ℕ → Loc → Type 0) → length marks ≡ globals_in c + 3
      → MarksOf (globals_in c) marks (λ x. AnyIn c.graph.now d (λ f. P f x)) → ((f : ℕ) (x : Loc) → P f x → IsLoc (globals_in c) 0 x) → (x : Loc)
      → IsMarkedAt (globals_in c) marks x ↔ ((f : ℕ) × Target m k f × P f x)
  marks_by d e marks P long right known x =
      let any = by_target d e (λ f. P f x) in (
        λ h. any.0 ((right x (marked_loc (globals_in c) marks x long h)).0 h),
        λ r. (right x (known r.0 x r.2)).1 (any.1 r),
      )

  known_class : (d : ℕ) → class_of ≡ Some d → (u : Targets) → AreTogether m c.graph.now c.rows.now d u → AreTargets m c k (Some u)
  known_class d e u a =
      let same = is.targets.globals in
      record {
        rows = λ out x.
            let any = by_target d e (λ f. TableRows c.rows.now f out x) in
            let r = a.rows out x in
            (λ h. any.0 (r.0 h), λ h. r.1 (any.1 h));
        writes = marks_by d e u.writes.items (λ f x. MayWrite m f x) (a.writes_long ∙ ap (λ n. n + 3) (sym same))
            (subst (λ n. MarksOf n u.writes.items (λ x. AnyIn c.graph.now d (λ f. MayWrite m f x))) (sym same) a.writes) writes_known;
        touches = marks_by d e u.touches.items (λ f x. MayTouch m f x) (a.touches_long ∙ ap (λ n. n + 3) (sym same))
            (subst (λ n. MarksOf n u.touches.items (λ x. AnyIn c.graph.now d (λ f. MayTouch m f x))) (sym same) a.touches) touches_known;
      }

  unknown_class : ((f : ℕ) → Target m k f → ⊥) → AreTargets m c k None
  unknown_class none = record {
    rows = λ out x. (λ h. absurd h, λ r. absurd (none r.0 r.1));
    writes = λ x. (λ h. absurd h, λ r. absurd (none r.0 r.1));
    touches = λ x. (λ h. absurd h, λ r. absurd (none r.0 r.1));
  }

  pub targets_right : AreTargets m c k (targets_at c k)
  targets_right = by (class_in (slice_get c.graph.now.classes.by_type.items k)) refl
    where
      at : (d : ℕ) → class_in (slice_get c.graph.now.classes.by_type.items k) ≡ Some d → (o : Option Targets) → slice_get c.targets.now.by_class.items d ≡ o
          → AreTargets m c k o
      at d e None none =
          let below = c.graph.now.classes.below_type k d (in_class (slice_get c.graph.now.classes.by_type.items k) d e) in
          let long = is.targets.classes.long in
          let u = element c.targets.now.by_class.items d (omega (arith, below, long)) in
          let wrong : None ≡ Some u.0 = sym none ∙ u.1 in absurd cc
      at d e (Some u) some = known_class d e u (is.targets.classes.each d u some)

      by : (o : Option ℕ) → class_in (slice_get c.graph.now.classes.by_type.items k) ≡ o → AreTargets m c k (at_class c.targets.now.by_class.items o)
      by None e = unknown_class (none_target e)
      by (Some d) e = at d e (slice_get c.targets.now.by_class.items d) refl
