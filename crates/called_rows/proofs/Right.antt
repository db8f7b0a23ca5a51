-- What the tables say of a callee is what the rows and the cover say.
use Rattle.std.proofs.Common.{◌≡◌, ℕ, ◌+◌, ◌^◌, ◌<◌, List, true, Option, Some, None, length, slice_get, refl, sym, ap, ◌∙◌, subst, inl}
use Rattle.std.proofs.Common.{inr, ⊎_elim, arith}
use Rattle.std.proofs.lemmas.Option.{same_Some}
use Rattle.wasm_types.specs.declared.module.FuncType.{FuncType}
use Rattle.wasm_types.specs.declared.module.Module.{Module}
use Rattle.wasm_types.specs.declared.instr.Instr.{Instr}
use Rattle.wasm_types.specs.declared.place.LimitKind.TheVariants as limit
use Rattle.wasm_types.specs.declared.place.Loc.{Loc}
use Rattle.wasm_types.specs.declared.place.Loc.TheVariants as loc
use Rattle.wasm_types.specs.Spaces.{globals_of, type_of_func}
use Rattle.wasm_types.specs.Subset.{IsSealed}
use Rattle.wasm_types.specs.Actions.{Callee, Own, Through, called_of}
use Rattle.wasm_types.specs.Locations.{is_outer}
use Rattle.flow_domain.specs.declared.summary.Summary.{Summary}
use Rattle.flow_domain.specs.Bounds.{Bounds, bounds, Cover, called}
use Rattle.flow_domain.specs.Reach.{MayWrite}
use Rattle.flow_domain.specs.Rows.{Output, Done, CallRows, RowOf, TargetRow}
use Rattle.flow_domain.specs.Summaries.{TableRows, HasInput, IsSet, column_number, row_number, word_count}
use Rattle.flow_domain.specs.Touch.{MayTouch, IsExact}
use Rattle.flow_domain.proofs.Shapes.{numbered}
use Rattle.flow_domain.proofs.Summing.{among_some}
use Rattle.stack_repair.specs.Law.{ValidHasHeights}
use Rattle.called_rows.specs.declared.callees.Called.{Called}
use Rattle.called_rows.specs.declared.instrs.Whom.{Whom}
use Rattle.called_rows.specs.declared.instrs.Whom.TheVariants as whom
use Rattle.called_rows.specs.Called.{globals_in, targets_at, ChecksBy, TargetsTouch}
use Rattle.called_rows.specs.Locs.{IsLoc}
use Rattle.called_rows.specs.Right.{IsCalled, CallRight}
use Rattle.called_rows.specs.Whom.{IsWhom}
use Rattle.called_rows.proofs.FormKinds.{Kind, plain, own, through, plain_task, own_asks, table_asks}
use Rattle.called_rows.proofs.Known.{may_write_known, may_touch_known}
use Rattle.called_rows.proofs.TargetLemmas.{AreTargets, targets_right}

-- ---- what the rows of the functions called say

set_column : (words : ℕ) (bits : List ℕ) (r c : Option ℕ) → IsSet words bits r c → (k : ℕ) × (c ≡ Some k)
set_column words bits None c h = absurd h
set_column words bits (Some r) None h = absurd h
set_column words bits (Some r) (Some c) h = (c, refl)

column_loc : (globals params : ℕ) (x : Loc) (c : ℕ) → column_number globals params x ≡ Some c → IsLoc globals params x
column_loc globals params (loc.Local k) c e = (among_some (3 + globals) params k c e).0
column_loc globals params (loc.Global k) c e = (among_some 3 globals k c e).0
column_loc globals params loc.Mem c e = omega arith
column_loc globals params loc.Size c e = omega arith
column_loc globals params loc.Host c e = omega arith

has_loc : (s : Summary) (o : Output) (x : Loc) → HasInput s o x → IsLoc s.globals s.params x
has_loc s o x h = let c = set_column (word_count s.globals s.params) s.bits.items (row_number s.globals o) (column_number s.globals s.params x) h in
    column_loc s.globals s.params x c.0 c.1

outer_any : (globals a b : ℕ) (x : Loc) → IsLoc globals a x → is_outer x ≡ true → IsLoc globals b x
outer_any globals a b (loc.Local k) ok e = absurd cc
outer_any globals a b (loc.Global k) ok e = ok
outer_any globals a b loc.Mem ok e = omega arith
outer_any globals a b loc.Size ok e = omega arith
outer_any globals a b loc.Host ok e = omega arith

-- what is known of a module's locations is outer
outer_loc : (globals : ℕ) (x : Loc) → IsLoc globals 0 x → is_outer x ≡ true
outer_loc globals (loc.Local k) ok = absurd (omega arith)
outer_loc globals (loc.Global k) ok = refl
outer_loc globals loc.Mem ok = refl
outer_loc globals loc.Size ok = refl
outer_loc globals loc.Host ok = refl

module _ (m : Module) (c : Called) (sealed : IsSealed m) (heights : ValidHasHeights) (is : IsCalled m c) where
  abbrev G : ℕ
  G = globals_in c

  abbrev R : CallRows
  R = RowOf m (TableRows c.rows.now)

  few_params : (k : ℕ) (F : FuncType) → slice_get m.types k ≡ Some F → length F.params < 2 ^ 32
  few_params k F at = let le = sealed.limits limit.Params k (length F.params) (F, at, refl) in omega arith

  func_params : (g : ℕ) (F : FuncType) → type_of_func m g ≡ Some F → length F.params < 2 ^ 32
  func_params g F at = let n = numbered m.types _ F at in few_params n.0 F n.1

  -- a row of a function that has a type
  row_loc : (g : ℕ) (F : FuncType) → type_of_func m g ≡ Some F → (o : Output) (x : Loc) → TableRows c.rows.now g o x → IsLoc G (length F.params) x
  row_loc g F at o x (s, (there, has)) =
      let shape = is.table.shapes g F s at there in
      let h = has_loc s o x has in
      subst (λ n. IsLoc n (length F.params) x) (sym is.targets.globals) (subst (λ n. IsLoc (length (globals_of m)) n x) shape.params_is
      (subst (λ n. IsLoc n s.params x) shape.globals_is h))

  target_loc : (k : ℕ) (F : FuncType) → slice_get m.types k ≡ Some F → (o : Output) (x : Loc) → TargetRow m (TableRows c.rows.now) k o x
      → IsLoc G (length F.params) x
  target_loc k F at o x (g, T, has) =
      let same : T.kind ≡ F = same_Some T.kind F (sym T.named ∙ at) in
      subst (λ (z : FuncType). IsLoc G (length z.params) x) same (row_loc g T.kind T.is o x has)

  write_known : (g : ℕ) (x : Loc) → MayWrite m g x → IsLoc G 0 x
  write_known g x h = subst (λ n. IsLoc n 0 x) (sym is.targets.globals) (may_write_known m sealed heights g x h)

  touch_known : (g : ℕ) (x : Loc) → MayTouch m g x → IsLoc G 0 x
  touch_known g x h = subst (λ n. IsLoc n 0 x) (sym is.targets.globals) (may_touch_known m sealed heights g x h)

  targets : (k : ℕ) → AreTargets m c k (targets_at c k)
  targets k = targets_right m c is write_known touch_known k

  module _ (W : Cover) (exact : IsExact m W) where
    abbrev B : Bounds
    B = bounds m W

    -- a call by number
    own_right : (g : ℕ) (F : FuncType) → type_of_func m g ≡ Some F → CallRight B R c (Own g) (whom.Own g)
    own_right g F at = record {
      rows = λ o x. (λ h. inl h, λ h. ⊎_elim (λ r. r) (λ i. absurd i) h);
      writes = λ x. (λ h. (exact.writes (Own g) x).1 ((is.graph.writes g x).0 h), λ h. (is.graph.writes g x).1 ((exact.writes (Own g) x).0 h));
      checks = λ o x. (λ h. absurd (none_own o x h), λ h. absurd ((exact.touch (Own g) x).0 h.1));
      known = λ o x h on. outer_any G (length F.params) 0 x (row_loc g F at o x h) on;
      written = λ x h. let ok = write_known g x ((exact.writes (Own g) x).0 h) in (outer_loc G x ok, ok);
      touched = λ x h. absurd ((exact.touch (Own g) x).0 h);
      few = λ o k h. let lt = row_loc g F at o (loc.Local k) h in let le = func_params g F at in omega arith;
    }
      where
        none_own : (o : Output) (x : Loc) → ChecksBy c (whom.Own g) o x → ⊥
        none_own o x h = h

    -- a call through the table
    through_right : (k : ℕ) (F : FuncType) → slice_get m.types k ≡ Some F → CallRight B R c (Through k (length F.params)) (whom.Through k)
    through_right k F at =
        let a = targets k in
        record {
          rows = λ o x. (
            λ h. ⊎_elim (λ i. inr i) (λ r. inl ((a.rows o x).1 r)) h,
            λ h. ⊎_elim (λ r. inr ((a.rows o x).0 r)) (λ i. inl i) h,
          );
          writes = λ x. (
            λ h. (exact.writes (Through k (length F.params)) x).1 ((a.writes x).0 h),
            λ h. (a.writes x).1 ((exact.writes (Through k (length F.params)) x).0 h),
          );
          checks = λ o x. (λ h. checks_to o x h, λ h. checks_from o x h);
          known = λ o x h on. outer_any G (length F.params) 0 x (target_loc k F at o x ((a.rows o x).0 h)) on;
          written = λ x h. let w = (exact.writes (Through k (length F.params)) x).0 h in let ok = write_known w.0 x w.2 in (outer_loc G x ok, ok);
          touched = λ x h. let w = (exact.touch (Through k (length F.params)) x).0 h in let ok = touch_known w.0 x w.2 in (outer_loc G x ok, ok);
          few = λ o i h. let lt = target_loc k F at o (loc.Local i) ((a.rows o (loc.Local i)).0 h) in let le = few_params k F at in omega arith;
        }
      where
        done_checks : (x : Loc) → TargetsTouch G (targets_at c k) x → W.touch (Through k (length F.params)) x ≡ true
        done_checks x h = (exact.touch (Through k (length F.params)) x).1 (((targets k).touches x).0 h)

        checks_to : (o : Output) (x : Loc) → ChecksBy c (whom.Through k) o x → (o ≡ Done) × (W.touch (Through k (length F.params)) x ≡ true)
        checks_to Done x h = (refl, done_checks x h)
        checks_to _ x h = absurd h

        checks_from : (o : Output) (x : Loc) → (o ≡ Done) × (W.touch (Through k (length F.params)) x ≡ true) → ChecksBy c (whom.Through k) o x
        checks_from o x (e, h) =
            subst (λ z. ChecksBy c (whom.Through k) z x) (sym e) (((targets k).touches x).1 ((exact.touch (Through k (length F.params)) x).0 h))

    -- whom a live instruction calls
    pub call_right : (op : Instr) (g : Callee) (w : Whom) → Kind m op → called B op ≡ Some g → IsWhom g w → CallRight B R c g w
    call_right op g w (plain a fe) e who = let none : None ≡ Some g = sym (ap called_of (plain_task m op a fe)) ∙ e in absurd cc
    call_right op g w (own h F fe ty) asks who = by_own g w (same_Some (Own h) g (sym (ap called_of (own_asks m op h (Some F) fe ty)) ∙ asks)) who
      where
        by_own : (g : Callee) (w : Whom) → Own h ≡ g → IsWhom g w → CallRight B R c g w
        by_own (Own i) (whom.Own j) e who =
            let at : h ≡ i = cc in
            let both : h ≡ j = at ∙ who in
            subst (λ z. CallRight B R c (Own z) (whom.Own j)) at (subst (λ z. CallRight B R c (Own h) (whom.Own z)) both (own_right h F ty))
        by_own (Own i) (whom.Through j) e who = absurd who
        by_own (Through i n) w e who = absurd cc
    call_right op g w (through k F fe ty) asks who =
        by_table g w (same_Some (Through k (length F.params)) g (sym (ap called_of (table_asks m op k (Some F) fe ty)) ∙ asks)) who
      where
        by_table : (g : Callee) (w : Whom) → Through k (length F.params) ≡ g → IsWhom g w → CallRight B R c g w
        by_table (Own i) w e who = absurd cc
        by_table (Through i n) (whom.Own j) e who = absurd who
        by_table (Through i n) (whom.Through j) e who =
            let at : k ≡ i = cc in
            let both : k ≡ j = at ∙ who in
            subst (λ z. CallRight B R c z (whom.Through j)) e
            (subst (λ z. CallRight B R c (Through k (length F.params)) (whom.Through z)) both (through_right k F ty))
