-- A table in which one function's summary has grown.
use Rattle.std.proofs.Common.{◌≡◌, ◌↔◌, ℕ, ◌+◌, ◌-◌, ◌<◌, ◌≤◌, ◌≢◌, ◌⊎◌, inl, inr, ⊎_elim, List, Option, Some, None, Bool, true, false, length, get_or, set, if◌then◌else◌, refl, sym, ap, ◌∙◌, subst, arith, get_or-set_same, get_or-set_other}
use Rattle.std.specs.Prelude.{slice_get}
use Rattle.std.proofs.Math.ListN.{length-set}
use Rattle.std.proofs.lemmas.Bool.{cases_eq, cases_lt}
use Rattle.std.proofs.lemmas.Option.{slice_get-get_or, slice_get_past, slice_get_within, same_Some}
use Rattle.wasm_types.specs.declared.place.Loc.{Loc}
use Rattle.flow_domain.specs.declared.summary.Summary.{Summary}
use Rattle.flow_domain.specs.declared.summary_table.SummaryTable.{SummaryTable}
use Rattle.flow_domain.specs.Rows.{Output}
use Rattle.flow_domain.specs.Summaries.{HasInput, IsShape, IsMerged, TableRows}

set_here : {X : Type 0} (xs : List X) (i : ℕ) (v : X) → i < length xs → slice_get (set xs i v) i ≡ Some v
set_here xs i v lt =
    let long = length-set xs i v in slice_get-get_or (set xs i v) i v (omega arith) ∙ ap (λ x. Some x) (get_or-set_same xs i v v lt)

set_there : {X : Type 0} (xs : List X) (i j : ℕ) (v : X) → j ≢ i → slice_get (set xs i v) j ≡ slice_get xs j
set_there xs i j v ne =
    let long = length-set xs i v in elim (cases_lt j (length xs)) [
      | inl lt ↦
          slice_get-get_or (set xs i v) j v (omega arith) ∙ (ap (λ x. Some x) (get_or-set_other xs i j v v ne) ∙ sym (slice_get-get_or xs j v lt))
      | inr le ↦ slice_get_past (set xs i v) j (omega arith) ∙ sym (slice_get_past xs j le)
    ]

module _ (f : ℕ) (s a b : Summary) (old new : SummaryTable) (here : slice_get old.rows.items f ≡ Some a) (made : new.rows.items ≡ set old.rows.items f b)
    (shape : IsShape a.globals a.params b) (merged : (o : Output) (x : Loc) → HasInput b o x ↔ (HasInput a o x ⊎ HasInput s o x)) where
  within : f < length old.rows.items
  within = slice_get_within old.rows.items f a here

  new_here : slice_get new.rows.items f ≡ Some b
  new_here = ap (λ (xs : List Summary). slice_get xs f) made ∙ set_here old.rows.items f b within

  new_there : (g : ℕ) → g ≢ f → slice_get new.rows.items g ≡ slice_get old.rows.items g
  new_there g ne = ap (λ (xs : List Summary). slice_get xs g) made ∙ set_there old.rows.items f g b ne

  shapes_kept : (g : ℕ) (x y : Summary) → slice_get old.rows.items g ≡ Some x → slice_get new.rows.items g ≡ Some y → IsShape x.globals x.params y
  shapes_kept g x y ex ey = elim (cases_eq g f) [
    | inl e ↦
        let xa : x ≡ a = same_Some x a (sym ex ∙ (ap (slice_get old.rows.items) e ∙ here)) in
        let yb : y ≡ b = same_Some y b (sym ey ∙ (ap (slice_get new.rows.items) e ∙ new_here)) in
        subst (λ (z : Summary). IsShape z.globals z.params y) (sym xa) (subst (λ (z : Summary). IsShape a.globals a.params z) (sym yb) shape)
    | inr ne ↦
        let xy : x ≡ y = same_Some x y (sym ex ∙ (sym (new_there g ne) ∙ ey)) in
        subst (λ (z : Summary). IsShape x.globals x.params z) xy (record { globals_is = refl; params_is = refl })
  ]

  there_only : (g : ℕ) (o : Output) (x : Loc) → g ≢ f → TableRows new g o x ↔ (TableRows old g o x ⊎ ((g ≡ f) × HasInput s o x))
  there_only g o x ne = (
    λ (z, (at, h)). inl (z, (sym (new_there g ne) ∙ at, h)),
    λ h. ⊎_elim (λ (z, (at, k)). (z, (new_there g ne ∙ at, k))) (λ e. absurd (ne e.0)) h,
  )

  here_both : (o : Output) (x : Loc) → TableRows new f o x ↔ (TableRows old f o x ⊎ ((f ≡ f) × HasInput s o x))
  here_both o x = (
    λ (z, (at, h)). ⊎_elim (λ k. inl (a, (here, k))) (λ k. inr (refl, k))
        ((merged o x).0 (subst (λ (y : Summary). HasInput y o x) (same_Some z b (sym at ∙ new_here)) h)),
    λ h. (
      b,
      (
        new_here,
        (merged o x).1 (⊎_elim
            (λ (z, (at, k)). inl (subst (λ (y : Summary). HasInput y o x) (same_Some z a (sym at ∙ here)) k))
            (λ e. inr e.1)
            h),
      ),
    ),
  )

  pub table_merged : IsMerged f s old new
  table_merged = record {
    long = ap length made ∙ length-set old.rows.items f b;
    shapes = shapes_kept;
    rows = λ g o x. elim (cases_eq g f) [
      | inl e ↦ subst (λ n. TableRows new n o x ↔ (TableRows old n o x ⊎ ((n ≡ f) × HasInput s o x))) (sym e) (here_both o x)
      | inr ne ↦ there_only g o x ne
    ];
  }
