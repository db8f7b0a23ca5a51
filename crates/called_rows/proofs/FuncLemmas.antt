-- What some functions do, taken together.
use Rattle.std.proofs.Common.{◌≡◌, ◌↔◌, ℕ, ◌+◌, ◌<◌, ◌≤◌, List, [], ◌∷◌, ◌++◌, Bool, false, IsTrue, Some, None, length}
use Rattle.std.proofs.Common.{get_or, take, slice_get, refl, sym, ap, ◌∙◌, subst, inl, inr, ◌⊎◌, ⊎_elim, arith, length-append}
use Rattle.std.specs.List.{All, Contains}
use Rattle.std.proofs.lemmas.Bool.{cases_eq}
use Rattle.std.proofs.lemmas.List.{take_all, take_more, get_or_append_left, get_or_push}
use Rattle.std.proofs.lemmas.List.Elements.{All-contains_itself, Contains-push, Contains-push_cases, Contains-append_left}
use Rattle.std.proofs.lemmas.Option.{same_Some}
use Rattle.wasm_types.specs.declared.place.Loc.{Loc}
use Rattle.wasm_types.specs.declared.place.Loc.TheVariants as loc
use Rattle.flow_domain.specs.declared.summary.Summary.{Summary}
use Rattle.flow_domain.specs.declared.summary_table.SummaryTable.{SummaryTable}
use Rattle.flow_domain.specs.Rows.{Output}
use Rattle.flow_domain.specs.Summaries.{HasInput, TableRows}
use Rattle.called_rows.specs.Funcs.{AnyOf, AreShaped, ShareShape}
use Rattle.called_rows.specs.Locs.{loc_number, IsLoc, IsMarkedAt}

-- ---- one of some functions

pub any_none : (P : ℕ → Type 0) → AnyOf [] P → ⊥
any_none P (f, ((k, lt, is), p)) = omega arith

-- one function more
pub any_more : (P : ℕ → Type 0) (funcs : List ℕ) (i : ℕ) → i < length funcs → AnyOf (take (i + 1) funcs) P ↔ (AnyOf (take i funcs) P ⊎ P (get_or funcs i 0))
any_more P funcs i lt =
    let x = get_or funcs i 0 in
    let front = take i funcs in
    let e : take (i + 1) funcs ≡ front ++ x ∷ [] = take_more funcs i 0 lt in (
      λ (f, (has, p)). ⊎_elim
          (λ old. inl (f, (old, p)))
          (λ is. inr (subst P (sym is) p))
          (Contains-push_cases front x f (subst (λ (fs : List ℕ). Contains fs f) e has)),
      λ h. ⊎_elim
          (λ (f, (old, p)). (f, (subst (λ (fs : List ℕ). Contains fs f) (sym e) (Contains-append_left front (x ∷ []) f old), p)))
          (λ p. (x, (subst (λ (fs : List ℕ). Contains fs x) (sym e) (Contains-push front x), p)))
          h,
    )

pub any_all : (P : ℕ → Type 0) (funcs : List ℕ) (i : ℕ) → length funcs ≤ i → AnyOf (take i funcs) P ↔ AnyOf funcs P
any_all P funcs i le =
    let e : take i funcs ≡ funcs = take_all i funcs le in
    (λ h. subst (λ (fs : List ℕ). AnyOf fs P) e h, λ h. subst (λ (fs : List ℕ). AnyOf fs P) (sym e) h)

pub any_here : (P : ℕ → Type 0) (funcs : List ℕ) (i : ℕ) → i < length funcs → P (get_or funcs i 0) → AnyOf funcs P
any_here P funcs i lt p = (get_or funcs i 0, (All-contains_itself funcs i 0 lt, p))

-- ---- rows

pub table_row : (t : SummaryTable) (f : ℕ) (s : Summary) (o : Output) (x : Loc) → slice_get t.rows.items f ≡ Some s → TableRows t f o x ↔ HasInput s o x
table_row t f s o x found = (λ (z, (is, has)). subst (λ w. HasInput w o x) (same_Some z s (sym is ∙ found)) has, λ h. (s, (found, h)))

-- a function has no rows, or these
pub rows_none : (t : SummaryTable) (f : ℕ) (s : Summary) → slice_get t.rows.items f ≡ None → (o : Output) (x : Loc)
    → HasInput s o x ↔ (HasInput s o x ⊎ TableRows t f o x)
rows_none t f s none o x = (λ h. inl h, λ h. ⊎_elim (λ k. k) (λ (z, (is, has)). absurd cc) h)

pub rows_some : (t : SummaryTable) (f : ℕ) (s old new : Summary) → slice_get t.rows.items f ≡ Some s
    → ((o : Output) (x : Loc) → HasInput new o x ↔ (HasInput old o x ⊎ HasInput s o x)) → (o : Output) (x : Loc)
    → HasInput new o x ↔ (HasInput old o x ⊎ TableRows t f o x)
rows_some t f s old new found merged o x =
    let row = table_row t f s o x found in (
      λ h. ⊎_elim (λ k. inl k) (λ k. inr (row.1 k)) ((merged o x).0 h),
      λ h. (merged o x).1 (⊎_elim (λ k. inl k) (λ k. inr (row.0 k)) h),
    )

pub rows_more : (t : SummaryTable) (funcs : List ℕ) (i : ℕ) (old new : Summary) → i < length funcs
    → ((o : Output) (x : Loc) → HasInput old o x ↔ AnyOf (take i funcs) (λ f. TableRows t f o x))
    → ((o : Output) (x : Loc) → HasInput new o x ↔ (HasInput old o x ⊎ TableRows t (get_or funcs i 0) o x)) → (o : Output) (x : Loc)
    → HasInput new o x ↔ AnyOf (take (i + 1) funcs) (λ f. TableRows t f o x)
rows_more t funcs i old new lt so more o x =
    let next = any_more (λ f. TableRows t f o x) funcs i lt in (
      λ h. next.1 (⊎_elim (λ k. inl ((so o x).0 k)) (λ k. inr k) ((more o x).0 h)),
      λ h. (more o x).1 (⊎_elim (λ k. inl ((so o x).1 k)) (λ k. inr k) (next.0 h)),
    )

-- ---- marks

pub outer_loc : (globals : ℕ) (x : Loc) → loc_number globals x < globals + 3 → IsLoc globals 0 x
outer_loc globals (loc.Local k) lt = absurd (omega arith)
outer_loc globals (loc.Global k) lt = omega arith
outer_loc globals loc.Mem lt = omega arith
outer_loc globals loc.Size lt = omega arith
outer_loc globals loc.Host lt = omega arith

pub outer_below : (globals : ℕ) (x : Loc) → IsLoc globals 0 x → loc_number globals x < globals + 3
outer_below globals (loc.Local k) ok = absurd (omega arith)
outer_below globals (loc.Global k) ok = omega arith
outer_below globals loc.Mem ok = omega arith
outer_below globals loc.Size ok = omega arith
outer_below globals loc.Host ok = omega arith

pub long_pushed : {X : Type 0} (xs ys : List X) (b : X) (n : ℕ) → ys ≡ xs ++ b ∷ [] → length xs ≡ n → length ys ≡ n + 1
long_pushed xs ys b n made long = let e = ap length made in let f = length-append xs (b ∷ []) in omega arith

loc_injective : (g : ℕ) (x y : Loc) → IsLoc g 0 x → IsLoc g 0 y → loc_number g x ≡ loc_number g y → x ≡ y
loc_injective g loc.Mem loc.Mem ok ok' e = refl
loc_injective g loc.Size loc.Size ok ok' e = refl
loc_injective g loc.Host loc.Host ok ok' e = refl
loc_injective g (loc.Local j) y ok ok' e = absurd (omega arith)
loc_injective g (loc.Global j) (loc.Global k) ok ok' e = let same : j ≡ k = omega arith in ap loc.Global same
loc_injective g loc.Mem loc.Size ok ok' e = absurd (omega arith)
loc_injective g loc.Mem loc.Host ok ok' e = absurd (omega arith)
loc_injective g loc.Mem (loc.Local k) ok ok' e = absurd (omega arith)
loc_injective g loc.Mem (loc.Global k) ok ok' e = absurd (omega arith)
loc_injective g loc.Size loc.Mem ok ok' e = absurd (omega arith)
loc_injective g loc.Size loc.Host ok ok' e = absurd (omega arith)
loc_injective g loc.Size (loc.Local k) ok ok' e = absurd (omega arith)
loc_injective g loc.Size (loc.Global k) ok ok' e = absurd (omega arith)
loc_injective g loc.Host loc.Mem ok ok' e = absurd (omega arith)
loc_injective g loc.Host loc.Size ok ok' e = absurd (omega arith)
loc_injective g loc.Host (loc.Local k) ok ok' e = absurd (omega arith)
loc_injective g loc.Host (loc.Global k) ok ok' e = absurd (omega arith)
loc_injective g (loc.Global j) loc.Mem ok ok' e = absurd (omega arith)
loc_injective g (loc.Global j) loc.Size ok ok' e = absurd (omega arith)
loc_injective g (loc.Global j) loc.Host ok ok' e = absurd (omega arith)
loc_injective g (loc.Global j) (loc.Local k) ok ok' e = absurd (omega arith)

-- the mark of one location more
pub marks_more : (globals i : ℕ) (y : Loc) (P : Loc → Type 0) (marks all : List Bool) (b : Bool) → all ≡ marks ++ b ∷ [] → length marks ≡ i → i < globals + 3
    → loc_number globals y ≡ i → (IsTrue b ↔ P y) → ((x : Loc) → loc_number globals x < i → IsMarkedAt globals marks x ↔ P x) → (x : Loc)
    → loc_number globals x < i + 1 → IsMarkedAt globals all x ↔ P x
marks_more globals i y P marks all b made long within at new old x lt = elim (cases_eq (loc_number globals x) i) [
  | inl e ↦
      let same : x ≡ y = loc_injective globals x y (outer_loc globals x (omega arith)) (outer_loc globals y (omega arith)) (e ∙ sym at) in
      let here : get_or all (loc_number globals x) false ≡ b =
      ap (λ (bs : List Bool). get_or bs (loc_number globals x) false) made ∙ get_or_push marks b false (loc_number globals x) (long ∙ sym e) in
      (λ h. subst P (sym same) (new.0 (sym here ∙ h)), λ p. here ∙ new.1 (subst P same p))
  | inr ne ↦
      let less : loc_number globals x < i = omega arith in
      let here : get_or all (loc_number globals x) false ≡ get_or marks (loc_number globals x) false =
      ap (λ (bs : List Bool). get_or bs (loc_number globals x) false) made
      ∙ get_or_append_left marks (b ∷ []) false (loc_number globals x) (omega arith) in
      (λ h. (old x less).0 (sym here ∙ h), λ p. here ∙ (old x less).1 p)
]

-- ---- shapes

-- what holds of each element holds of all
pub all_from : {A : Type 0} (P : A → Type 0) (xs : List A) → ((x : A) → Contains xs x → P x) → All P xs
all_from P xs each = λ k d lt. each (get_or xs k d) (All-contains_itself xs k d lt)

pub shaped_by : (t : SummaryTable) (globals params f : ℕ) (funcs : List ℕ) → Contains funcs f
    → ((s : Summary) → slice_get t.rows.items f ≡ Some s → params ≡ s.params) → ShareShape t globals funcs → All (AreShaped t globals params) funcs
shaped_by t globals params f funcs first is share = all_from (AreShaped t globals params) funcs (λ g has.
    let r = share f g first has in subst (λ k. AreShaped t globals k g) (sym (is r.0 r.1.0)) r.1.1)
