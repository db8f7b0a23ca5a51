-- The table with which the rounds begin, one function after another.
use Rattle.std.proofs.Common.{◌≡◌, ◌↔◌, ℕ, zero, suc, ◌+◌, ◌-◌, ◌<◌, ◌≤◌, ◌⊎◌, inl, inr, ⊎_elim, List, [], ◌∷◌, ◌++◌, Bool, false, IsTrue, Some, length, get_or, slice_get, refl, sym, ap, ◌∙◌, subst, arith, length-append}
use Rattle.std.proofs.lemmas.Bool.{cases_eq, cases_lt}
use Rattle.std.proofs.lemmas.List.{get_or_append_left, get_or_push}
use Rattle.std.proofs.lemmas.Option.{slice_get_within, same_Some}
use Rattle.wasm_types.specs.declared.module.FuncType.{FuncType}
use Rattle.wasm_types.specs.declared.module.Module.{Module}
use Rattle.wasm_types.specs.declared.place.Loc.{Loc}
use Rattle.wasm_types.specs.Spaces.{func_types, globals_of, import_count, type_of_func}
use Rattle.wasm_types.specs.Subset.{IsSealed}
use Rattle.worklist.specs.Search.{IsMarked}
use Rattle.flow_domain.specs.Rows.{Output, by_host, ImportRows}
use Rattle.flow_domain.specs.Summaries.{HasInput, IsKnown, IsShape, TableRows}
use Rattle.flow_domain.specs.declared.summary.Summary.{Summary}
use Rattle.flow_domain.specs.declared.summary_table.SummaryTable.{SummaryTable}
use Rattle.summary_fix.specs.Settled.{IsSound}
use Rattle.summary_fix.proofs.Owned.{get_behind}
use Rattle.summary_fix.proofs.Stepping.{has_known}

-- ---- marks

pub long_pushed : {X : Type 0} (xs ys : List X) (b : X) (n : ℕ) → ys ≡ xs ++ b ∷ [] → length xs ≡ n → length ys ≡ n + 1
long_pushed xs ys b n made long = let e = ap length made in let f = length-append xs (b ∷ []) in omega arith

pub marked_pushed : (P : ℕ → Type 0) (marks all : List Bool) (b : Bool) (n : ℕ) → all ≡ marks ++ b ∷ [] → length marks ≡ n
    → ((k : ℕ) → k < n → IsMarked marks k ↔ P k) → (IsTrue b ↔ P n) → (k : ℕ) → k < n + 1 → IsMarked all k ↔ P k
marked_pushed P marks all b n made long old new k lt = elim (cases_eq k n) [
  | inl e ↦
      let at : get_or all k false ≡ b = ap (λ (xs : List Bool). get_or xs k false) made ∙ get_or_push marks b false k (long ∙ sym e) in
      (λ h. subst P (sym e) (new.0 (sym at ∙ h)), λ p. at ∙ new.1 (subst P e p))
  | inr ne ↦
      let at : get_or all k false ≡ get_or marks k false =
      ap (λ (xs : List Bool). get_or xs k false) made ∙ get_or_append_left marks (b ∷ []) false k (omega arith) in
      (λ h. (old k (omega arith)).0 (sym at ∙ h), λ p. at ∙ (old k (omega arith)).1 p)
]

-- ---- summaries

get_front : {X : Type 0} (xs ys : List X) (f : ℕ) → f < length xs → slice_get (xs ++ ys) f ≡ slice_get xs f
get_front [] ys f lt = absurd (omega arith)
get_front (x ∷ xs) ys zero lt = refl
get_front (x ∷ xs) ys (suc f) lt = get_front xs ys f (omega arith)

module _ (m : Module) (old new : SummaryTable) (s : Summary) (n : ℕ) (made : new.rows.items ≡ old.rows.items ++ s ∷ []) (long : length old.rows.items ≡ n) where
  before : (f : ℕ) → f < n → slice_get new.rows.items f ≡ slice_get old.rows.items f
  before f lt = ap (λ (xs : List Summary). slice_get xs f) made ∙ get_front old.rows.items (s ∷ []) f (omega arith)

  last : slice_get new.rows.items n ≡ Some s
  last =
      let none : n - length old.rows.items ≡ 0 = omega arith in
      ap (λ (xs : List Summary). slice_get xs n) made
      ∙ (get_behind old.rows.items (s ∷ []) n (omega arith) ∙ ap (slice_get (s ∷ [])) none)

  -- it is an old one, or this one
  either : (f : ℕ) (b : Summary) → slice_get new.rows.items f ≡ Some b
      → ((f < n) × (slice_get old.rows.items f ≡ Some b)) ⊎ ((f ≡ n) × (b ≡ s))
  either f b at = elim (cases_eq f n) [
    | inl e ↦ inr (e, same_Some b s (sym at ∙ (ap (slice_get new.rows.items) e ∙ last)))
    | inr ne ↦
        let within = slice_get_within new.rows.items f b at in
        let whole = long_pushed old.rows.items new.rows.items s n made long in
        let lt : f < n = omega arith in inl (lt, sym (before f lt) ∙ at)
  ]

  pub shapes_pushed : (G : ℕ) → ((f : ℕ) (kind : FuncType) (b : Summary) → type_of_func m f ≡ Some kind → slice_get old.rows.items f ≡ Some b → IsShape G (length kind.params) b)
      → ((kind : FuncType) → type_of_func m n ≡ Some kind → IsShape G (length kind.params) s) → (f : ℕ) (kind : FuncType) (b : Summary)
      → type_of_func m f ≡ Some kind → slice_get new.rows.items f ≡ Some b → IsShape G (length kind.params) b
  shapes_pushed G olds here f kind b typed at = ⊎_elim
      (λ (lt, was). olds f kind b typed was)
      (λ (e, is). subst (λ (z : Summary). IsShape G (length kind.params) z) (sym is) (here kind (subst (λ k. type_of_func m k ≡ Some kind) e typed)))
      (either f b at)

  pub globals_pushed : (G : ℕ) → ((f : ℕ) (b : Summary) → slice_get old.rows.items f ≡ Some b → b.globals ≡ G) → s.globals ≡ G → (f : ℕ) (b : Summary)
      → slice_get new.rows.items f ≡ Some b → b.globals ≡ G
  globals_pushed G olds here f b at = ⊎_elim
      (λ (lt, was). olds f b was)
      (λ (e, is). subst (λ (z : Summary). z.globals ≡ G) (sym is) here)
      (either f b at)

  pub own_pushed : ((f : ℕ) (o : Output) (x : Loc) → import_count m ≤ f → TableRows old f o x → ⊥)
      → (import_count m ≤ n → (o : Output) (x : Loc) → HasInput s o x → ⊥) → (f : ℕ) (o : Output) (x : Loc) → import_count m ≤ f → TableRows new f o x → ⊥
  own_pushed olds here f o x le (b, (at, h)) = ⊎_elim
      (λ (lt, was). olds f o x le (b, (was, h)))
      (λ (e, is). here (subst (λ k. import_count m ≤ k) e le) o x (subst (λ (z : Summary). HasInput z o x) is h))
      (either f b at)

  pub imports_pushed : (G : ℕ)
      → ((f : ℕ) (o : Output) (x : Loc) → f < n → f < import_count m → IsKnown G o → TableRows old f o x ↔ ImportRows m f o x)
      → (n < import_count m → (o : Output) (x : Loc) → IsKnown G o → HasInput s o x ↔ ImportRows m n o x) → (f : ℕ) (o : Output) (x : Loc) → f < n + 1
      → f < import_count m → IsKnown G o → TableRows new f o x ↔ ImportRows m f o x
  imports_pushed G olds here f o x lt own known = elim (cases_eq f n) [
    | inl e ↦ subst (λ k. TableRows new k o x ↔ ImportRows m k o x) (sym e) (at_last (here (subst (λ k. k < import_count m) e own) o x known))
    | inr ne ↦
        let less : f < n = omega arith in
        let was = olds f o x less own known in (
          λ (b, (at, h)). was.0 (b, (sym (before f less) ∙ at, h)),
          λ row. let r = was.1 row in (r.0, (before f less ∙ r.1.0, r.1.1)),
        )
  ]
    where
      at_last : HasInput s o x ↔ ImportRows m n o x → TableRows new n o x ↔ ImportRows m n o x
      at_last is = (
        λ (b, (at, h)). is.0 (subst (λ (z : Summary). HasInput z o x) (same_Some b s (sym at ∙ last)) h),
        λ row. (s, (last, is.1 row)),
      )

-- a table of the rows of imports alone is sound
pub start_sound : (m : Module) (t : SummaryTable) (n : ℕ) → IsSealed m → length t.rows.items ≡ n → n ≡ length (func_types m) → import_count m ≤ n
    → ((f : ℕ) (kind : FuncType) (b : Summary) → type_of_func m f ≡ Some kind → slice_get t.rows.items f ≡ Some b → IsShape (length (globals_of m)) (length kind.params) b)
    → ((f : ℕ) (o : Output) (x : Loc) → f < n → f < import_count m → IsKnown (length (globals_of m)) o → TableRows t f o x ↔ ImportRows m f o x)
    → ((f : ℕ) (b : Summary) → slice_get t.rows.items f ≡ Some b → b.globals ≡ length (globals_of m))
    → ((f : ℕ) (o : Output) (x : Loc) → import_count m ≤ f → TableRows t f o x → ⊥) → IsSound m t
start_sound m t n sealed long whole few shapes imports globals own = record {
  sealed = sealed;
  table = record { long = long ∙ whole; shapes = shapes; imports = λ f o x lt k. imports f o x (omega arith) lt k };
  rounds = λ W exact f o x row. ⊎_elim
      (λ lt. (0, by_host ((imports f o x (omega arith) lt (has_known (length (globals_of m)) row.0 (globals f row.0 row.1.0) o x row.1.1)).0 row)))
      (λ le. absurd (own f o x le row))
      (cases_lt f (import_count m));
}
