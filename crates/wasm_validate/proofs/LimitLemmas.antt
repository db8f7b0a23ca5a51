-- The first number over its limit: in a list, of a kind, and of all kinds.
use Rattle.std.proofs.Common.{◌≡◌, ◌⊎◌, inl, inr, ℕ, zero, suc, ◌+◌, ◌-◌, ◌<◌, ◌≤◌, List, [], ◌∷◌, ◌++◌, length, get_or, map, nat_lt, Option, Some, None, MatchOption, refl, sym, ap, subst, ◌∙◌, arith, below_more, length-append}
use Rattle.std.specs.Prelude.{find, slice_get, IsSomeAnd}
use Rattle.std.specs.Option.{option_or}
use Rattle.std.proofs.lemmas.Bool.{cases_lt}
use Rattle.std.proofs.lemmas.Bool.Decides.{nat_tests}
use Rattle.std.proofs.lemmas.List.{map-append}
use Rattle.std.proofs.lemmas.List.Folds.{find-append}
use Rattle.std.proofs.lemmas.Option.{slice_get_within, slice_get-get_or}
use Rattle.wasm_types.specs.declared.module.FuncType.{FuncType}
use Rattle.wasm_types.specs.declared.module.Limits.{Limits}
use Rattle.wasm_types.specs.declared.module.Body.{Body}
use Rattle.wasm_types.specs.declared.module.Module.{Module}
use Rattle.wasm_types.specs.declared.place.LimitKind.{LimitKind}
use Rattle.wasm_types.specs.declared.place.LimitKind.TheVariants as limit
use Rattle.wasm_types.specs.Sections.{local_count}
use Rattle.wasm_types.specs.Sizes.{positions}
use Rattle.wasm_types.specs.Spaces.{import_count, tables_of, HasBody}
use Rattle.wasm_types.specs.Subset.{most_read}
use Rattle.wasm_validate.specs.declared.limits.Over.{Over}
use Rattle.wasm_validate.specs.Admission.{limit_order, IsFirstOver, told_number}
use Rattle.wasm_validate.specs.Limits.{IsFirstAbove, WithinKind, FindsKind, FindsOver, initial_size}
use Rattle.wasm_validate.proofs.ImportLemmas.{length-imported_funcs, length-imported_globals}

-- that the numbers of functions and of globals fit
pub ruleset few_imports = (length-imported_funcs, length-imported_globals, length-append)

-- ---- what is counted of the entries of a list

abbrev pub param_count : FuncType → ℕ
param_count t = length t.params

abbrev pub declared : Body → ℕ
declared b = local_count b.locals

abbrev pub position_count : Body → ℕ
position_count b = positions b.code

-- the entry of this number is within the bound
abbrev pub IsWithin : {A : Type 0} → (A → ℕ) → ℕ → List A → ℕ → Type 0
IsWithin {A} f most xs k = (x : A) → slice_get xs k ≡ Some x → f x ≤ most

entry_at : {A : Type 0} (all xs : List A) (i : ℕ) (x : A) → all ≡ xs → i < length all → x ≡ get_or all i x → slice_get xs i ≡ Some x
entry_at {A} all xs i x same lt is = subst (λ (ys : List A). slice_get ys i ≡ Some x) same (slice_get-get_or all i x lt ∙ ap Some (sym is))

pub within_more : {A : Type 0} (f : A → ℕ) (most : ℕ) (all xs : List A) (i n : ℕ) (x : A) → all ≡ xs → i < length all → x ≡ get_or all i x → n ≡ f x → n ≤ most
    → ((j : ℕ) → j < i → IsWithin f most xs j) → (j : ℕ) → j < i + 1 → IsWithin f most xs j
within_more {A} f most all xs i n x same lt is e le h =
    below_more (IsWithin f most xs) i h (λ y e2. let there = entry_at all xs i x same lt is in let eq : x ≡ y = cc in subst (λ (z : A). f z ≤ most) eq (omega arith))

-- ---- a number for each body

abbrev pub CountsBody : (Body → ℕ) → Module → ℕ → ℕ → Type 0
CountsBody f m k n = (b : Body) × HasBody m k b × (n ≡ f b)

pub bodies_within : (f : Body → ℕ) (most : ℕ) (m : Module) (all : List Body) (i : ℕ) → all ≡ m.bodies → length all ≤ i
    → ((j : ℕ) → j < i → IsWithin f most m.bodies j) → (k n : ℕ) → CountsBody f m k n → n ≤ most
bodies_within f most m all i same le h k n c =
    let at = slice_get_within m.bodies (k - import_count m) c.0 c.1.1 in
    let few = ap length same in
    omega (arith, h (k - import_count m) (omega arith) c.0 c.1.1, c.2)

pub first_body : (f : Body → ℕ) (most : ℕ) (m : Module) (all : List Body) (i n at : ℕ) (b : Body) → all ≡ m.bodies → i < length all
    → b ≡ get_or all i b → n ≡ f b → most < n
    → at ≡ import_count m + i → ((j : ℕ) → j < i → IsWithin f most m.bodies j) → (k : ℕ) × IsFirstAbove (CountsBody f m) most k n × (at ≡ k)
first_body f most m all i n at b same lt is e over eq h = (
  at,
  record {
    counted = (b, (omega arith, subst (λ (k : ℕ). slice_get m.bodies k ≡ Some b) (let z : i ≡ at - import_count m = omega arith in z) (entry_at all m.bodies i b same lt is)), e);
    over = over;
    earlier = λ j c before counts. omega (arith, h (j - import_count m) (omega (arith, counts.1.0)) counts.0 counts.1.1, counts.2);
  },
  refl,
)

-- ---- a size for each table

find_none : (most n : ℕ) (ns : List ℕ) → find (nat_lt most) (n ∷ ns) ≡ None → (n ≤ most) × (find (nat_lt most) ns ≡ None)
find_none most n ns e = elim (cases_lt most n) [
  | inl h ↦ absurd (grind (arith, nat_tests))
  | inr h ↦ (h, grind (arith, nat_tests))
]

pub each_small : (most : ℕ) (ts : List Limits) → find (nat_lt most) (map initial_size ts) ≡ None → (k : ℕ) → IsWithin initial_size most ts k
each_small most [] e k x e2 = absurd cc
each_small most (t ∷ ts) e zero x e2 = let s = find_none most t.min (map initial_size ts) e in let eq : t ≡ x = cc in subst (λ (z : Limits). z.min ≤ most) eq s.0
each_small most (t ∷ ts) e (suc k) x e2 = each_small most ts (find_none most t.min (map initial_size ts) e).1 k x e2

find_some : (most n found : ℕ) (ns : List ℕ) → find (nat_lt most) (n ∷ ns) ≡ Some found
    → ((most < n) × (n ≡ found)) ⊎ ((n ≤ most) × (find (nat_lt most) ns ≡ Some found))
find_some most n found ns e = elim (cases_lt most n) [
  | inl h ↦ inl (h, grind (arith, nat_tests))
  | inr h ↦ inr (h, grind (arith, nat_tests))
]

abbrev pub CountsSize : List Limits → ℕ → ℕ → Type 0
CountsSize ts k n = (l : Limits) × (slice_get ts k ≡ Some l) × (n ≡ l.min)

earlier_large : (most : ℕ) (t : Limits) (ts : List Limits) (k : ℕ) → t.min ≤ most → ((j c : ℕ) → j < k → CountsSize ts j c → c ≤ most) → (j c : ℕ)
    → j < suc k → CountsSize (t ∷ ts) j c → c ≤ most
earlier_large most t ts k le h zero c lt counts = let eq : t ≡ counts.0 = let e = counts.1 in cc in omega (arith, ap (λ (l : Limits). l.min) eq, counts.2)
earlier_large most t ts k le h (suc j) c lt counts = h j c (omega arith) counts

pub first_large : (most found : ℕ) (ts : List Limits) → find (nat_lt most) (map initial_size ts) ≡ Some found
    → (k : ℕ) × IsFirstAbove (CountsSize ts) most k found
first_large most found [] e = absurd cc
first_large most found (t ∷ ts) e = elim (find_some most t.min found (map initial_size ts) e) [
  | inl h ↦ (0, record { counted = (t, refl, sym h.1); over = (let same = h.1 in omega (arith, h.0)); earlier = λ j c lt counts. absurd (omega (arith, lt)) })
  | inr h ↦ (let r = first_large most found ts h.1 in (suc r.0, record { counted = r.1.counted; over = r.1.over; earlier = earlier_large most t ts r.0 h.0 r.1.earlier }))
]

pub table_found : (m : Module) (large : Option ℕ) (found : Option Over) (Told : ℕ → Over → Type 0)
    → ((n : ℕ) (over : Over) → Told n over → over ≡ record { which = limit.TableSize; at = 0; count = n })
    → large ≡ find (nat_lt (most_read limit.TableSize)) (map initial_size (tables_of m)) → MatchOption large (found ≡ None) (λ n. IsSomeAnd found (Told n)) → FindsKind m limit.TableSize found
table_found m None found Told tells e k =
    subst (FindsKind m limit.TableSize) (sym k) (λ k n counts. omega (arith, each_small 1000000 (tables_of m) (sym e) k counts.0 counts.1, counts.2))
table_found m (Some n) None Told tells e k = absurd k
table_found m (Some n) (Some over) Told tells e k =
    let is = tells n over k in
    let r = first_large 1000000 n (tables_of m) (sym e) in
    subst (λ (o : Over). FindsKind m limit.TableSize (Some o)) (sym is) (refl, (r.0, r.1, refl))

-- ---- the kinds in order

-- the kinds before this number are within their limits
abbrev pub WithinBefore : Module → ℕ → Type 0
WithinBefore m n = (w : LimitKind) → limit_order w < n → WithinKind m w

-- what is found among the kinds before this number
abbrev pub FindsBefore : Module → ℕ → Option Over → Type 0
FindsBefore m n None = WithinBefore m n
FindsBefore m n (Some over) = FindsOver m (Some over)

same_kind : (v w : LimitKind) → limit_order v ≡ limit_order w → v ≡ w
same_kind limit.Functions limit.Functions e = refl
same_kind limit.Params limit.Params e = refl
same_kind limit.Globals limit.Globals e = refl
same_kind limit.TableSize limit.TableSize e = refl
same_kind limit.Locals limit.Locals e = refl
same_kind limit.Positions limit.Positions e = refl
same_kind _ _ e = absurd (omega (arith, e))

-- one kind more, which is tested only where nothing was found before
one_kind : (m : Module) (which : LimitKind) (found : Option Over) → WithinBefore m (limit_order which) → FindsKind m which found
    → FindsBefore m (limit_order which + 1) found
one_kind m which None h k = λ w lt. elim (cases_lt (limit_order w) (limit_order which)) [
  | inl less ↦ h w less
  | inr le ↦ subst (WithinKind m) (same_kind which w (omega arith)) k
]
one_kind m which (Some over) h k = (
  k.1.0,
  subst (λ (w : LimitKind). IsFirstOver m w k.1.0 over.count) (sym k.0) (record {
    counted = k.1.1.counted;
    over = k.1.1.over;
    kinds = λ w j c lt counts. h w lt j c counts;
    numbers = k.1.1.earlier;
  }),
  subst (λ (w : LimitKind). over.at ≡ told_number w k.1.0) (sym k.0) k.1.2,
)

pub one_kind_more : (m : Module) (which : LimitKind) (before found : Option Over) (Told : Type 0) → (Told → FindsKind m which found)
    → FindsBefore m (limit_order which) before
    → MatchOption before Told (λ over. found ≡ Some over) → FindsBefore m (limit_order which + 1) found
one_kind_more m which None found Told tells h k = one_kind m which found h (tells k)
one_kind_more m which (Some over) found Told tells h k = subst (FindsBefore m (limit_order which + 1)) (sym k) h

pub first_kind : (m : Module) (found : Option Over) → FindsKind m limit.Functions found → FindsBefore m 1 found
first_kind m found k = one_kind m limit.Functions found (λ w lt. absurd (omega (arith, lt))) k

kind_number : (w : LimitKind) → limit_order w < 6
kind_number limit.Functions = omega arith
kind_number limit.Params = omega arith
kind_number limit.Globals = omega arith
kind_number limit.TableSize = omega arith
kind_number limit.Locals = omega arith
kind_number limit.Positions = omega arith

pub all_kinds : (m : Module) (found : Option Over) → FindsBefore m 6 found → FindsOver m found
all_kinds m None h = λ which. h which (kind_number which)
all_kinds m (Some over) h = h
