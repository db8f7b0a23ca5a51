-- The first part without a property, found kind by kind.
use Rattle.std.proofs.Common.{◌≡◌, ℕ, ◌+◌, ◌<◌, ◌≤◌, inl, inr, length, Some, None, refl, sym, ap, ◌∙◌, subst, arith}
use Rattle.std.specs.Prelude.{slice_get}
use Rattle.std.specs.Prelude.{if◌then◌else◌, ◌==◌}
use Rattle.std.proofs.lemmas.Bool.{cases_lt, cases_order}
use Rattle.std.proofs.lemmas.Option.{slice_get-get_or}
use Rattle.wasm_types.specs.declared.module.FuncType.{FuncType}
use Rattle.wasm_types.specs.declared.module.Module.{Module}
use Rattle.wasm_types.specs.declared.place.Part.{Part}
use Rattle.wasm_types.specs.declared.place.Part.TheVariants as part
use Rattle.wasm_types.specs.Validity.{Holds}
use Rattle.body_check.specs.Numbered.{FewResults}
use Rattle.wasm_validate.specs.First.{float_order, valid_order, part_number, IsFirstWithout, FindsNumber}
use Rattle.wasm_validate.proofs.EntryLemmas.{at_some}

-- the part with a number of the kind at a place of an order, where the kind has numbers
abbrev pub float_at : ℕ → ℕ → Part
float_at n k = if n == 0 then part.TypeAt k else if n == 1 then part.ImportAt k else if n == 2 then part.GlobalAt k else if n == 3 then part.ElemAt k else if n == 4 then part.FuncAt k else if n == 5 then part.DataAt k else if n == 6 then part.FuncTypeAt k else if n == 7 then part.TableAll else if n == 8 then part.MemoryAll else if n == 9 then part.ExportAt k else part.StartAt

abbrev pub valid_at : ℕ → ℕ → Part
valid_at n k = if n == 0 then part.TypeAt k else if n == 1 then part.ImportAt k else if n == 2 then part.FuncTypeAt k else if n == 3 then part.TableAll else if n == 4 then part.MemoryAll else if n == 5 then part.GlobalAt k else if n == 6 then part.FuncAt k else if n == 7 then part.ExportAt k else if n == 8 then part.StartAt else if n == 9 then part.ElemAt k else part.DataAt k

-- an order tells the kinds apart: a part is known by its place and its number
pub record TellsApart (order : Part → ℕ) (at : ℕ → ℕ → Part) : Type 0 where
  pub back : (p : Part) → at (order p) (part_number p) ≡ p

pub float_apart : TellsApart float_order float_at
float_apart = record { back = go }
  where
    go : (p : Part) → float_at (float_order p) (part_number p) ≡ p
    go (part.TypeAt k) = refl
    go (part.ImportAt k) = refl
    go (part.FuncTypeAt f) = refl
    go part.TableAll = refl
    go part.MemoryAll = refl
    go (part.GlobalAt g) = refl
    go (part.FuncAt f) = refl
    go (part.ExportAt k) = refl
    go part.StartAt = refl
    go (part.ElemAt k) = refl
    go (part.DataAt k) = refl

pub valid_apart : TellsApart valid_order valid_at
valid_apart = record { back = go }
  where
    go : (p : Part) → valid_at (valid_order p) (part_number p) ≡ p
    go (part.TypeAt k) = refl
    go (part.ImportAt k) = refl
    go (part.FuncTypeAt f) = refl
    go part.TableAll = refl
    go part.MemoryAll = refl
    go (part.GlobalAt g) = refl
    go (part.FuncAt f) = refl
    go (part.ExportAt k) = refl
    go part.StartAt = refl
    go (part.ElemAt k) = refl
    go (part.DataAt k) = refl

-- the property holds of each part of the first n kinds
abbrev pub UpTo : (Part → Type 0) → (Part → ℕ) → ℕ → Type 0
UpTo P order n = (p : Part) → order p < n → P p

pub none_yet : (P : Part → Type 0) (order : Part → ℕ) → UpTo P order 0
none_yet P order p lt = absurd (omega (arith, lt))

-- kind n in the order has a part for each number
pub record IsNumbered (order : Part → ℕ) (n : ℕ) (at : ℕ → Part) : Type 0 where
  pub orders : (k : ℕ) → order (at k) ≡ n
  pub numbers : (k : ℕ) → part_number (at k) ≡ k
  pub all : (p : Part) → order p ≡ n → at (part_number p) ≡ p

-- kind n in the order has one part
pub record IsSingle (order : Part → ℕ) (n : ℕ) (one : Part) : Type 0 where
  pub orders : order one ≡ n
  pub number : part_number one ≡ 0
  pub all : (p : Part) → order p ≡ n → one ≡ p

next : (P : Part → Type 0) (order : Part → ℕ) (n : ℕ) → UpTo P order n → ((p : Part) → order p ≡ n → P p) → UpTo P order (n + 1)
next P order n earlier here p lt = elim (cases_lt (order p) n) [ inl less ↦ earlier p less | inr more ↦ here p (omega arith) ]

first : (P : Part → Type 0) (order : Part → ℕ) (n : ℕ) (p : Part) → order p ≡ n → UpTo P order n → (P p → ⊥)
    → ((q : Part) → order q ≡ n → part_number q < part_number p → P q) → IsFirstWithout P order p
first P order n p e earlier bad here = (
  bad,
  λ q before. elim before [
    | inl lower ↦ earlier q (omega arith)
    | inr same ↦ (let eq = same.0 in here q (omega arith) same.1)
  ],
)

pub first_numbered : (P : Part → Type 0) (order : Part → ℕ) (n : ℕ) (at : ℕ → Part) (k : ℕ) → IsNumbered order n at → UpTo P order n
    → FindsNumber (λ j. P (at j)) (Some k) → IsFirstWithout P order (at k)
first_numbered P order n at k kind earlier h =
    first P order n (at k) (kind.orders k) earlier h.0 (λ q e lt. subst P (kind.all q e) (h.1 (part_number q) (let number = kind.numbers k in omega arith)))

pub past_numbered : (P : Part → Type 0) (order : Part → ℕ) (n : ℕ) (at : ℕ → Part) → IsNumbered order n at → UpTo P order n
    → FindsNumber (λ j. P (at j)) None → UpTo P order (n + 1)
past_numbered P order n at kind earlier h = next P order n earlier (λ p e. subst P (kind.all p e) (h (part_number p)))

pub first_single : (P : Part → Type 0) (order : Part → ℕ) (n : ℕ) (one : Part) → IsSingle order n one → UpTo P order n → (P one → ⊥)
    → IsFirstWithout P order one
first_single P order n one kind earlier bad = first P order n one kind.orders earlier bad (λ q e lt. absurd (let number = kind.number in omega arith))

pub past_single : (P : Part → Type 0) (order : Part → ℕ) (n : ℕ) (one : Part) → IsSingle order n one → UpTo P order n → P one → UpTo P order (n + 1)
past_single P order n one kind earlier h = next P order n earlier (λ p e. subst P (kind.all p e) h)

-- a kind with numbers, and one without, by an order that tells the kinds apart
pub numbered : (order : Part → ℕ) (at : ℕ → ℕ → Part) (n : ℕ) → TellsApart order at → ((k : ℕ) → order (at n k) ≡ n)
    → ((k : ℕ) → part_number (at n k) ≡ k) → IsNumbered order n (at n)
numbered order at n apart orders numbers = record { orders = orders; numbers = numbers; all = λ p e. ap (λ o. at o (part_number p)) (sym e) ∙ apart.back p }

single : (order : Part → ℕ) (at : ℕ → ℕ → Part) (n : ℕ) (one : Part) → TellsApart order at → order one ≡ n → part_number one ≡ 0
    → ((k : ℕ) → at n k ≡ one) → IsSingle order n one
single order at n one apart orders number same = record { orders = orders; number = number; all = λ p e. sym (same (part_number p)) ∙ ap (λ o. at o (part_number p)) (sym e) ∙ apart.back p }

-- ---- the kinds in the order in which validity is tested

pub types : IsNumbered valid_order 0 part.TypeAt
types = numbered valid_order valid_at 0 valid_apart (λ k. refl) (λ k. refl)

pub imports : IsNumbered valid_order 1 part.ImportAt
imports = numbered valid_order valid_at 1 valid_apart (λ k. refl) (λ k. refl)

pub func_types : IsNumbered valid_order 2 part.FuncTypeAt
func_types = numbered valid_order valid_at 2 valid_apart (λ k. refl) (λ k. refl)

pub tables : IsSingle valid_order 3 part.TableAll
tables = single valid_order valid_at 3 part.TableAll valid_apart refl refl (λ k. refl)

pub memories : IsSingle valid_order 4 part.MemoryAll
memories = single valid_order valid_at 4 part.MemoryAll valid_apart refl refl (λ k. refl)

pub globals : IsNumbered valid_order 5 part.GlobalAt
globals = numbered valid_order valid_at 5 valid_apart (λ k. refl) (λ k. refl)

pub funcs : IsNumbered valid_order 6 part.FuncAt
funcs = numbered valid_order valid_at 6 valid_apart (λ k. refl) (λ k. refl)

pub exports : IsNumbered valid_order 7 part.ExportAt
exports = numbered valid_order valid_at 7 valid_apart (λ k. refl) (λ k. refl)

pub starts : IsSingle valid_order 8 part.StartAt
starts = single valid_order valid_at 8 part.StartAt valid_apart refl refl (λ k. refl)

pub elems : IsNumbered valid_order 9 part.ElemAt
elems = numbered valid_order valid_at 9 valid_apart (λ k. refl) (λ k. refl)

pub segments : IsNumbered valid_order 10 part.DataAt
segments = numbered valid_order valid_at 10 valid_apart (λ k. refl) (λ k. refl)

-- no kind comes after the data segments
last : (p : Part) → valid_order p < 11
last (part.TypeAt k) = omega arith
last (part.ImportAt k) = omega arith
last (part.FuncTypeAt f) = omega arith
last part.TableAll = omega arith
last part.MemoryAll = omega arith
last (part.GlobalAt g) = omega arith
last (part.FuncAt f) = omega arith
last (part.ExportAt k) = omega arith
last part.StartAt = omega arith
last (part.ElemAt k) = omega arith
last (part.DataAt k) = omega arith

pub all_parts : (P : Part → Type 0) → UpTo P valid_order 11 → (p : Part) → P p
all_parts P h p = h p (last p)

-- ---- the types, as bodies are tested with them

pub few_results : (m : Module) (n : ℕ) → 0 < n → UpTo (Holds m) valid_order n → FewResults m
few_results m n some earlier k d lt =
    at_some (λ (t : FuncType). length t.results ≤ 1) (slice_get m.types k) _ (slice_get-get_or m.types k d lt) (earlier (part.TypeAt k) (omega arith))

-- ---- the first part is one

-- two parts neither of which comes before the other
pub one_first : (P : Part → Type 0) (order : Part → ℕ) (at : ℕ → ℕ → Part) (p q : Part) → TellsApart order at → IsFirstWithout P order p
    → IsFirstWithout P order q → p ≡ q
one_first P order at p q apart h k = elim (cases_order (order p) (order q)) [
  | inl e ↦ elim (cases_order (part_number p) (part_number q)) [
    | inl f ↦ sym (apart.back p) ∙ ap (λ o. at o (part_number p)) e ∙ ap (at (order q)) f ∙ apart.back q
    | inr other ↦ elim other [ inl less ↦ absurd (h.0 (k.1 p (inr (e, less)))) | inr more ↦ absurd (k.0 (h.1 q (inr (sym e, more)))) ]
  ]
  | inr other ↦ elim other [ inl less ↦ absurd (h.0 (k.1 p (inl less))) | inr more ↦ absurd (k.0 (h.1 q (inl more))) ]
]
