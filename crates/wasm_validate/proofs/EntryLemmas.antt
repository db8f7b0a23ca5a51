-- The least number of which a property doesn't hold, where the numbers are those of the entries of a list.
use Rattle.std.proofs.Common.{◌≡◌, ℕ, ◌+◌, ◌-◌, ◌<◌, ◌≤◌, inl, inr, List, length, get_or, Option, Some, None, refl, sym, ap, ◌∙◌, subst, arith, below_more}
use Rattle.std.specs.Prelude.{All, IfSome, slice_get}
use Rattle.std.specs.List.{AllWithin, HoldsAt}
use Rattle.std.specs.Option.{option_map}
use Rattle.std.proofs.lemmas.Option.{slice_get_within, get_or_from_slice_get, slice_get-get_or, slice_get_cases}
use Rattle.wasm_validate.specs.First.{FindsNumber}

-- ---- entries of lists

pub if_some : {X : Type 0} (P : X → Type 0) (o : Option X) → ((x : X) → o ≡ Some x → P x) → IfSome o P
if_some P None h = tt
if_some P (Some x) h = h x refl

pub at_some : {X : Type 0} (P : X → Type 0) (o : Option X) (x : X) → o ≡ Some x → IfSome o P → P x
at_some P o x e h = let g : IfSome (Some x) P = subst (λ (p : Option _). IfSome p P) e h in g

pub from_some : {X : Type 0} (P : X → Type 0) (o : Option X) (x : X) → o ≡ Some x → P x → IfSome o P
from_some P o x e h = subst (λ (p : Option _). IfSome p P) (sym e) h

pub all_at : {X : Type 0} (P : X → Type 0) (xs : List X) (k : ℕ) (x : X) → slice_get xs k ≡ Some x → All P xs → P x
all_at P xs k x e h = subst P (get_or_from_slice_get xs k x x e) (h k x (slice_get_within xs k x e))

-- the entry of this number, if there is one, has the property
abbrev pub Has : {X : Type 0} → (X → Type 0) → List X → ℕ → Type 0
Has P xs k = IfSome (slice_get xs k) P

-- where a number is found there is an entry
pub found_within : {X : Type 0} (P : X → Type 0) (xs : List X) (k : ℕ) → (Has P xs k → ⊥) → k < length xs
found_within P xs k bad =
    elim (slice_get_cases xs k).1 [
      | inl there ↦ there.1
      | inr past ↦ absurd (bad (if_some P (slice_get xs k) (λ x e. let g : None ≡ Some x = sym past.1 ∙ e in absurd cc)))
    ]

-- ---- a loop over a list

-- entry k, as a loop over an equal list reads it
pub entry : {X : Type 0} (all xs : List X) (k : ℕ) (x : X) → all ≡ xs → k < length all → x ≡ get_or all k x → slice_get xs k ≡ Some x
entry {X} all xs k x e lt is = subst (λ (ys : List X). slice_get ys k ≡ Some x) e (slice_get-get_or all k x lt ∙ ap Some (sym is))

pub one_more : {X : Type 0} (P : X → Type 0) (xs : List X) (k : ℕ) (x : X) → slice_get xs k ≡ Some x → P x → ((j : ℕ) → j < k → Has P xs j) → (j : ℕ)
    → j < k + 1 → Has P xs j
one_more P xs k x e h before = below_more (Has P xs) k before (from_some P (slice_get xs k) x e h)

pub found_here : {X : Type 0} (P : X → Type 0) (xs : List X) (k : ℕ) (x : X) → slice_get xs k ≡ Some x → (P x → ⊥) → ((j : ℕ) → j < k → Has P xs j)
    → FindsNumber (Has P xs) (Some k)
found_here P xs k x e bad before = (λ h. bad (at_some P (slice_get xs k) x e h), before)

pub none_left : {X : Type 0} (P : X → Type 0) (all xs : List X) (k : ℕ) → all ≡ xs → length all ≤ k → ((j : ℕ) → j < k → Has P xs j) → (j : ℕ) → Has P xs j
none_left P all xs k e le before j = if_some P (slice_get xs j) (λ x is. at_some P (slice_get xs j) x is (before j (let lt = slice_get_within xs j x is in let same = ap length e in omega arith)))

-- ---- a search by position

-- what holds of the entries below n holds of an entry that is below n where it is there
holds_below : {X : Type 0} (P : X → Type 0) (xs : List X) (n k : ℕ) → AllWithin P xs 0 n → (k < length xs → k < n) → IfSome (slice_get xs k) P
holds_below {X} P xs n k all lt = elim (slice_get_cases xs k).1 [
  | inl h ↦ rw h.2 (subst P h.3 (all k h.0 (omega arith) (lt h.1)))
  | inr h ↦ rw h.1 tt
]

-- the entry that a search finds
pub first_entry : {X : Type 0} (P : X → Type 0) (xs : List X) (k : ℕ) → (k < length xs) × HoldsAt (λ x. P x → ⊥) xs k × AllWithin P xs 0 k
    → FindsNumber (λ j. IfSome (slice_get xs j) P) (Some k)
first_entry P xs k found = (
  λ h. elim (slice_get_cases xs k).1 [
    | inl x ↦ found.1 x.0 (subst P (sym x.3) (rw x.2 at h))
    | inr past ↦ absurd (omega (arith, past.0, found.0))
  ],
  λ j lt. holds_below P xs k j found.2 (λ _. lt),
)

-- numbers whose first n aren't of entries
abbrev pub HoldsOwn : {X : Type 0} → (X → Type 0) → List X → ℕ → ℕ → Type 0
HoldsOwn {X} P xs n g = (x : X) → n ≤ g → slice_get xs (g - n) ≡ Some x → P x

pub first_own : {X : Type 0} (P : X → Type 0) (xs : List X) (n k g : ℕ) → g ≡ n + k
    → (k < length xs) × HoldsAt (λ x. P x → ⊥) xs k × AllWithin P xs 0 k → FindsNumber (HoldsOwn P xs n) (Some g)
first_own P xs n k g e found = (
  λ h. elim (slice_get_cases xs k).1 [
    | inl x ↦ found.1 x.0 (subst P (sym x.3) (h x.0 (omega arith) (ap (slice_get xs) (omega arith) ∙ x.2)))
    | inr past ↦ absurd (omega (arith, past.0, found.0))
  ],
  λ j lt x le is. rw is at (holds_below P xs k (j - n) found.2 (λ _. omega (arith, lt, le, e))),
)

-- ---- own numbers, which begin after the imported ones

pub found_own : (base : ℕ) (H Q : ℕ → Type 0) (r : Option ℕ) → ((f : ℕ) → (base ≤ f → Q (f - base)) → H f) → ((k : ℕ) → H (base + k) → Q k)
    → FindsNumber Q r → FindsNumber H (option_map (λ k. base + k) r)
found_own base H Q None into back h = λ f. into f (λ le. h (f - base))
found_own base H Q (Some k) into back h = (λ bad. h.0 (back k bad), λ j lt. into j (λ le. h.1 (j - base) (omega arith)))
