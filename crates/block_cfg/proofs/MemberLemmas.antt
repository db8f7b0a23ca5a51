-- What stands in a list, by recursion on it, and lists that have nothing twice.
use Rattle.std.proofs.Common.{◌≡◌, ◌≢◌, ℕ, zero, suc, ◌+◌, ◌<◌, ◌≤◌, ◌⊎◌, inl, inr, List, [], ◌∷◌, ◌++◌, length, get_or, refl, sym, ap, ◌∙◌, subst, arith}
use Rattle.std.specs.List.{All, AllZip, Contains}
use Rattle.std.proofs.lemmas.List.Elements.{All-nil, All-cons}
use Rattle.std.proofs.lemmas.List.{get_or_default}
use Rattle.wasm_types.specs.declared.place.Node.{Node}
use Rattle.wasm_types.specs.declared.place.Node.TheVariants as node
use Rattle.wasm_types.specs.Sites.{Among}
use Rattle.block_cfg.specs.Graph.{number, EachOnce}
use Rattle.block_cfg.specs.Walk.{SameOnce}

among_at : {A : Type 0} (xs : List A) (k : ℕ) (x : A) → k < length xs → get_or xs k x ≡ x → Among xs x
among_at [] k x lt e = absurd (omega arith)
among_at (y ∷ ys) zero x lt e = inl e
among_at (y ∷ ys) (suc k) x lt e = inr (among_at ys k x (omega arith) e)

pub among_of : {A : Type 0} (xs : List A) (x : A) → Contains xs x → Among xs x
among_of xs x (k, lt, e) = among_at xs k x lt e

pub contains_of : {A : Type 0} (xs : List A) (x : A) → Among xs x → Contains xs x
contains_of [] x a = absurd a
contains_of (y ∷ ys) x (inl e) = (0, omega arith, e)
contains_of (y ∷ ys) x (inr a) = let c = contains_of ys x a in (suc c.0, omega (arith, c.1), c.2)

pub among_left : {A : Type 0} (xs ys : List A) (x : A) → Among xs x → Among (xs ++ ys) x
among_left [] ys x a = absurd a
among_left (z ∷ xs) ys x (inl e) = inl e
among_left (z ∷ xs) ys x (inr a) = inr (among_left xs ys x a)

pub among_right : {A : Type 0} (xs ys : List A) (x : A) → Among ys x → Among (xs ++ ys) x
among_right [] ys x a = a
among_right (z ∷ xs) ys x a = inr (among_right xs ys x a)

pub among_cases : {A : Type 0} (xs ys : List A) (x : A) → Among (xs ++ ys) x → Among xs x ⊎ Among ys x
among_cases [] ys x a = inr a
among_cases (z ∷ xs) ys x (inl e) = inl (inl e)
among_cases (z ∷ xs) ys x (inr a) = elim (among_cases xs ys x a) [ inl l ↦ inl (inr l) | inr r ↦ inr r ]

-- ---- nothing twice

abbrev pub Apart : List Node → Type 0
Apart [] = Unit {0}
Apart (x ∷ xs) = (Among xs x → ⊥) × Apart xs

apart_at : (xs : List Node) (i j : ℕ) (d : Node) → Apart xs → i < j → j < length xs → get_or xs i d ≢ get_or xs j d
apart_at [] i j d a lt in_xs = absurd (omega arith)
apart_at (x ∷ xs) i zero d a lt in_xs = absurd (omega arith)
apart_at (x ∷ xs) zero (suc j) d a lt in_xs =
    λ e. a.0 (among_at xs j x (omega arith) (sym (get_or_default xs j d x (omega arith)) ∙ sym e))
apart_at (x ∷ xs) (suc i) (suc j) d a lt in_xs = apart_at xs i j d a.1 (omega arith) (omega arith)

pub once_of : (xs : List Node) → Apart xs → EachOnce xs
once_of xs a i j d lt in_xs = apart_at xs i j d a lt in_xs

pub apart_push : (xs : List Node) (y : Node) → Apart xs → (Among xs y → ⊥) → Apart (xs ++ y ∷ [])
apart_push [] y a new = ((λ b. b), tt)
apart_push (x ∷ xs) y a new = (
  (λ b. elim (among_cases xs (y ∷ []) x b) [ inl l ↦ a.0 l | inr r ↦ elim r [ inl e ↦ new (inl (sym e)) | inr n ↦ n ] ]),
  apart_push xs y a.1 (λ b. new (inr b)),
)

-- the first of a list with nothing twice stands nowhere else
apart_from : (xs : List Node) → EachOnce xs → Apart xs
apart_from [] o = tt
apart_from (x ∷ xs) o = (
  (λ a. let c = contains_of xs x a in o 0 (suc c.0) x (omega arith) (omega (arith, c.1)) (sym c.2)),
  apart_from xs (λ i j d lt in_xs. o (suc i) (suc j) d (omega arith) (omega arith)),
)

pub apart_of : (xs : List Node) → EachOnce xs → Apart xs
apart_of xs o = apart_from xs o

pub once_push : (xs : List Node) (y : Node) → EachOnce xs → (Contains xs y → ⊥) → EachOnce (xs ++ y ∷ [])
once_push xs y o new = once_of (xs ++ y ∷ []) (apart_push xs y (apart_of xs o) (λ a. new (contains_of xs y a)))

pub once_nil : EachOnce []
once_nil = once_of [] tt

pub once_one : (x : Node) → EachOnce (x ∷ [])
once_one x = once_of (x ∷ []) ((λ b. b), tt)

-- ---- numbers

pub number_injective : (a b : Node) → number a ≡ number b → a ≡ b
number_injective node.Exit node.Exit e = refl
number_injective node.Exit (node.At q) e = absurd (omega arith)
number_injective node.Exit (node.Join q) e = absurd (omega arith)
number_injective (node.At p) node.Exit e = absurd (omega arith)
number_injective (node.At p) (node.At q) e = let f : p.0 ≡ q.0 = omega arith in ap (λ (n : ℕ). node.At (record { 0 = n })) f
number_injective (node.At p) (node.Join q) e = absurd (omega arith)
number_injective (node.Join p) node.Exit e = absurd (omega arith)
number_injective (node.Join p) (node.At q) e = absurd (omega arith)
number_injective (node.Join p) (node.Join q) e = let f : p.0 ≡ q.0 = omega arith in ap (λ (n : ℕ). node.Join (record { 0 = n })) f

-- numbers that rise, from at least this one on
abbrev pub Rises : ℕ → List Node → Type 0
Rises low [] = Unit {0}
Rises low (x ∷ xs) = (low ≤ number x) × Rises (number x + 1) xs

pub rises_from : (low low' : ℕ) (xs : List Node) → low ≤ low' → Rises low' xs → Rises low xs
rises_from low low' [] le r = tt
rises_from low low' (x ∷ xs) le r = (omega (arith, r.0), r.1)

pub rises_above : (low : ℕ) (xs : List Node) (x : Node) → Rises low xs → Among xs x → low ≤ number x
rises_above low [] x r a = absurd a
rises_above low (y ∷ ys) x r (inl e) = subst (λ z. low ≤ number z) e r.0
rises_above low (y ∷ ys) x r (inr a) = let h : number y + 1 ≤ number x = rises_above (number y + 1) ys x r.1 a in omega (arith, r.0, h)

pub rises_apart : (low : ℕ) (xs : List Node) → Rises low xs → Apart xs
rises_apart low [] r = tt
rises_apart low (x ∷ xs) r = (
  (λ a. let h : number x + 1 ≤ number x = rises_above (number x + 1) xs x r.1 a in absurd (omega arith)),
  rises_apart (number x + 1) xs r.1,
)

-- ---- rows

pub zip_append : (xs xs' ys ys' : List (List Node)) → AllZip SameOnce xs ys → AllZip SameOnce xs' ys' → AllZip SameOnce (xs ++ xs') (ys ++ ys')
zip_append [] xs' [] ys' a b = b
zip_append [] xs' (y ∷ ys) ys' a b = absurd a
zip_append (x ∷ xs) xs' [] ys' a b = absurd a
zip_append (x ∷ xs) xs' (y ∷ ys) ys' a b = (a.0, zip_append xs xs' ys ys' a.1 b)

pub zip_once : (xs ys : List (List Node)) → AllZip SameOnce xs ys → All EachOnce xs
zip_once [] ys a = All-nil EachOnce
zip_once (x ∷ xs) [] a = absurd a
zip_once (x ∷ xs) (y ∷ ys) a = All-cons EachOnce x xs a.0.1 (zip_once xs ys a.1)

-- the same row of either
zip_at : (xs ys : List (List Node)) (k : ℕ) (n : Node) → AllZip SameOnce xs ys
    → (Contains (get_or xs k []) n → Contains (get_or ys k []) n) × (Contains (get_or ys k []) n → Contains (get_or xs k []) n)
zip_at [] [] k n a = ((λ c. c), (λ c. c))
zip_at [] (y ∷ ys) k n a = absurd a
zip_at (x ∷ xs) [] k n a = absurd a
zip_at (x ∷ xs) (y ∷ ys) zero n a = (a.0.0 n)
zip_at (x ∷ xs) (y ∷ ys) (suc k) n a = zip_at xs ys k n a.1

pub zip_row : (xs ys : List (List Node)) (k : ℕ) (n : Node) → AllZip SameOnce xs ys
    → (Contains (get_or xs k []) n → Contains (get_or ys k []) n) × (Contains (get_or ys k []) n → Contains (get_or xs k []) n)
zip_row xs ys k n a = zip_at xs ys k n a

pub same_nil : SameOnce [] []
same_nil = ((λ n. ((λ c. c), (λ c. c))), once_nil)

pub same_one : (x : Node) → SameOnce (x ∷ []) (x ∷ [])
same_one x = ((λ n. ((λ c. c), (λ c. c))), once_one x)
