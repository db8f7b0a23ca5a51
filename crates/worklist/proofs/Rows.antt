-- A row of a table of lists, and what the table has there.
use Rattle.std.proofs.Common.{◌≡◌, ℕ, List, [], ◌∷◌, Some, Vec, Global, sym, ◌∙◌, subst, refl, arith}
use Rattle.std.specs.Prelude.{slice_get}
use Rattle.std.specs.List.{Contains}
use Rattle.worklist.specs.Gains.{Gains}
use Rattle.worklist.specs.Lists.{Has}
use Rattle.worklist.proofs.Pushing.{gains_same}

pub has_of_row : (table : List (Vec ℕ Global)) (x : ℕ) (row : Vec ℕ Global) (list : List ℕ) → slice_get table x ≡ Some row → list ≡ row.items → (b : ℕ)
    → Contains list b → Has table x b
has_of_row table x row list is same b h = (row, (is, rw same at h))

same_row : (a b : Vec ℕ Global) → Some a ≡ Some b → a ≡ b
same_row a b e = cc

pub row_of_has : (table : List (Vec ℕ Global)) (x : ℕ) (row : Vec ℕ Global) (list : List ℕ) → slice_get table x ≡ Some row → list ≡ row.items → (b : ℕ)
    → Has table x b → Contains list b
row_of_has table x row list is same b (r, (at, h)) = rw same (subst (λ (z : Vec ℕ Global). Contains z.items b) (same_row r row (sym at ∙ is)) h)

-- what was pushed for each entry of a row is pushed for each that the table has there
pub gains_has : (table : List (Vec ℕ Global)) (x : ℕ) (row : Vec ℕ Global) (list front xs ys : List ℕ) (Q : ℕ → ℕ → Type 0) → slice_get table x ≡ Some row
    → list ≡ row.items → front ≡ list → Gains (λ y. (b : ℕ) × (Contains front b × Q b y)) xs ys → Gains (λ y. (b : ℕ) × (Has table x b × Q b y)) xs ys
gains_has table x row list front xs ys Q is same whole g =
    gains_same (λ y. (b : ℕ) × (Contains front b × Q b y)) (λ y. (b : ℕ) × (Has table x b × Q b y)) xs ys
    (λ y h. (h.0, (has_of_row table x row list is same h.0 (rw whole at h.1.0), h.1.1)))
    (λ y h. (h.0, (rw whole (row_of_has table x row list is same h.0 h.1.0), h.1.1))) g

-- the entries of a row are pushed as they are
pub gains_row : (table : List (Vec ℕ Global)) (x : ℕ) (row : Vec ℕ Global) (list front xs ys : List ℕ) → slice_get table x ≡ Some row → list ≡ row.items
    → front ≡ list → Gains (Contains front) xs ys → Gains (Has table x) xs ys
gains_row table x row list front xs ys is same whole g =
    gains_same (Contains front) (Has table x) xs ys
    (λ y h. has_of_row table x row list is same y (rw whole at h))
    (λ y h. rw whole (row_of_has table x row list is same y h)) g

-- a list of one
pub only_one : (x y : ℕ) → Contains (y ∷ []) x → x ≡ y
only_one x y (k, lt, is) = let zero_is : k ≡ 0 = omega arith in sym (rw zero_is at is)

pub that_one : (x y : ℕ) → x ≡ y → Contains (y ∷ []) x
that_one x y e = rw e (0, omega arith, refl)
