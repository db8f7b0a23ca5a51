-- Ranges of bytes, and numbers in them.
use Rattle.std.proofs.Common.{◌≡◌, ℕ, zero, suc, ◌+◌, ◌-◌, ◌*◌, ◌/◌, ◌%◌, ◌^◌, ◌<◌, ◌≤◌, List, [], ◌∷◌, ◌++◌, length, take, drop, replicate, get_or, set, All, refl, sym, ap, ap₂, ◌∙◌, arith, mod-lt}
use Rattle.std.specs.Int.{w16, w32, w64, from_le_bytes, to_le_bytes, bytes_low_first}
use Rattle.std.proofs.lemmas.List.{append_assoc, drop-drop, drop_more, take_at, length-take-le, length-drop, length-append, length-replicate}
use Rattle.std.proofs.Math.Nat.{div-div-eq-div-mul, pow-suc}
use Rattle.std.proofs.lemmas.List.Edits.{sets, sets-eq}
use Rattle.std.proofs.lemmas.List.Elements.{All-nil, All-cons, All-append, All-take, All-drop, All-same}
use Rattle.std.specs.List.{copy_within}
use Rattle.std.proofs.Math.Seq.{paste}
use borrow.Rule.Slice.PartMut.{put_mid}
use Rattle.wasm_meaning.specs.Cells.{cell, put}
use Rattle.wasm_meaning.specs.Memory.{bytes_of, number_from, bytes_at, written}
use Rattle.run_store.specs.Pages.{Paged, IsByte, IsPaged}

-- ---- ranges

put_set : (k b : ℕ) (xs : List ℕ) → k < length xs → put 0 k b xs ≡ set xs k b
put_set k b [] lt = absurd (omega arith)
put_set zero b (x ∷ xs) lt = refl
put_set (suc k) b (x ∷ xs) lt = ap (λ l. x ∷ l) (put_set k b xs (omega arith))

length_put : (k b : ℕ) (xs : List ℕ) → k < length xs → length (put 0 k b xs) ≡ length xs
length_put k b [] lt = absurd (omega arith)
length_put zero b (x ∷ xs) lt = refl
length_put (suc k) b (x ∷ xs) lt = ap suc (length_put k b xs (omega arith))

-- a write within the list, byte by byte
pub written_sets : (at : ℕ) (these xs : List ℕ) → at + length these ≤ length xs → written at these xs ≡ sets xs at these
written_sets at [] xs le = refl
written_sets at (b ∷ these) xs le =
    let e = length_put at b xs (omega arith) in
    let n : at + 1 ≡ suc at = omega arith in
    written_sets (at + 1) these (put 0 at b xs) (omega arith) ∙ ap₂ {A = List ℕ} {B = ℕ} (λ l k. sets l k these) (put_set at b xs (omega arith)) n

-- a write within the list, as what stands before, the new bytes, and what stands after
pub written_is : (at : ℕ) (these xs : List ℕ) → at + length these ≤ length xs → written at these xs ≡ take at xs ++ (these ++ drop (at + length these) xs)
written_is at these xs le = written_sets at these xs le ∙ (sets-eq these xs at le ∙ append_assoc (take at xs) these (drop (at + length these) xs))

cell_is : (xs : List ℕ) (k : ℕ) → cell 0 xs k ≡ get_or xs k 0
cell_is [] k = refl
cell_is (x ∷ xs) zero = refl
cell_is (x ∷ xs) (suc k) = cell_is xs k

pub bytes_at_is : (at count : ℕ) (xs : List ℕ) → at + count ≤ length xs → bytes_at at count xs ≡ take count (drop at xs)
bytes_at_is at zero xs le = refl
bytes_at_is at (suc count) xs le =
    ap₂ {A = ℕ} {B = List ℕ} (λ x l. x ∷ l) (cell_is xs at) (bytes_at_is (at + 1) count xs (omega arith))
    ∙ sym (ap (take (suc count)) (drop_more xs at 0 (omega arith)))

pub bytes_at_long : (at count : ℕ) (xs : List ℕ) → length (bytes_at at count xs) ≡ count
bytes_at_long at zero xs = refl
bytes_at_long at (suc count) xs = ap suc (bytes_at_long (at + 1) count xs)

pub bytes_of_long : (k n : ℕ) → length (bytes_of k n) ≡ k
bytes_of_long zero n = refl
bytes_of_long (suc k) n = ap suc (bytes_of_long k (n / 256))

-- what a write to a part leaves
pub part_written : (at k n : ℕ) (xs ys these : List ℕ) → n ≡ k → ys ≡ these → length these ≡ k → at + k ≤ length xs → put_mid at n xs ys ≡ written at these xs
part_written at k n xs ys these n_is same long le =
    let e : drop n (drop at xs) ≡ drop (at + length these) xs = drop-drop n at xs ∙ ap (λ j. drop (at + j) xs) (n_is ∙ sym long) in
    ap₂ {A = List ℕ} {B = List ℕ} (λ l m. take at xs ++ (l ++ m)) same e ∙ sym (written_is at these xs (omega arith))

-- ---- bytes of numbers

pub bytes_of_fit : (k n : ℕ) → All IsByte (bytes_of k n)
bytes_of_fit zero n = All-nil IsByte
bytes_of_fit (suc k) n = All-cons IsByte (n % 256) _ (mod-lt n {m = 256} (omega arith)) (bytes_of_fit k _)

pub bytes_at_fit : (at count : ℕ) (xs : List ℕ) → at + count ≤ length xs → All IsByte xs → All IsByte (bytes_at at count xs)
bytes_at_fit at count xs le h = All-same IsByte _ _ (bytes_at_is at count xs le) (All-take IsByte count _ (All-drop IsByte at xs h))

pub written_fit : (at : ℕ) (these xs : List ℕ) → at + length these ≤ length xs → All IsByte these → All IsByte xs → All IsByte (written at these xs)
written_fit at these xs le h g =
    All-same IsByte _ _ (written_is at these xs le) (All-append IsByte _ _ (All-take IsByte at xs g) (All-append IsByte these _ h (All-drop IsByte _ xs g)))

pub written_long : (at : ℕ) (these xs : List ℕ) → at + length these ≤ length xs → length (written at these xs) ≡ length xs
written_long at these xs le =
    ap length (written_is at these xs le) ∙ (simp length-append (omega (arith, length-take-le at xs (omega arith), length-drop (at + length these) xs)))

-- pages stay pages where bytes are written within them
pub still_paged : {p : Paged} {xs : List ℕ} (n at : ℕ) (rest these : List ℕ) → IsPaged p → xs ≡ written at these p.bytes → at + length these ≤ length p.bytes
    → All IsByte these → n ≡ length p.bytes → IsPaged (record p { bytes = take n (xs ++ rest) })
still_paged {p} {xs} n at rest these h same le fit long =
    let w = written_long at these p.bytes le in
    let e : take n (xs ++ rest) ≡ written at these p.bytes = take_at xs rest n (ap length same ∙ (w ∙ sym long)) ∙ same in
    record {
      long = ap length e ∙ (w ∙ h.long);
      below = h.below;
      bytes = All-same IsByte _ _ e (written_fit at these p.bytes le fit h.bytes);
    }

-- ---- numbers as std has them

low_first_is : (i k n : ℕ) → bytes_low_first (suc i) k n ≡ bytes_of k (n / 256 ^ suc i)
low_first_is i zero n = refl
low_first_is i (suc k) n =
    let e : n / 256 ^ suc i / 256 ≡ n / 256 ^ suc (suc i) = div-div-eq-div-mul n (256 ^ suc i) 256 ∙ ap (λ m. n / m) (sym (pow-suc 256 (suc i))) in
    ap (λ l. (n / 256 ^ suc i % 256) ∷ l) (low_first_is (suc i) k n ∙ sym (ap (bytes_of k) e))

-- the bytes of a number, as std writes all eight
pub all_bytes : (n : ℕ) → to_le_bytes w64 n ≡ bytes_of 8 n
all_bytes n = ap (λ l. n % 256 ∷ l) (low_first_is 0 7 n)

-- the number that std reads in bytes
pub two : (a b : ℕ) → from_le_bytes w16 (a ∷ b ∷ []) ≡ number_from (a ∷ b ∷ [])
two a b = omega arith

pub four : (a b c d : ℕ) → from_le_bytes w32 (a ∷ b ∷ c ∷ d ∷ []) ≡ number_from (a ∷ b ∷ c ∷ d ∷ [])
four a b c d = omega arith

pub eight : (a b c d e f g h : ℕ) → from_le_bytes w64 (a ∷ b ∷ c ∷ d ∷ e ∷ f ∷ g ∷ h ∷ []) ≡ number_from (a ∷ b ∷ c ∷ d ∷ e ∷ f ∷ g ∷ h ∷ [])
eight a b c d e f g h = omega arith

-- ---- a few bytes one by one

more : (xs : List ℕ) {these those : List ℕ} (j k : ℕ) → j ≡ k → these ≡ those → get_or xs j 0 ∷ these ≡ cell 0 xs k ∷ those
more xs j k e rest = ap₂ {A = ℕ} {B = List ℕ} (λ x l. x ∷ l) (ap (λ i. get_or xs i 0) e ∙ sym (cell_is xs k)) rest

pub two_bytes : (at : ℕ) (xs : List ℕ) → get_or xs at 0 ∷ get_or xs (at + 1) 0 ∷ [] ≡ bytes_at at 2 xs
two_bytes at xs = more xs at at refl (more xs (at + 1) (at + 1) refl refl)

pub four_bytes : (at : ℕ) (xs : List ℕ) → get_or xs at 0 ∷ get_or xs (at + 1) 0 ∷ get_or xs (at + 2) 0 ∷ get_or xs (at + 3) 0 ∷ [] ≡ bytes_at at 4 xs
four_bytes at xs =
    more xs at at refl (more xs (at + 1) (at + 1) refl (more xs (at + 2) (at + 1 + 1) (omega arith) (more xs (at + 3) (at + 1 + 1 + 1) (omega arith) refl)))

pub eight_bytes : (at : ℕ) (xs : List ℕ)
    → get_or xs at 0 ∷ get_or xs (at + 1) 0 ∷ get_or xs (at + 2) 0 ∷ get_or xs (at + 3) 0
    ∷ get_or xs (at + 4) 0 ∷ get_or xs (at + 5) 0 ∷ get_or xs (at + 6) 0 ∷ get_or xs (at + 7) 0 ∷ []
    ≡ bytes_at at 8 xs
eight_bytes at xs =
    let back : get_or xs (at + 4) 0 ∷ get_or xs (at + 5) 0 ∷ get_or xs (at + 6) 0 ∷ get_or xs (at + 7) 0 ∷ [] ≡ bytes_at (at + 1 + 1 + 1 + 1) 4 xs =
    more xs (at + 4) (at + 1 + 1 + 1 + 1) (omega arith) (more xs (at + 5) (at + 1 + 1 + 1 + 1 + 1) (omega arith)
    (more xs (at + 6) (at + 1 + 1 + 1 + 1 + 1 + 1) (omega arith) (more xs (at + 7) (at + 1 + 1 + 1 + 1 + 1 + 1 + 1) (omega arith) refl))) in
    more xs at at refl (more xs (at + 1) (at + 1) refl (more xs (at + 2) (at + 1 + 1) (omega arith) (more xs (at + 3) (at + 1 + 1 + 1) (omega arith) back)))

set_too : {xs ys : List ℕ} (i j b : ℕ) → i ≡ j → xs ≡ ys → set xs i b ≡ set ys j b
set_too i j b e same = ap₂ {A = List ℕ} {B = ℕ} (λ l k. set l k b) same e

pub sets_one : (at a : ℕ) (xs : List ℕ) → at + 1 ≤ length xs → set xs at a ≡ written at (a ∷ []) xs
sets_one at a xs le = sym (written_sets at (a ∷ []) xs (omega arith))

pub sets_two : (at a b : ℕ) (xs : List ℕ) → at + 2 ≤ length xs → set (set xs at a) (at + 1) b ≡ written at (a ∷ b ∷ []) xs
sets_two at a b xs le = set_too (at + 1) (suc at) b (omega arith) refl ∙ sym (written_sets at (a ∷ b ∷ []) xs (omega arith))

pub sets_four : (at a b c d : ℕ) (xs : List ℕ) → at + 4 ≤ length xs
    → set (set (set (set xs at a) (at + 1) b) (at + 2) c) (at + 3) d ≡ written at (a ∷ b ∷ c ∷ d ∷ []) xs
sets_four at a b c d xs le =
    set_too (at + 3) (suc (suc (suc at))) d (omega arith) (set_too (at + 2) (suc (suc at)) c (omega arith) (set_too (at + 1) (suc at) b (omega arith) refl))
    ∙ sym (written_sets at (a ∷ b ∷ c ∷ d ∷ []) xs (omega arith))

pub sets_eight : (at a b c d e f g h : ℕ) (xs : List ℕ) → at + 8 ≤ length xs
    → set (set (set (set (set (set (set (set xs at a) (at + 1) b) (at + 2) c) (at + 3) d) (at + 4) e) (at + 5) f) (at + 6) g) (at + 7) h
    ≡ written at (a ∷ b ∷ c ∷ d ∷ e ∷ f ∷ g ∷ h ∷ []) xs
sets_eight at a b c d e f g h xs le =
    let front = set_too (at + 3) (suc (suc (suc at))) d (omega arith)
    (set_too (at + 2) (suc (suc at)) c (omega arith) (set_too {xs = set xs at a} {ys = set xs at a} (at + 1) (suc at) b (omega arith) refl)) in
    set_too (at + 7) (suc (suc (suc (suc (suc (suc (suc at))))))) h (omega arith) (set_too (at + 6) (suc (suc (suc (suc (suc (suc at)))))) g (omega arith)
    (set_too (at + 5) (suc (suc (suc (suc (suc at))))) f (omega arith) (set_too (at + 4) (suc (suc (suc (suc at)))) e (omega arith) front)))
    ∙ sym (written_sets at (a ∷ b ∷ c ∷ d ∷ e ∷ f ∷ g ∷ h ∷ []) xs (omega arith))

-- a copy within a list, as std writes it
pub copied : (to from count : ℕ) (xs : List ℕ) → from + count ≤ length xs → to + count ≤ length xs
    → copy_within xs from (from + count) to ≡ written to (bytes_at from count xs) xs
copied to from count xs inside within =
    let n : from + count - from ≡ count = omega arith in
    let e = bytes_at_is from count xs inside in
    let long = bytes_at_long from count xs in
    ap (paste xs to (drop from xs)) n
    ∙ (append_assoc (take to xs) (take count (drop from xs)) (drop (to + count) xs)
    ∙ (ap₂ {A = List ℕ} {B = ℕ} (λ l k. take to xs ++ (l ++ drop (to + k) xs)) (sym e) (sym long)
    ∙ sym (written_is to (bytes_at from count xs) xs (omega arith))))
