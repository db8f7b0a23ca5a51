-- Bytes of the memory.
use Rattle.std.proofs.Common.{◌≡◌, ℕ, zero, suc, ◌+◌, ◌%◌, ◌<◌, ◌≤◌, List, [], ◌∷◌, Bool, true, false, ◌&&◌, nat_lt, Option, Some, None, IfSome, unwrap_or, length, All, refl, sym, ap, ◌∙◌, arith, mod-lt, ltb-true, leb-true, true≢false}
use Rattle.std.specs.List.{list_all}
use Rattle.std.proofs.lemmas.List.Elements.{All-nil, All-cons, All-head, All-tail}
use Rattle.wasm_types.specs.declared.module.Limits.{Limits}
use Rattle.wasm_meaning.specs.Cells.{cell, put}
use Rattle.wasm_meaning.specs.Memory.{bytes_of, bytes_at, written, most_of}
use Rattle.wasm_types.specs.Hosts.{is_within}

pub and_true : (a b : Bool) → (a && b) ≡ true → (a ≡ true) × (b ≡ true)
and_true true b e = (refl, e)
and_true false b e = absurd (true≢false (sym e))

abbrev pub IsByte : ℕ → Type 0
IsByte b = b < 256

abbrev pub AreBytes : List ℕ → Type 0
AreBytes bs = All IsByte bs

pub byte_of : (n : ℕ) → IsByte (n % 256)
byte_of n = mod-lt n {m = 256} (omega arith)

pub bytes_of_fit : (k n : ℕ) → AreBytes (bytes_of k n)
bytes_of_fit zero n = All-nil IsByte
bytes_of_fit (suc k) n = All-cons IsByte _ _ (byte_of n) (bytes_of_fit k _)

put_long : (k b : ℕ) (bytes : List ℕ) → k < length bytes → length (put 0 k b bytes) ≡ length bytes
put_long k b [] lt = absurd (omega arith)
put_long zero b (x ∷ bytes) lt = refl
put_long (suc k) b (x ∷ bytes) lt = ap suc (put_long k b bytes (omega arith))

put_bytes : (k b : ℕ) (bytes : List ℕ) → IsByte b → AreBytes bytes → AreBytes (put 0 k b bytes)
put_bytes zero b [] h g = All-cons IsByte b [] h g
put_bytes zero b (x ∷ bytes) h g = All-cons IsByte b bytes h (All-tail IsByte x bytes g)
put_bytes (suc k) b [] h g = All-cons IsByte 0 _ (omega arith) (put_bytes k b [] h g)
put_bytes (suc k) b (x ∷ bytes) h g = All-cons IsByte x _ (All-head IsByte x bytes g) (put_bytes k b bytes h (All-tail IsByte x bytes g))

pub written_long : (at : ℕ) (these bytes : List ℕ) → at + length these ≤ length bytes → length (written at these bytes) ≡ length bytes
written_long at [] bytes le = refl
written_long at (b ∷ these) bytes le =
    let e = put_long at b bytes (omega arith) in
    written_long (at + 1) these (put 0 at b bytes) (omega arith) ∙ e

pub written_bytes : (at : ℕ) (these bytes : List ℕ) → AreBytes these → AreBytes bytes → AreBytes (written at these bytes)
written_bytes at [] bytes h g = g
written_bytes at (b ∷ these) bytes h g =
    written_bytes (at + 1) these (put 0 at b bytes) (All-tail IsByte b these h) (put_bytes at b bytes (All-head IsByte b these h) g)

pub within_le : (at count long : ℕ) → is_within at count long ≡ true → at + count ≤ long
within_le at count long e = leb-true (at + count) long e

pub bytes_at_long : (at count : ℕ) (bytes : List ℕ) → length (bytes_at at count bytes) ≡ count
bytes_at_long at zero bytes = refl
bytes_at_long at (suc count) bytes = ap suc (bytes_at_long (at + 1) count bytes)

cell_byte : (bytes : List ℕ) (k : ℕ) → AreBytes bytes → IsByte (cell 0 bytes k)
cell_byte [] k h = omega arith
cell_byte (x ∷ bytes) zero h = All-head IsByte x bytes h
cell_byte (x ∷ bytes) (suc k) h = cell_byte bytes k (All-tail IsByte x bytes h)

pub bytes_at_fit : (at count : ℕ) (bytes : List ℕ) → AreBytes bytes → AreBytes (bytes_at at count bytes)
bytes_at_fit at zero bytes h = All-nil IsByte
bytes_at_fit at (suc count) bytes h = All-cons IsByte _ _ (cell_byte bytes at h) (bytes_at_fit (at + 1) count bytes h)

pub all_bytes : (bs : List ℕ) → list_all (λ b. nat_lt b 256) bs ≡ true → AreBytes bs
all_bytes [] e = All-nil IsByte
all_bytes (b ∷ bs) e = let h = and_true _ _ e in All-cons IsByte _ _ (ltb-true b 256 h.0) (all_bytes bs h.1)

-- ---- the greatest number of pages

max_holds : (o : Option ℕ) (n : ℕ) → n ≤ unwrap_or o 65536 → IfSome o (λ most. n ≤ most)
max_holds None n le = tt
max_holds (Some x) n le = le

pub most_caps : (ls : List Limits) (cap n : ℕ) → n ≤ most_of ls cap → (n ≤ 65536) × (n ≤ cap) × All (λ (l : Limits). IfSome l.max (λ most. n ≤ most)) ls
most_caps [] cap n le = (omega arith, omega arith, All-nil (λ (l : Limits). IfSome l.max (λ most. n ≤ most)))
most_caps (l ∷ ls) cap n le =
    let h = most_caps ls cap n (omega arith) in
    (h.0, h.1, All-cons (λ (l : Limits). IfSome l.max (λ most. n ≤ most)) l ls (max_holds l.max n (omega arith)) h.2)
