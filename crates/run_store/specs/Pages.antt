-- What a page store holds (WebAssembly Core Specification 1.0, section 4.2.8), and what growing it gives (section 4.4.4).
use Rattle.std.specs.Prelude.{◌≡◌, ℕ, ◌+◌, ◌*◌, ◌<◌, ◌≤◌, ◌⊎◌, ◌&&◌, Bool, if◌then◌else◌, List, [], ◌∷◌, ◌++◌, length, replicate, All, Option, Some, None, nat_le}
use Rattle.wasm_types.specs.Hosts.{is_within}
use Rattle.wasm_meaning.specs.Memory.{bytes_at, written, most_of}

-- the number of pages, their bytes, the maximum that the memory declares, and the greatest number of pages that a run allows
pub record Paged : Type 0 where
  pub pages : ℕ
  pub bytes : List ℕ
  pub max : Option ℕ
  pub cap : ℕ

-- the greatest number of pages
abbrev pub most_pages : Option ℕ → ℕ → ℕ
most_pages max cap = most_of (record { min = 0; max = max } ∷ []) cap

abbrev pub IsByte : ℕ → Type 0
IsByte b = b < 256

-- 65,536 bytes a page, and no more pages than there may be
pub record IsPaged (p : Paged) : Type 0 where
  pub long : length p.bytes ≡ 65536 * p.pages
  pub below : p.pages ≤ most_pages p.max p.cap
  pub bytes : All IsByte p.bytes

-- so many pages of zeros
abbrev pub zero_pages : ℕ → List ℕ
zero_pages n = replicate (65536 * n) 0

abbrev pub can_grow : Paged → ℕ → Bool
can_grow p n = nat_le (p.pages + n) (most_pages p.max p.cap)

-- the number of pages before, where there may be so many more
abbrev pub grow_answer : Paged → ℕ → Option ℕ
grow_answer p n = if can_grow p n then Some p.pages else None

abbrev pub grown : Paged → ℕ → Paged
grown p n = if can_grow p n then record p { pages = p.pages + n; bytes = p.bytes ++ zero_pages n } else p

-- these bytes written from an address on, where they lie within
abbrev pub after_write : Paged → ℕ → List ℕ → Paged
after_write p at these = if is_within at (length these) (length p.bytes) then record p { bytes = written at these p.bytes } else p

-- a range may be copied to another address
abbrev pub can_copy : Paged → ℕ → ℕ → ℕ → Bool
can_copy p to from count = is_within from count (length p.bytes) && is_within to count (length p.bytes)

abbrev pub after_copy : Paged → ℕ → ℕ → ℕ → Paged
after_copy p to from count = if can_copy p to from count then record p { bytes = written to (bytes_at from count p.bytes) p.bytes } else p

-- how many bytes a load or a store moves
abbrev pub IsWidth : ℕ → Type 0
IsWidth n = (n ≡ 1) ⊎ ((n ≡ 2) ⊎ ((n ≡ 4) ⊎ (n ≡ 8)))
