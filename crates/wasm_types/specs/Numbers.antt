-- Numbers in LEB128 (WebAssembly Core Specification 1.0, section 5.2.2).
use Rattle.std.specs.Prelude.{◌≡◌, ℕ, zero, suc, ◌+◌, ◌*◌, ◌/◌, ◌%◌, ◌-◌, ◌<◌, ◌≤◌, ◌⊎◌, List, [], ◌∷◌, ℤ, if◌then◌else◌, nat_lt, min}
use Rattle.std.specs.Int.{cast_unsigned, w32, w64}

-- The bytes spell a number below the limit, 2 to the width. A byte below 128 is the last, and stands for itself. One from
-- 128 on has the low seven bits, and the bytes after it spell the rest, of a width that is less by seven.
abbrev pub SpellsUnsigned : ℕ → List ℕ → ℕ → Type 0
SpellsUnsigned limit [] n = ⊥
SpellsUnsigned limit (b ∷ []) n = (b < 128) × (b < limit) × (n ≡ b)
SpellsUnsigned limit (b ∷ c ∷ bs) n = (128 ≤ b) × (b < 256) × (128 < limit) × (high : ℕ) × (n + 128 ≡ b + 128 * high) × SpellsUnsigned (limit / 128) (c ∷ bs) high

-- The same for a signed number, by the number below the limit that is equal to it modulo the limit. A last byte from 64 on
-- stands for itself less 128. Half the limit is the least number that is too great.
abbrev pub SpellsSigned : ℕ → List ℕ → ℕ → Type 0
SpellsSigned half [] n = ⊥
SpellsSigned half (b ∷ []) n = ((b < 64) × (b < half) × (n ≡ b)) ⊎ ((64 ≤ b) × (b < 128) × (128 ≤ b + half) × (n + 128 ≡ b + 2 * half))
SpellsSigned half (b ∷ c ∷ bs) n = (128 ≤ b) × (b < 256) × (64 < half) × (high : ℕ) × (n + 128 ≡ b + 128 * high) × SpellsSigned (half / 128) (c ∷ bs) high

abbrev pub SpellsU32 : List ℕ → ℕ → Type 0
SpellsU32 = SpellsUnsigned 4294967296

abbrev pub SpellsS32 : List ℕ → ℕ → Type 0
SpellsS32 = SpellsSigned 2147483648

abbrev pub SpellsS64 : List ℕ → ℕ → Type 0
SpellsS64 = SpellsSigned 9223372036854775808

-- the signed number itself
abbrev pub SpellsI32 : List ℕ → ℤ → Type 0
SpellsI32 text z = SpellsS32 text (cast_unsigned w32 z)

abbrev pub SpellsI64 : List ℕ → ℤ → Type 0
SpellsI64 text z = SpellsS64 text (cast_unsigned w64 z)

-- The shortest text of a number, in at most so many bytes and one more.
unfoldable pub shortest_unsigned : ℕ → ℕ → List ℕ
shortest_unsigned zero n = n ∷ []
shortest_unsigned (suc more) n = if nat_lt n 128 then n ∷ [] else (n % 128 + 128) ∷ shortest_unsigned more (n / 128)

abbrev pub shortest_u32 : ℕ → List ℕ
shortest_u32 n = shortest_unsigned 4 n

-- The shortest text of a signed number, in at most so many bytes and one more.
unfoldable pub shortest_signed : ℕ → ℕ → ℕ → List ℕ
shortest_signed zero half n = if nat_lt n (min 64 half) then n ∷ [] else (n + 128 - 2 * half) ∷ []
shortest_signed (suc more) half n = if nat_lt n (min 64 half) then n ∷ [] else (if nat_lt (n + 64) (2 * half) then (n % 128 + 128) ∷ shortest_signed more (half / 128) (n / 128) else (n + 128 - 2 * half) ∷ [])

abbrev pub shortest_s32 : ℕ → List ℕ
shortest_s32 n = shortest_signed 4 2147483648 n

abbrev pub shortest_s64 : ℕ → List ℕ
shortest_s64 n = shortest_signed 9 9223372036854775808 n

-- half the limit of a number that takes so many bytes and one more, where the last has this much of it
abbrev pub half_of : ℕ → ℕ → ℕ
half_of base zero = base
half_of base (suc more) = 128 * half_of base more
