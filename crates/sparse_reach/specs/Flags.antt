-- The bits of words as flags, the lowest bit of each word first.
use Rattle.std.specs.Prelude.{ℕ, zero, suc, ◌+◌, List, [], ◌∷◌, ◌++◌, Bool, nat_eq}
use Rattle.std.specs.Int.{bit_at}

-- so many bits of a word, from bit j on
unfoldable pub flags_from : ℕ → ℕ → ℕ → List Bool
flags_from zero word j = []
flags_from (suc n) word j = nat_eq (bit_at word j) 1 ∷ flags_from n word (j + 1)

-- 64 of each word
unfoldable pub flags : List ℕ → List Bool
flags [] = []
flags (word ∷ words) = flags_from 64 word 0 ++ flags words
