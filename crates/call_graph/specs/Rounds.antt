-- Rows of labels that nodes give on along edges.
use Rattle.std.specs.Prelude.{◌≡◌, ℕ, ◌*◌, ◌<◌, List, length}
use Rattle.worklist.specs.Bits.{HasBit}
use Rattle.worklist.specs.Reached.{Reached}

-- the new bits are the old ones and what comes from them along edges
pub record Spreads (words : ℕ) (E : ℕ → ℕ → Type 0) (bits bits' : List ℕ) : Type 0 where
  pub length_is : length bits' ≡ length bits
  pub kept : (x o : ℕ) → o < words * 64 → HasBit words bits x o → HasBit words bits' x o
  pub only : (x o : ℕ) → o < words * 64 → HasBit words bits' x o → Reached (λ y. HasBit words bits y o) E x

-- nothing more comes along the edges
abbrev pub IsClosed : ℕ → (ℕ → ℕ → Type 0) → List ℕ → Type 0
IsClosed words E bits = (y x o : ℕ) → o < words * 64 → E y x → HasBit words bits y o → HasBit words bits x o
