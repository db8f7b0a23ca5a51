-- Labels in batches of 64, by the numbers of nodes, and as words by node.
use Rattle.std.specs.Prelude.{◌≡◌, ◌↔◌, ℕ, ◌+◌, ◌*◌, ◌/◌, ◌%◌, ◌<◌, List, Option, None, Some, Vec, length, map, nat_eq, slice_get, slice_index, position}
use Rattle.std.specs.Global.{Global}
use Rattle.std.specs.List.{range_with_len}
use Rattle.worklist.specs.Bits.{HasBit}
use Rattle.worklist.specs.Reached.{Reached}
use Rattle.worklist.specs.declared.labels.Root.{Root}
use Rattle.worklist.specs.Roots.{IsRootOf}
use Rattle.sparse_reach.specs.declared.met.Edge.{Edge}
use Rattle.sparse_reach.specs.Met.{Listed}

-- for each of 64 labels the numbers that its roots lead to
abbrev pub AreLabels : List Root → List Edge → ℕ → List ℕ → Type 0
AreLabels roots edges batch words = (k o : ℕ) → o < 64 → HasBit 1 words k o ↔ Reached (IsRootOf roots (batch * 64 + o)) (Listed edges) k

abbrev pub AreBatches : List Root → List Edge → List (Vec ℕ Global) → Type 0
AreBatches roots edges batches = (b : ℕ) (words : Vec ℕ Global) → slice_get batches b ≡ Some words → AreLabels roots edges b words.items

-- the word of a number
abbrev pub word_of : List ℕ → Option ℕ → ℕ
word_of words None = 0
word_of words (Some k) = slice_index words k

abbrev pub word_in : Option (Vec ℕ Global) → Option ℕ → ℕ
word_in None number = 0
word_in (Some words) number = word_of words.items number

-- the words of each node, one a batch, node by node; those of a node that wasn't met are 0
abbrev pub by_node : ℕ → List ℕ → List (Vec ℕ Global) → List ℕ
by_node count nodes batches = map
    (λ at. word_in (slice_get batches (at % length batches)) (position (nat_eq (at / length batches)) nodes))
    (range_with_len 0 (count * length batches))
