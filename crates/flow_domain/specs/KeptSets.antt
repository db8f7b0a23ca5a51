-- Sets of nodes: a flag for each node, by the number of the node.
use Rattle.std.specs.Prelude.{◌≡◌, ℕ, ◌+◌, ◌*◌, ◌⊎◌, List, Bool, true, false, count_by, slice_index_or}
use Rattle.wasm_types.specs.declared.place.Node.{Node}
use Rattle.wasm_types.specs.declared.place.Node.TheVariants as node

-- each node has a number of its own
abbrev pub number : Node → ℕ
number node.Exit = 0
number (node.At p) = 2 * p.0 + 1
number (node.Join b) = 2 * b.0 + 2

-- the flags, as far as there are any: what is past them is not in the set
abbrev pub KeptSet : Type 0
KeptSet = List Bool

abbrev pub holds : KeptSet → Node → Bool
holds K n = slice_index_or K (number n) false

-- how many nodes it holds
abbrev pub size : KeptSet → ℕ
size K = count_by (λ flag. flag) K

-- the new set holds what the old one does and this node, and no other
pub record IsWith (node : Node) (old new : KeptSet) : Type 0 where
  pub kept : (n : Node) → holds old n ≡ true → holds new n ≡ true
  pub there : holds new node ≡ true
  pub only : (n : Node) → holds new n ≡ true → (holds old n ≡ true) ⊎ (n ≡ node)

-- both hold the same nodes
pub record AreSame (old new : KeptSet) : Type 0 where
  pub nodes : (n : Node) → holds new n ≡ holds old n
  pub sizes : size new ≡ size old
