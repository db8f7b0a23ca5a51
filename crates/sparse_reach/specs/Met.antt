-- Nodes that were met, by number, and edges between their numbers.
use Rattle.std.specs.Prelude.{◌≡◌, ◌⊎◌, ℕ, ◌<◌, List, [], length, slice_index}
use Rattle.std.specs.List.{Contains}
use Rattle.worklist.specs.Reached.{Reached}
use Rattle.worklist.specs.declared.labels.Root.{Root}
use Rattle.worklist.specs.Roots.{IsRootOf}
use Rattle.sparse_reach.specs.declared.met.Edge.{Edge}

-- k is the number of a node: its place in the order in which nodes were met
abbrev pub IsNumber : List ℕ → ℕ → ℕ → Type 0
IsNumber nodes node k = (k < length nodes) × (slice_index nodes k ≡ node)

abbrev pub Listed : List Edge → ℕ → ℕ → Type 0
Listed edges j k = Contains edges (record { from = j; to = k })

-- what is met waits, and nothing else
pub record Waits (nodes nodes' waiting waiting' : List ℕ) : Type 0 where
  pub kept : (k : ℕ) → Contains waiting k → Contains waiting' k
  pub new : (k : ℕ) → k < length nodes' → (k < length nodes) ⊎ Contains waiting' k
  pub only : (k : ℕ) → Contains waiting' k → Contains waiting k ⊎ (k < length nodes')

-- a node is met, which now has a number, and no other
pub record MeetsOne (nodes nodes' waiting waiting' : List ℕ) (node number : ℕ) : Type 0 where
  pub kept : (x k : ℕ) → IsNumber nodes x k → IsNumber nodes' x k
  pub here : IsNumber nodes' node number
  pub only : (x k : ℕ) → IsNumber nodes' x k → IsNumber nodes x k ⊎ (x ≡ node)
  pub waits : Waits nodes nodes' waiting waiting'

-- the same roots, by the numbers of their nodes; no other nodes are met, and all of them wait
pub record AreStarts (roots : List Root) (nodes waiting : List ℕ) (starts : List Root) : Type 0 where
  pub all : (o x : ℕ) → IsRootOf roots o x → (k : ℕ) × (IsNumber nodes x k × IsRootOf starts o k)
  pub only : (o k : ℕ) → IsRootOf starts o k → (x : ℕ) × (IsNumber nodes x k × IsRootOf roots o x)
  pub met : (x k : ℕ) → IsNumber nodes x k → (o : ℕ) × IsRootOf roots o x
  pub waits : Waits [] nodes [] waiting

-- the nodes of P are met, and an edge to each of them from the node of a number is listed
pub record Leads (from : ℕ) (P : ℕ → Type 0) (nodes nodes' waiting waiting' : List ℕ) (edges edges' : List Edge) : Type 0 where
  pub kept : (x k : ℕ) → IsNumber nodes x k → IsNumber nodes' x k
  pub only : (x k : ℕ) → IsNumber nodes' x k → IsNumber nodes x k ⊎ P x
  pub waits : Waits nodes nodes' waiting waiting'
  pub stays : (j k : ℕ) → Listed edges j k → Listed edges' j k
  pub all : (x : ℕ) → P x → (k : ℕ) × (IsNumber nodes' x k × Listed edges' from k)
  pub new : (j k : ℕ) → Listed edges' j k → Listed edges j k ⊎ ((j ≡ from) × ((x : ℕ) × (IsNumber nodes' x k × P x)))

-- what roots lead to by edges, said of nodes and said of their numbers
pub record ByNumber (nodes : List ℕ) (Root : ℕ → Type 0) (Edge' : ℕ → ℕ → Type 0) (Start : ℕ → Type 0) (Step : ℕ → ℕ → Type 0) : Type 0 where
  pub number : (x : ℕ) → Reached Root Edge' x → (k : ℕ) × (IsNumber nodes x k × Reached Start Step k)
  pub node : (k : ℕ) → Reached Start Step k → (x : ℕ) × (IsNumber nodes x k × Reached Root Edge' x)
