-- The points that a path leads to from where a body begins.
use Rattle.std.specs.Prelude.{◌≡◌, ◌<◌, ◌⊎◌, ℕ, Bool, List, Some, length, slice_get}
use Rattle.std.specs.List.{Contains}
use Rattle.wasm_types.specs.declared.place.Node.{Node}
use Rattle.worklist.specs.Reached.{Reached}
use Rattle.worklist.specs.Search.{IsMarked}
use Rattle.block_cfg.specs.Graph.{Graph, number, row_of}

-- a path leads there from the first point
abbrev pub Comes : Graph → Node → Type 0
Comes g n = Reached (λ m. slice_get g.points 0 ≡ Some m) (λ a b. Contains (row_of g.next a) b) n

-- a path leads to each point that is marked by its number
abbrev pub AreReached : Graph → List Bool → Type 0
AreReached g marks = (n : Node) → IsMarked marks (number n) → Comes g n

-- a path leads to each point that is marked, and to each that waits
pub record AreMet (g : Graph) (marks : List Bool) (waiting : List Node) : Type 0 where
  pub fits : (n : Node) → Contains g.points n → number n < length marks
  pub marked : AreReached g marks
  pub waits : (n : Node) → Contains waiting n → Comes g n

-- one point more is marked and waits, at most
pub record MeetsOne (n : Node) (marks marks' : List Bool) (waiting waiting' : List Node) : Type 0 where
  pub same : length marks' ≡ length marks
  pub marked : (x : ℕ) → IsMarked marks' x → IsMarked marks x ⊎ (x ≡ number n)
  pub waits : (m : Node) → Contains waiting' m → Contains waiting m ⊎ (m ≡ n)
