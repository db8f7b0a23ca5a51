-- A walk over a graph, depth first: the edges that are left, the nodes that were met, the path that the walk is on, and the nodes that it left.
use Rattle.std.specs.Prelude.{◌≡◌, ℕ, ◌+◌, ◌<◌, ◌⊎◌, List, Bool, Vec, length}
use Rattle.std.specs.Global.{Global}
use Rattle.std.specs.List.{All, Contains, sum_by}
use Rattle.worklist.specs.Lists.{RowsBelow}
use Rattle.worklist.specs.Search.{IsMarked, work_left}

-- the nodes are the numbers below count, and each that was met is on the path or was left
pub record IsWalk (count : ℕ) (next : List (Vec ℕ Global)) (met : List Bool) (path order : List ℕ) : Type 0 where
  pub lists : length next ≡ count
  pub marks : length met ≡ count
  pub edges : RowsBelow count next
  pub on_path : All (λ x. x < count) path
  pub left : All (λ x. x < count) order
  pub known : (x : ℕ) → IsMarked met x → Contains path x ⊎ Contains order x

-- each step takes an edge or leaves a node, and each node is met once
abbrev pub steps_left : List (Vec ℕ Global) → List Bool → List ℕ → ℕ
steps_left next met path = sum_by (λ (row : Vec ℕ Global). length row.items) next + work_left met path
