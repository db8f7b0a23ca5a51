-- The points of a body and where they lead, as lists.
use Rattle.std.specs.Prelude.{◌≡◌, ◌≢◌, ℕ, ◌+◌, ◌*◌, ◌<◌, ◌≤◌, List, [], length}
use Rattle.std.specs.List.{All, AllPairs, slice_index_or}
use Rattle.wasm_types.specs.declared.place.Node.{Node}
use Rattle.wasm_types.specs.declared.place.Node.TheVariants as node

-- a list for each number of a point, of those that it leads to, and of those that lead to it; and for each position where its contents end
pub record Graph : Type 0 where
  pub points : List Node
  pub next : List (List Node)
  pub before : List (List Node)
  pub stops : List ℕ

-- the number of a point: the end has 0, then come each position and its join
abbrev pub number : Node → ℕ
number node.Exit = 0
number (node.At p) = 2 * p.0 + 1
number (node.Join p) = 2 * p.0 + 2

-- the list of a point, empty where its number has none
abbrev pub row_of : List (List Node) → Node → List Node
row_of rows point = slice_index_or rows (number point) []

-- a point among the contents of position p, which end before `stop`, or its join
abbrev pub IsInside : ℕ → ℕ → Node → Type 0
IsInside p stop n = (2 * p + 1 < number n) × (number n ≤ 2 * stop)

-- no point twice
abbrev pub EachOnce : List Node → Type 0
EachOnce points = AllPairs (λ a b. a ≢ b) points

-- each point has a list of either kind, and each position an end of its contents
pub record IsNumbered (g : Graph) : Type 0 where
  pub points : All (λ (point : Node). number point < length g.next) g.points
  pub same : length g.before ≡ length g.next
  pub stops : length g.next ≡ 2 * length g.stops + 1
