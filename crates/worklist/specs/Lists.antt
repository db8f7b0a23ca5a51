-- A table of lists by number, as the lists of a graph's nodes.
use Rattle.std.specs.Prelude.{◌≡◌, ℕ, ◌<◌, List, Some, slice_get, Vec}
use Rattle.std.specs.Global.{Global}
use Rattle.std.specs.List.{Contains, All}

-- list x has the entry y
abbrev pub Has : List (Vec ℕ Global) → ℕ → ℕ → Type 0
Has table x y = (row : Vec ℕ Global) × ((slice_get table x ≡ Some row) × Contains row.items y)

-- all entries are below n
abbrev pub RowsBelow : ℕ → List (Vec ℕ Global) → Type 0
RowsBelow n table = All (λ row. All (λ y. y < n) row.items) table
