-- What a region of a body, and its entry, rest on.
use Rattle.std.specs.Prelude.{◌≡◌, ◌⊎◌, ℕ, ◌*◌, List, Some, slice_get}
use Rattle.std.specs.List.{Contains}
use Rattle.wasm_types.specs.declared.place.Node.{Node}
use Rattle.block_cfg.specs.Graph.{Graph, row_of}
use Rattle.single_entry.specs.Entries.{IsIn}

-- what leads to the points of a region stands there too, but for one point
abbrev pub LeadsThrough : Graph → ℕ → ℕ → Node → Type 0
LeadsThrough g first last from = (n a : Node) → IsIn first last n → Contains (row_of g.before n) a → IsIn first last a ⊎ (a ≡ from)

-- of some points all stand in a region, but for one
abbrev pub AllInBut : ℕ → ℕ → List Node → Node → Type 0
AllInBut first last points from = (a : Node) → Contains points a → IsIn first last a ⊎ (a ≡ from)

-- none of them stands there
abbrev pub NoneIn : ℕ → ℕ → List Node → Type 0
NoneIn first last points = (a : Node) → Contains points a → IsIn first last a → ⊥

-- it is the number of the last point in what stands at a position
abbrev pub EndsAt : Graph → ℕ → ℕ → Type 0
EndsAt g p last = (stop : ℕ) → slice_get g.stops p ≡ Some stop → last ≡ 2 * stop
