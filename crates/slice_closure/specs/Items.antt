-- What a search for a kept set meets, and the numbers by which it is met.
use Rattle.std.specs.Prelude.{◌≡◌, ℕ, ◌+◌, ◌*◌, ◌<◌}
use Rattle.wasm_types.specs.declared.place.Loc.{Loc}
use Rattle.wasm_types.specs.declared.place.Loc.TheVariants as loc
use Rattle.wasm_types.specs.declared.place.Node.{Node}
use Rattle.block_cfg.specs.Graph.{number}
use Rattle.slice_closure.specs.declared.items.Item.{Item}
use Rattle.slice_closure.specs.declared.items.Item.TheVariants.{Keeps, Value, Written, Needs}

abbrev pub loc_number : Loc → ℕ
loc_number loc.Mem = 0
loc_number loc.Size = 1
loc_number loc.Host = 2
loc_number (loc.Local k) = 2 * k + 3
loc_number (loc.Global k) = 2 * k + 4

abbrev pub node_of : Item → Node
node_of (Keeps n) = n
node_of (Value n) = n
node_of (Written x n) = n
node_of (Needs x n) = n

-- what is asked of a node has a number too
abbrev pub kind_number : Item → ℕ
kind_number (Keeps n) = 0
kind_number (Value n) = 1
kind_number (Written x n) = 2 * loc_number x + 2
kind_number (Needs x n) = 2 * loc_number x + 3

-- the location, if there is one, has a number below L
abbrev pub HasLoc : ℕ → Item → Type 0
HasLoc L (Written x n) = loc_number x < L
HasLoc L (Needs x n) = loc_number x < L
HasLoc L _ = Unit {0}

-- there are N numbers of nodes for each kind
abbrev pub item_number : ℕ → Item → ℕ
item_number N i = kind_number i * N + number (node_of i)

-- of nodes with numbers below N and locations with numbers below L
abbrev pub IsItem : ℕ → ℕ → Item → Type 0
IsItem N L i = HasLoc L i × (number (node_of i) < N)

-- a number of one of these items
abbrev pub Numbered : ℕ → (Item → Type 0) → ℕ → Type 0
Numbered N R y = (j : Item) × (R j × (y ≡ item_number N j))
