-- The numbers of the items of a body.
use Rattle.std.specs.Prelude.{◌≡◌, ℕ, ◌+◌, ◌*◌, ◌<◌}
use Rattle.wasm_types.specs.declared.place.Node.{Node}
use Rattle.block_cfg.specs.Graph.{number}
pub use Rattle.called_rows.specs.Locs.{loc_number, index_of, IsLoc}
use Rattle.func_flow.specs.declared.items.Item.{Item}
use Rattle.func_flow.specs.declared.items.Item.TheVariants.{Value, Completion, Decider, Decided, Written, Needed}
use Rattle.func_flow.specs.declared.numbering.Numbering.{Numbering}

abbrev pub node_of : Item → Node
node_of (Value n) = n
node_of (Completion n) = n
node_of (Decider n) = n
node_of (Decided n) = n
node_of (Written x n) = n
node_of (Needed x n) = n

-- what is asked of the node has a number too
abbrev pub kind_number : ℕ → Item → ℕ
kind_number globals (Value n) = 0
kind_number globals (Completion n) = 1
kind_number globals (Decider n) = 2
kind_number globals (Decided n) = 3
kind_number globals (Written x n) = 2 * loc_number globals x + 4
kind_number globals (Needed x n) = 2 * loc_number globals x + 5

-- the location is one of those
abbrev pub HasLoc : ℕ → ℕ → Item → Type 0
HasLoc globals locals (Written x n) = IsLoc globals locals x
HasLoc globals locals (Needed x n) = IsLoc globals locals x
HasLoc globals locals _ = Unit {0}

abbrev pub item_number : Numbering → Item → ℕ
item_number K i = kind_number K.globals i * K.nodes + number (node_of i)

abbrev pub IsItem : Numbering → Item → Type 0
IsItem K i = HasLoc K.globals K.locals i × (number (node_of i) < K.nodes)

-- a number of one of these items
abbrev pub Numbered : Numbering → (Item → Type 0) → ℕ → Type 0
Numbered K R y = (j : Item) × (R j × (y ≡ item_number K j))
