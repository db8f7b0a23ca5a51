-- The roots of a search.
use Rattle.std.specs.Prelude.{◌≡◌, ◌↔◌, ◌⊎◌, ℕ, List}
use Rattle.std.specs.List.{Contains}
use Rattle.worklist.specs.declared.labels.Root.{Root}
use Rattle.func_flow.specs.declared.items.Item.{Item}
use Rattle.func_flow.specs.declared.numbering.Numbering.{Numbering}
use Rattle.func_flow.specs.Items.{item_number}

-- the root is at the number of an item at which its label begins
abbrev pub Begins : Numbering → (ℕ → Item → Type 0) → Root → Type 0
Begins K R r = (j : Item) × (R r.label j × (r.node ≡ item_number K j))

-- the new list has what the old one has, and those of P
abbrev pub Adds : (Root → Type 0) → List Root → List Root → Type 0
Adds P old new = (r : Root) → Contains new r ↔ (Contains old r ⊎ P r)
