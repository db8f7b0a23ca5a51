-- Nodes of which each stands once.
use Rattle.std.specs.Prelude.{List, ◌∷◌, if◌then◌else◌}
use Rattle.wasm_types.specs.declared.place.Node.{Node}
use Rattle.wasm_types.specs.Takers.{is_among}

-- a node in front, where it isn't there yet
abbrev pub added : Node → List Node → List Node
added n ns = if is_among n ns then ns else n ∷ ns
