-- The text of a kept set (docs/COMMANDS.md, "What is kept"), byte by byte.
use Rattle.std.specs.Prelude.{ℕ, zero, suc, List, [], ◌++◌, Bool, codes, if◌then◌else◌}
use Rattle.wasm_types.specs.declared.place.Node.{Node}
use Rattle.wasm_types.specs.Nodes.{At, Join}
use Rattle.report_text.specs.Listing.{node_text}

-- the line of a node that is in a set
abbrev pub node_line : (Node → Bool) → Node → List ℕ
node_line K n = if K n then node_text n ++ codes "\n" else []

-- A line for each node of a set, as far as it stands at one of the first so many positions: in the order of the positions, and the end of a block after its
-- beginning.
abbrev pub kept_lines : (Node → Bool) → ℕ → List ℕ
kept_lines K zero = []
kept_lines K (suc n) = kept_lines K n ++ (node_line K (At n) ++ node_line K (Join n))
