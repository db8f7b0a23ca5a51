-- The nodes of a body, and the names of the values on its stack (docs/ANALYSES.md, "Nodes", "Places").
use Rattle.std.specs.Prelude.{◌≡◌, ℕ, zero, suc, List, [], ◌∷◌, Bool, true, drop}
use Rattle.wasm_types.specs.declared.place.Node.{Node}
use Rattle.wasm_types.specs.declared.place.Node.TheVariants as node
use Rattle.wasm_types.specs.declared.instr.Instr.{Instr}
use Rattle.wasm_types.specs.Actions.{Callees, takes, leaves}

-- a position, and the end of the block, loop or if at a position
abbrev pub At : ℕ → Node
At p = node.At (record { 0 = p })

abbrev pub Join : ℕ → Node
Join b = node.Join (record { 0 = b })

-- a value on the stack has the name of the node that makes it: so many values that one node makes
abbrev pub named : ℕ → Node → List Node → List Node
named zero n names = names
named (suc k) n names = n ∷ names

-- the names after an instruction at p
abbrev pub made : Callees → ℕ → Instr → List Node → List Node
made cs p op names = named (leaves cs op) (At p) (drop (takes cs op) names)

-- the first so many are there, and are in the set
abbrev pub AllIn : (Node → Bool) → ℕ → List Node → Type 0
AllIn K zero names = Unit {0}
AllIn K (suc n) [] = ⊥
AllIn K (suc n) (d ∷ names) = (K d ≡ true) × AllIn K n names

-- every node
abbrev pub every : Node → Bool
every n = true
