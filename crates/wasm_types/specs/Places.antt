-- The types of the places of a body (docs/ANALYSES.md, "Places").
use Rattle.std.specs.Prelude.{◌≡◌, ℕ, [], ◌∷◌, map, Some, take}
use Rattle.wasm_types.specs.declared.module.ValType.{ValType}
use Rattle.wasm_types.specs.declared.place.Node.{Node}
use Rattle.wasm_types.specs.declared.instr.Instr.{Instr}
use Rattle.wasm_types.specs.Typing.{Context, Types}
use Rattle.wasm_types.specs.Actions.{callees, takes}
use Rattle.wasm_types.specs.Nodes.{At, Join}
use Rattle.wasm_types.specs.Sites.{Head, DoHead, BlockHead, LoopHead, IfHead, Site, Sites, IsSite}

-- a block, loop or if with a result of this type
abbrev pub HasResult : Head → ValType → Type 0
HasResult (BlockHead kind) k = kind ≡ Some k
HasResult (LoopHead kind) k = kind ≡ Some k
HasResult (IfHead kind) k = kind ≡ Some k
HasResult _ k = ⊥

-- T gives each place its type: that of what the instruction leaves on operands of the types of their places, or of the result of the block, loop or if.
pub record TypesPlaces (c : Context) (S : Sites) (T : Node → ValType) : Type 0 where
  pub left : (p : ℕ) (s : Site) (op : Instr) (k : ValType) → IsSite S p s → s.head ≡ DoHead op → Types c op (map T (take (takes (callees c.inside) op) s.names)) (k ∷ []) → T (At p) ≡ k
  pub result : (p : ℕ) (s : Site) (k : ValType) → IsSite S p s → HasResult s.head k → T (Join p) ≡ k
