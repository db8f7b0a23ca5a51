-- Which places a cut needs on the slice's stack (docs/ANALYSES.md, "Present places").
use Rattle.std.specs.Prelude.{◌≡◌, ℕ, ◌<◌, List, Bool, true, Some, slice_get}
use Rattle.wasm_types.specs.declared.place.Node.{Node}
use Rattle.wasm_types.specs.declared.place.Node.TheVariants.{Exit}
use Rattle.wasm_types.specs.Actions.{Callees}
use Rattle.wasm_types.specs.Nodes.{At, Join}
use Rattle.wasm_types.specs.Sites.{Site, Sites, IsSite, Among, EndAt, all_operands}

-- one of the first so many names
abbrev pub AmongFirst : ℕ → List Node → Node → Type 0
AmongFirst n names d = (k : ℕ) × (k < n) × (slice_get names k ≡ Some d)

-- The places that a cut needs: those of kept makers, of kept blocks, loops and ifs, the operands of kept instructions, and what is left at the live ends
-- of kept blocks, loops and arms, and of the body.
pub data IsNeeded (cs : Callees) (S : Sites) (ends : List EndAt) (K : Node → Bool) : Node → Type 0 where
  maker : {n : Node} → K n ≡ true → IsNeeded cs S ends K n
  result : {b : ℕ} → K (At b) ≡ true → IsNeeded cs S ends K (Join b)
  operand : {n : Node} (p : ℕ) (s : Site) → IsSite S p s → K (At p) ≡ true → AmongFirst (all_operands cs s.around s.head) s.names n → IsNeeded cs S ends K n
  left : {n : Node} (b : ℕ) (e : EndAt) → Among ends e → e.owner ≡ Join b → K (At b) ≡ true → AmongFirst e.count e.names n → IsNeeded cs S ends K n
  at_exit : {n : Node} (e : EndAt) → Among ends e → e.owner ≡ Exit → AmongFirst e.count e.names n → IsNeeded cs S ends K n

-- a set of present places that holds those
abbrev pub HoldsNeeded : Callees → Sites → List EndAt → (K P : Node → Bool) → Type 0
HoldsNeeded cs S ends K P = (n : Node) → IsNeeded cs S ends K n → P n ≡ true
