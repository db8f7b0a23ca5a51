-- The heights of stacks in a body, as validity keeps them (docs/VALIDITY.md).
use Rattle.std.specs.Prelude.{◌≡◌, ℕ, zero, suc, ◌+◌, ◌-◌, ◌≤◌, List, [], ◌∷◌}
use Rattle.wasm_types.specs.declared.instr.Instr.{Instr}
use Rattle.wasm_types.specs.Marked.{Marked, End, Do, Block, Loop, If, Br, BrIf, BrTable, Return, Unreachable}
use Rattle.wasm_types.specs.Actions.{Callees, takes, leaves}
use Rattle.wasm_types.specs.Labels.{arity, carried, outermost}
use Rattle.wasm_types.specs.Sites.{OneOf}

abbrev pub HasLabel : List ℕ → ℕ → Type 0
HasLabel [] l = ⊥
HasLabel (t ∷ ls) zero = Unit {0}
HasLabel (t ∷ ls) (suc l) = HasLabel ls l

-- With n values on its stack the sequence ends with t, of the labels around it, and W holds of each instruction that goes on to the next one.
abbrev pub Shaped : Callees → (Instr → Type 0) → List ℕ → ℕ → Marked → ℕ → Type 0
Shaped cs W ls t End n = n ≡ t
Shaped cs W ls t (Do m op rest) n = (takes cs op ≤ n) × W op × (leaves cs op ≤ 1) × Shaped cs W ls t rest (leaves cs op + (n - takes cs op))
Shaped cs W ls t (Block m kind body rest) n = Shaped cs W (arity kind ∷ ls) (arity kind) body 0 × Shaped cs W ls t rest (arity kind + n)
Shaped cs W ls t (Loop m kind body rest) n = Shaped cs W (0 ∷ ls) (arity kind) body 0 × Shaped cs W ls t rest (arity kind + n)
Shaped cs W ls t (If m kind x y rest) n =
    (1 ≤ n) × Shaped cs W (arity kind ∷ ls) (arity kind) x 0 × Shaped cs W (arity kind ∷ ls) (arity kind) y 0 × Shaped cs W ls t rest (arity kind + (n - 1))
Shaped cs W ls t (Br m l rest) n = HasLabel ls l × (carried ls l ≤ n)
Shaped cs W ls t (BrIf m l rest) n = HasLabel ls l × (carried ls l + 1 ≤ n) × Shaped cs W ls t rest (n - 1)
Shaped cs W ls t (BrTable m labels other rest) n =
    (1 ≤ n) × ((l : ℕ) → OneOf labels other l → HasLabel ls l × (carried ls l + 1 ≤ n) × (carried ls l ≡ carried ls other))
Shaped cs W ls t (Return m rest) n = HasLabel ls (outermost ls) × (carried ls (outermost ls) ≤ n)
Shaped cs W ls t (Unreachable m rest) n = Unit {0}
