-- The labels around a position, the innermost first, and the points where sequences begin (docs/ANALYSES.md, "Points").
use Rattle.std.specs.Prelude.{ℕ, zero, suc, ◌+◌, List, [], ◌∷◌, length, Bool, true, false, Option, Some, None}
use Rattle.wasm_types.specs.declared.module.ValType.{ValType}
use Rattle.wasm_types.specs.declared.place.Node.{Node}
use Rattle.wasm_types.specs.declared.place.Node.TheVariants.{Exit}
use Rattle.wasm_types.specs.Marked.{Marked, End, Do, Block, Loop, If, Br, BrIf, BrTable, Return, Unreachable}
use Rattle.wasm_types.specs.Nodes.{At, Join}

-- ---- what labels carry

-- a block has at most one result
abbrev pub arity : Option ValType → ℕ
arity None = 0
arity (Some t) = 1

-- the number of values that a branch carries to a label, of the labels around it, the innermost first
abbrev pub carried : List ℕ → ℕ → ℕ
carried [] l = 0
carried (t ∷ ls) zero = t
carried (t ∷ ls) (suc l) = carried ls l

-- the outermost label, which is that of the function's body
abbrev pub outermost : List ℕ → ℕ
outermost [] = 0
outermost (t ∷ ls) = length ls

-- ---- where labels lead

-- A block, loop or if around a position: where its contents begin and end, its join, the point where its label leads, and how many values a branch
-- carries there.
pub record Label : Type 0 where
  pub loop : Bool
  pub start : ℕ
  pub stop : ℕ
  pub join : Node
  pub point : Node
  pub arity : ℕ

-- a block or an if at p, with so many results, whose contents end at e
abbrev pub block_label : ℕ → ℕ → ℕ → Label
block_label p t e = record { loop = false; start = p + 1; stop = e; join = Join p; point = Join p; arity = t }

abbrev pub loop_label : ℕ → ℕ → Label
loop_label p e = record { loop = true; start = p + 1; stop = e; join = Join p; point = At p; arity = 0 }

-- the label of a body, which ends at e
abbrev pub body_label : ℕ → ℕ → Label
body_label t e = record { loop = false; start = 0; stop = e; join = Exit; point = Exit; arity = t }

abbrev pub arities : List Label → List ℕ
arities [] = []
arities (L ∷ ctx) = L.arity ∷ arities ctx

-- the parts of the label of a number
abbrev pub point_of : List Label → ℕ → Node
point_of [] l = Exit
point_of (L ∷ ctx) zero = L.point
point_of (L ∷ ctx) (suc l) = point_of ctx l

abbrev pub join_of : List Label → ℕ → Node
join_of [] l = Exit
join_of (L ∷ ctx) zero = L.join
join_of (L ∷ ctx) (suc l) = join_of ctx l

abbrev pub loop_of : List Label → ℕ → Bool
loop_of [] l = false
loop_of (L ∷ ctx) zero = L.loop
loop_of (L ∷ ctx) (suc l) = loop_of ctx l

abbrev pub start_of : List Label → ℕ → ℕ
start_of [] l = 0
start_of (L ∷ ctx) zero = L.start
start_of (L ∷ ctx) (suc l) = start_of ctx l

abbrev pub stop_of : List Label → ℕ → ℕ
stop_of [] l = 0
stop_of (L ∷ ctx) zero = L.stop
stop_of (L ∷ ctx) (suc l) = stop_of ctx l

-- the point at which a sequence at p begins, k where it is empty
abbrev pub first : ℕ → Marked → Node → Node
first p End k = k
first p (Do m op rest) k = At p
first p (Block m kind body rest) k = At p
first p (Loop m kind body rest) k = At p
first p (If m kind x y rest) k = At p
first p (Br m l rest) k = At p
first p (BrIf m l rest) k = At p
first p (BrTable m labels other rest) k = At p
first p (Return m rest) k = At p
first p (Unreachable m rest) k = At p
