-- A sequence as the meaning and the analyses read it: each instruction stands by its kind (WebAssembly Core Specification 1.0, section 2.4),
-- with a mark that says whether it is watched.
use Rattle.std.specs.Prelude.{ℕ, suc, ◌+◌, Bool, true, false, List, [], ◌∷◌, ◌++◌, Option}
use Rattle.wasm_types.specs.declared.module.ValType.{ValType}
use Rattle.wasm_types.specs.declared.instr.Instr.{Instr}
use Rattle.wasm_types.specs.declared.instr.Instr as instr
use Rattle.wasm_types.specs.Code.{Code, done, one, block, repeat, branch, count}

pub data Marked : Type 0 where
  End : Marked
  -- an instruction that goes on to the next one: a plain instruction or a call
  Do : (mark : Bool) (op : Instr) (rest : Marked) → Marked
  Block : (mark : Bool) (kind : Option ValType) (body rest : Marked) → Marked
  Loop : (mark : Bool) (kind : Option ValType) (body rest : Marked) → Marked
  If : (mark : Bool) (kind : Option ValType) (yes_arm no_arm rest : Marked) → Marked
  Br : (mark : Bool) (label : ℕ) (rest : Marked) → Marked
  BrIf : (mark : Bool) (label : ℕ) (rest : Marked) → Marked
  BrTable : (mark : Bool) (labels : List ℕ) (other : ℕ) (rest : Marked) → Marked
  Return : (mark : Bool) (rest : Marked) → Marked
  Unreachable : (mark : Bool) (rest : Marked) → Marked

-- an instruction that holds no others, by its kind
abbrev pub plain : Bool → Instr → Marked → Marked
plain mark (instr.Br label) rest = Br mark label rest
plain mark (instr.BrIf label) rest = BrIf mark label rest
plain mark (instr.BrTable labels other) rest = BrTable mark labels other rest
plain mark instr.Return rest = Return mark rest
plain mark instr.Unreachable rest = Unreachable mark rest
plain mark op rest = Do mark op rest

-- the sequence whose first position is p, with these positions watched
abbrev pub marked : (ℕ → Bool) → ℕ → Code → Marked
marked watched p done = End
marked watched p (one op rest) = plain (watched p) op (marked watched (p + 1) rest)
marked watched p (block kind body rest) = Block (watched p) kind (marked watched (p + 1) body) (marked watched (p + 1 + count body) rest)
marked watched p (repeat kind body rest) = Loop (watched p) kind (marked watched (p + 1) body) (marked watched (p + 1 + count body) rest)
marked watched p (branch kind yes_arm no_arm rest) =
    If (watched p) kind (marked watched (p + 1) yes_arm) (marked watched (p + 1 + count yes_arm) no_arm) (marked watched (p + 1 + count yes_arm + count no_arm) rest)

-- the sequence without its marks
abbrev pub unmarked : Marked → Code
unmarked End = done
unmarked (Do m op rest) = one op (unmarked rest)
unmarked (Block m kind body rest) = block kind (unmarked body) (unmarked rest)
unmarked (Loop m kind body rest) = repeat kind (unmarked body) (unmarked rest)
unmarked (If m kind x y rest) = branch kind (unmarked x) (unmarked y) (unmarked rest)
unmarked (Br m label rest) = one (instr.Br label) (unmarked rest)
unmarked (BrIf m label rest) = one (instr.BrIf label) (unmarked rest)
unmarked (BrTable m labels other rest) = one (instr.BrTable labels other) (unmarked rest)
unmarked (Return m rest) = one instr.Return (unmarked rest)
unmarked (Unreachable m rest) = one instr.Unreachable (unmarked rest)

-- the number of positions
abbrev pub size : Marked → ℕ
size End = 0
size (Do m op rest) = 1 + size rest
size (Block m kind body rest) = 1 + size body + size rest
size (Loop m kind body rest) = 1 + size body + size rest
size (If m kind x y rest) = 1 + size x + size y + size rest
size (Br m label rest) = 1 + size rest
size (BrIf m label rest) = 1 + size rest
size (BrTable m labels other rest) = 1 + size rest
size (Return m rest) = 1 + size rest
size (Unreachable m rest) = 1 + size rest

-- the marks, in the order of the positions
abbrev pub marks : Marked → List Bool
marks End = []
marks (Do m op rest) = m ∷ marks rest
marks (Block m kind body rest) = m ∷ (marks body ++ marks rest)
marks (Loop m kind body rest) = m ∷ (marks body ++ marks rest)
marks (If m kind x y rest) = m ∷ (marks x ++ (marks y ++ marks rest))
marks (Br m label rest) = m ∷ marks rest
marks (BrIf m label rest) = m ∷ marks rest
marks (BrTable m labels other rest) = m ∷ marks rest
marks (Return m rest) = m ∷ marks rest
marks (Unreachable m rest) = m ∷ marks rest

-- the first position that is watched: how many stand before it
abbrev pub first_mark : List Bool → ℕ
first_mark [] = 0
first_mark (true ∷ ms) = 0
first_mark (false ∷ ms) = suc (first_mark ms)

abbrev pub watched_at : Marked → ℕ
watched_at c = first_mark (marks c)
