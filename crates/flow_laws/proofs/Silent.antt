-- The text of a function that is called watches nothing.
use Rattle.std.proofs.Common.{◌≡◌, ℕ, ◌+◌, ◌≤◌, false, Option, Some, None, refl, arith}
use Rattle.wasm_types.specs.declared.module.ValType.{ValType}
use Rattle.wasm_types.specs.declared.instr.Instr.{Instr}
use Rattle.wasm_types.specs.declared.instr.Instr as instr
use Rattle.wasm_types.specs.Code.{Code, done, one, block, repeat, branch, count}
use Rattle.wasm_types.specs.Marked.{Marked, End, Do, Block, Loop, If, Br, BrIf, BrTable, Return, Unreachable, plain, marked}
use Rattle.wasm_types.specs.Labels.{arity}
use Rattle.wasm_types.specs.Funcs.{unwatched}

-- no live instruction is watched
abbrev pub Silent : Marked → Type 0
Silent End = Unit {0}
Silent (Do m op rest) = (m ≡ false) × Silent rest
Silent (Block m kind body rest) = (m ≡ false) × Silent body × Silent rest
Silent (Loop m kind body rest) = (m ≡ false) × Silent body × Silent rest
Silent (If m kind x y rest) = (m ≡ false) × Silent x × Silent y × Silent rest
Silent (Br m l rest) = m ≡ false
Silent (BrIf m l rest) = (m ≡ false) × Silent rest
Silent (BrTable m labels other rest) = m ≡ false
Silent (Return m rest) = m ≡ false
Silent (Unreachable m rest) = m ≡ false

pub arity_small : (kind : Option ValType) → arity kind ≤ 1
arity_small None = omega arith
arity_small (Some t) = omega arith

silent_leaf : (op : Instr) (rest : Marked) → Silent rest → Silent (plain false op rest)
silent_leaf instr.Unreachable rest s = refl
silent_leaf instr.Return rest s = refl
silent_leaf (instr.Br l) rest s = refl
silent_leaf (instr.BrTable labels other) rest s = refl
silent_leaf _ rest s = (refl, s)

pub silent_text : (code : Code) (p : ℕ) → Silent (marked unwatched p code)
silent_text done p = tt
silent_text (one op rest) p = silent_leaf op _ (silent_text rest (p + 1))
silent_text (block kind body rest) p = (refl, silent_text body (p + 1), silent_text rest (p + 1 + count body))
silent_text (repeat kind body rest) p = (refl, silent_text body (p + 1), silent_text rest (p + 1 + count body))
silent_text (branch kind x y rest) p = (refl, silent_text x (p + 1), silent_text y (p + 1 + count x), silent_text rest (p + 1 + count x + count y))
