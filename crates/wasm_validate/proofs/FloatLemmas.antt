-- Sequences and modules without a float.
use Rattle.std.proofs.Common.{◌≡◌, ◌<◌, ℕ, ◌+◌, true, List, length, get_or, drop, refl, arith}
use Rattle.std.specs.Prelude.{◌↔◌}
use Rattle.wasm_types.specs.declared.instr.FloatInstr.{FloatInstr}
use Rattle.wasm_types.specs.declared.instr.Instr.{Instr, Block', Loop', If', Float}
use Rattle.wasm_types.specs.Code.{Code, done, onto, code_of, code_of_row, is_plain}
use Rattle.wasm_types.specs.Subset.{IsIntegerCode, HasNoFloatIn, HasNoFloat}
use Rattle.wasm_types.specs.declared.module.Module.{Module}
use Rattle.wasm_types.specs.declared.place.Part.TheVariants as part
use Rattle.wasm_types.proofs.CodeLemmas.{code_steps, count-onto, code-next}
use Rattle.wasm_validate.specs.First.{float_order}
use Rattle.wasm_validate.proofs.PartLemmas.{UpTo}

-- an instruction and what it holds, and then the rest
integer-onto : (i : Instr) (rest : Code) → IsIntegerCode (onto i rest) ↔ (IsIntegerCode (onto i done) × IsIntegerCode rest)
unfolding onto code_of_row
integer-onto (Block' k m inner) rest = (λ h. ((h.0, h.1, tt), h.2), λ h. (h.0.0, h.0.1, h.1))
integer-onto (Loop' k m inner) rest = (λ h. ((h.0, h.1, tt), h.2), λ h. (h.0.0, h.0.1, h.1))
integer-onto (If' k m first n second) rest = (λ h. ((h.0, h.1, h.2, tt), h.3), λ h. (h.0.0, h.0.1, h.0.2, h.1))
integer-onto _ rest = (λ h. ((h.0, tt), h.1), λ h. (h.0.0, h.1))

-- the instruction at a place, and then those from the next place on
pub integer-next : (xs : List Instr) (n : ℕ) (x : Instr) → n < length xs → x ≡ get_or xs n x
    → IsIntegerCode (code_of (drop n xs)) ↔ (IsIntegerCode (onto x done) × IsIntegerCode (code_of (drop (n + 1) xs)))
integer-next xs n x lt is = rw (code-next xs n x lt is) (integer-onto x (code_of (drop (n + 1) xs)))

-- an instruction that holds no others, and is no float instruction
pub integer-plain : (i : Instr) → is_plain i ≡ true → ((f : FloatInstr) → i ≡ Float f → ⊥) → IsIntegerCode (onto i done)
unfolding onto code_of_row
integer-plain (Block' k m inner) plain no_float = absurd cc
integer-plain (Loop' k m inner) plain no_float = absurd cc
integer-plain (If' k m first n second) plain no_float = absurd cc
integer-plain (Float f) plain no_float = absurd (no_float f refl)
integer-plain _ plain no_float = (tt, tt)

pub ruleset integer_steps = (code_steps, count-onto)

-- the parts of the last kinds hold no float
pub holds_each_float : (m : Module) → UpTo (HasNoFloatIn m) float_order 6 → HasNoFloat m
holds_each_float m h (part.TypeAt k) = h (part.TypeAt k) (omega arith)
holds_each_float m h (part.ImportAt k) = h (part.ImportAt k) (omega arith)
holds_each_float m h (part.GlobalAt g) = h (part.GlobalAt g) (omega arith)
holds_each_float m h (part.FuncAt f) = h (part.FuncAt f) (omega arith)
holds_each_float m h (part.ElemAt k) = h (part.ElemAt k) (omega arith)
holds_each_float m h (part.DataAt k) = h (part.DataAt k) (omega arith)
holds_each_float m h _ = tt
