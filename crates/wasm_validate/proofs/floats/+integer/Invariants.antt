use Rattle.std.proofs.Common.{◌+◌, ◌*◌, ◌≤◌, drop}
use Rattle.std.specs.Prelude.{◌↔◌}
use Rattle.wasm_types.specs.Code.{done, onto, code_of, count}
use Rattle.wasm_types.specs.Subset.{IsIntegerCode}
use Rattle.wasm_validate.proofs.floats.+integer.Given as goal

abbrev pub decreases-is_integer_instr : goal.decreases-is_integer_instr
decreases-is_integer_instr l = 2 * count (onto l.instr.now done)

abbrev pub decreases-is_integer_code : goal.decreases-is_integer_code
decreases-is_integer_code l = 2 * count (code_of l.code.now) + 1

-- what was passed has no float, so the whole has one exactly where the rest has one
abbrev pub invariant-is_integer_code-loop-instr : goal.invariant-is_integer_code-loop-instr
invariant-is_integer_code-loop-instr l = record {
  same : IsIntegerCode (code_of l.fn.code) ↔ IsIntegerCode (code_of (drop l.instr-index l.code));
  smaller : count (code_of (drop l.instr-index l.code)) ≤ count (code_of l.fn.code);
}
