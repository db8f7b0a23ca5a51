use Rattle.std.proofs.Common.{◌≡◌, ◌≤◌, ◌+◌, ◌*◌, ◌++◌, drop}
use Rattle.wasm_types.specs.Code.{done, onto, code_of, count}
use Rattle.func_flow.specs.Steps.{steps}
use Rattle.func_flow.proofs.steps.+steps.Given as goal

abbrev pub decreases-add_instr : goal.decreases-add_instr
decreases-add_instr l = 2 * count (onto l.instr.now done)

abbrev pub decreases-add_code : goal.decreases-add_code
decreases-add_code l = 2 * count (code_of l.code.now) + 1

-- those so far and those of the rest are those of all
abbrev pub invariant-add_code-loop-instr : goal.invariant-add_code-loop-instr
invariant-add_code-loop-instr l = record {
  whole : l.list.items ++ steps (code_of (drop l.instr-index l.code)) ≡ l.fn.list.items ++ steps (code_of l.fn.code);
  smaller : count (code_of (drop l.instr-index l.code)) ≤ count (code_of l.fn.code);
}
