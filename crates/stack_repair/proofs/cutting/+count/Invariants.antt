use Rattle.std.proofs.Common.{◌≡◌, ◌+◌, ◌*◌, drop}
use Rattle.wasm_types.specs.Code.{done, onto, code_of, count}
use Rattle.stack_repair.proofs.cutting.+count.Given as goal

abbrev pub decreases-count_in : goal.decreases-count_in
decreases-count_in l = 2 * count (onto l.instr.now done)

abbrev pub decreases-count_of : goal.decreases-count_of
decreases-count_of l = 2 * count (code_of l.code.now) + 1

abbrev pub invariant-count_of-loop-instr : goal.invariant-count_of-loop-instr
invariant-count_of-loop-instr l = l.total + count (code_of (drop l.instr-index l.code)) ≡ count (code_of l.fn.code)
