use Rattle.std.proofs.Common.{◌≡◌, ◌<◌, length, true, arith}
use Rattle.wasm_types.specs.Code.{is_plain}
use Rattle.wasm_types.proofs.CodeLemmas.{code_steps, plain_is, count-next}
use Rattle.stack_repair.proofs.cutting.+count.Goals as goal

pub count_in-returns-in_default : goal.count_in-returns-in_default
count_in-returns-in_default t c =
    let plain : is_plain c.args.instr.now ≡ true = plain_is _ c.in_default.not-Block c.in_default.not-Loop c.in_default.not-If in
    grind (arith, code_steps, plain)

pub count_of-count_in-total-requires : goal.count_of-count_in-total-requires
count_of-count_in-total-requires t c =
    let lt : c.loop-instr.instr-index < length c.args.code.now = omega arith in
    let step = count-next c.args.code.now c.loop-instr.instr-index c.instr-item.result lt c.instr-item.is in
    (omega arith, omega arith)

pub count_of-overflow_add-total : goal.count_of-overflow_add-total
count_of-overflow_add-total t c =
    let lt : c.loop-instr.instr-index < length c.args.code.now = omega arith in
    let step = count-next c.args.code.now c.loop-instr.instr-index c.instr-item.result lt c.instr-item.is in
    omega arith

pub count_of-loop-instr-preserved : goal.count_of-loop-instr-preserved
count_of-loop-instr-preserved t c =
    let lt : c.loop-instr.instr-index < length c.args.code.now = omega arith in
    let step = count-next c.args.code.now c.loop-instr.instr-index c.instr-item.result lt c.instr-item.is in
    omega arith
