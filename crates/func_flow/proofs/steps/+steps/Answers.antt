use Rattle.std.proofs.Common.{◌≡◌, ◌<◌, ◌+◌, ◌∙◌, ◌++◌, List, length, drop, true, arith, sym, subst}
use Rattle.std.proofs.Math.ListN.{drop_of_length-le}
use Rattle.std.proofs.lemmas.List.{append-nil}
use Rattle.wasm_types.specs.declared.instr.Instr.{Instr}
use Rattle.wasm_types.specs.Code.{Code, code_of, is_plain}
use Rattle.wasm_types.proofs.CodeLemmas.{plain_is, count-next, code-next}
use Rattle.func_flow.specs.declared.steps.Step.{Step}
use Rattle.func_flow.specs.Steps.{steps}
use Rattle.func_flow.proofs.StepLemmas.{block_steps, loop_steps, if_steps, one_step, steps-next}
use Rattle.func_flow.proofs.steps.+steps.Goals as goal

pub add_instr-returns-in_ok-push-in_default : goal.add_instr-returns-in_ok-push-in_default
add_instr-returns-in_ok-push-in_default t c =
    let plain : is_plain c.args.instr.now ≡ true = plain_is _ c.in_default.not-Block c.in_default.not-Loop c.in_default.not-If in
    one_step c.args.instr.now c.args.list.now.items c.push-in_default.new.list.items (rw c.instr_step.ensures at c.in_ok-push-in_default.ensures) plain

pub add_instr-returns-in_ok-add_code-in-Block : goal.add_instr-returns-in_ok-add_code-in-Block
add_instr-returns-in_ok-add_code-in-Block t c =
    block_steps c.args.instr.now c.args.list.now.items c.push.new.list.items _ c.in-Block.inner c.add_code.new.list.items
    (rw c.deciding.ensures at c.in_ok-push-in-Block.ensures) c.in-Block.is
    (rw c.as_slice.ensures at c.in_ok-add_code-in-Block.ensures)

pub add_instr-returns-in_ok-add_code-in-Loop : goal.add_instr-returns-in_ok-add_code-in-Loop
add_instr-returns-in_ok-add_code-in-Loop t c =
    loop_steps c.args.instr.now c.args.list.now.items c.push-in-Loop.new.list.items _ c.in-Loop.inner c.add_code-in-Loop.new.list.items
    (rw c.deciding-in-Loop.ensures at c.in_ok-push-in-Loop.ensures) c.in-Loop.is
    (rw c.as_slice-in-Loop.ensures at c.in_ok-add_code-in-Loop.ensures)

pub add_instr-returns-in_ok-add_code-in-If-2 : goal.add_instr-returns-in_ok-add_code-in-If-2
add_instr-returns-in_ok-add_code-in-If-2 t c =
    if_steps c.args.instr.now c.args.list.now.items c.push-in-If.new.list.items _ c.in-If.first c.in-If.second
    c.add_code-in-If.new.list.items c.add_code-in-If-2.new.list.items
    (rw c.choosing.ensures at c.in_ok-push-in-If.ensures) c.in-If.is
    (rw c.as_slice-in-If.ensures at c.in_ok-add_code-in-If.ensures) (rw c.as_slice-in-If-2.ensures at c.in_ok-add_code-in-If-2.ensures)

pub add_code-add_instr-requires : goal.add_code-add_instr-requires
add_code-add_instr-requires t c =
    let lt : c.loop-instr.instr-index < length c.args.code.now = omega arith in
    let step = count-next c.args.code.now c.loop-instr.instr-index c.instr-item.result lt c.instr-item.is in
    (omega arith, tt)

pub add_code-loop-instr-preserved : goal.add_code-loop-instr-preserved
add_code-loop-instr-preserved t c =
    let lt : c.loop-instr.instr-index < length c.args.code.now = omega arith in
    let step = count-next c.args.code.now c.loop-instr.instr-index c.instr-item.result lt c.instr-item.is in
    let next = code-next c.args.code.now c.loop-instr.instr-index c.instr-item.result lt c.instr-item.is in
    let all : List Step = c.args.list.now.items ++ steps (code_of c.args.code.now) in
    record {
      whole =
          steps-next c.instr-item.result (code_of (drop (c.loop-instr.instr-index + 1) c.args.code.now))
          c.loop-instr.list.items c.add_instr.new.list.items all
          c.in_ok-add_instr.ensures (subst (λ (z : Code). c.loop-instr.list.items ++ steps z ≡ all) next c.loop-instr.invariant.whole);
      smaller = omega arith;
    }

pub add_code-returns : goal.add_code-returns
add_code-returns t c =
    let none = drop_of_length-le c.args.code.now c.loop-instr-test.false in
    sym (append-nil c.loop-instr.list.items) ∙ subst (λ (z : List Instr). c.loop-instr.list.items ++ steps (code_of z)
    ≡ c.args.list.now.items ++ steps (code_of c.args.code.now)) none c.loop-instr.invariant.whole
