use Rattle.std.proofs.Common.{◌<◌, length, arith, sym, refl, true≢false}
use Rattle.wasm_types.proofs.CodeLemmas.{plain_is, count-next}
use Rattle.wasm_validate.proofs.FloatLemmas.{integer-next, integer-plain}
use Rattle.wasm_validate.proofs.floats.+integer.Goals as goal

pub is_integer_code-is_integer_instr-requires : goal.is_integer_code-is_integer_instr-requires
is_integer_code-is_integer_instr-requires t c =
    let lt : c.loop-instr.instr-index < length c.args.code.now = omega arith in
    let step = count-next c.args.code.now c.loop-instr.instr-index c.instr-item.result lt c.instr-item.is in
    (omega arith, tt)

pub is_integer_code-returns-then-not-is_integer_instr : goal.is_integer_code-returns-then-not-is_integer_instr
is_integer_code-returns-then-not-is_integer_instr t c =
    let next = integer-next c.args.code.now c.loop-instr.instr-index c.instr-item.result c.loop-instr-test.true c.instr-item.is in (
      λ h. absurd (true≢false (sym h)),
      λ h. c.if-not-is_integer_instr.ensures.1 (next.0 (c.loop-instr.invariant.same.0 h)).0,
    )

pub is_integer_code-loop-instr-preserved : goal.is_integer_code-loop-instr-preserved
is_integer_code-loop-instr-preserved t c =
    let next = integer-next c.args.code.now c.loop-instr.instr-index c.instr-item.result c.loop-instr-test.true c.instr-item.is in
    let step = count-next c.args.code.now c.loop-instr.instr-index c.instr-item.result c.loop-instr-test.true c.instr-item.is in
    let here = c.is_integer_instr.ensures.0 c.if-not-is_integer_instr.false in
    record {
      same = (λ h. (next.0 (c.loop-instr.invariant.same.0 h)).1, λ h. c.loop-instr.invariant.same.1 (next.1 (here, h)));
      smaller = omega arith;
    }

pub is_integer_instr-returns-in_default : goal.is_integer_instr-returns-in_default
is_integer_instr-returns-in_default t c =
    let plain = plain_is c.args.instr.now c.in_default.not-Block c.in_default.not-Loop c.in_default.not-If in
    (λ h. integer-plain c.args.instr.now plain c.in_default.not-Float, λ h. refl)
