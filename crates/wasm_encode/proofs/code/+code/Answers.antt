use Rattle.std.proofs.Common.{◌≡◌, ◌<◌, ◌^◌, length, drop, ap, ◌∙◌, subst, ◌+◌, true, arith}
use Rattle.wasm_types.specs.Code.{Code, done, onto, code_of, is_plain}
use Rattle.wasm_types.proofs.CodeLemmas.{count-next, code-next, plain_is}
use Rattle.wasm_types.specs.Canon.{canon_code}
use Rattle.wasm_types.specs.WellFormed.{ProperCode}
use Rattle.wasm_encode.proofs.CodeLemmas.{canon-onto, proper-onto, piece, finish, block_text, loop_text, if_text, plain_text, plain_proper, else-some, one_more_byte, rest_short, plain_short, head_short, in_block, in_loop, in_if}
use Rattle.wasm_encode.proofs.code.+code.Goals as goal

pub write_code-write_instr-requires : goal.write_code-write_instr-requires
write_code-write_instr-requires t c =
    let lt : c.loop-instr.instr-index < length c.args.code.now = omega arith in
    let step = count-next c.args.code.now c.loop-instr.instr-index c.instr-item.result lt c.instr-item.is in
    let is = code-next c.args.code.now c.loop-instr.instr-index c.instr-item.result lt c.instr-item.is in
    let short = subst (λ (code : Code). length (canon_code code) < 2 ^ 32) is c.loop-instr.invariant.short in
    (omega arith, ((proper-onto c.instr-item.result _ (subst ProperCode is c.loop-instr.invariant.ready)).0, head_short c.instr-item.result _ short))

pub write_code-loop-instr-preserved : goal.write_code-loop-instr-preserved
write_code-loop-instr-preserved t c =
    let lt : c.loop-instr.instr-index < length c.args.code.now = omega arith in
    let step = count-next c.args.code.now c.loop-instr.instr-index c.instr-item.result lt c.instr-item.is in
    let is = code-next c.args.code.now c.loop-instr.instr-index c.instr-item.result lt c.instr-item.is in
    let rest : Code = code_of (drop (c.loop-instr.instr-index + 1) c.args.code.now) in
    let short = subst (λ (code : Code). length (canon_code code) < 2 ^ 32) is c.loop-instr.invariant.short in
    record {
      so_far = piece _ c.loop-instr.out.items _ (canon_code (onto c.instr-item.result done)) (canon_code rest) _ c.loop-instr.invariant.so_far (ap canon_code is ∙ canon-onto c.instr-item.result _) c.in_ok-write_instr.ensures;
      ready = (proper-onto c.instr-item.result _ (subst ProperCode is c.loop-instr.invariant.ready)).1;
      short = rest_short c.instr-item.result rest short;
      smaller = omega arith;
    }

pub write_else-returns : goal.write_else-returns
write_else-returns t c = one_more_byte c.write_code.result _ _ c.args.out.now.items _ (canon_code (code_of c.args.code.now)) 0x05 c.in_ok-write_byte.ensures (else-some c.args.code.now c.if-is_empty.ensures) c.write_code.ensures

pub write_instr-write_enclosed-requires : goal.write_instr-write_enclosed-requires
write_instr-write_enclosed-requires t c =
    let inside = in_block c.args.instr.now _ _ _ c.in-Block.is c.as_slice.ensures c.requires.proper c.requires.short in
    (omega (arith, inside.smaller), (inside.proper, inside.short))

pub write_instr-write_enclosed-requires-in-Loop : goal.write_instr-write_enclosed-requires-in-Loop
write_instr-write_enclosed-requires-in-Loop t c =
    let inside = in_loop c.args.instr.now _ _ _ c.in-Loop.is c.as_slice-in-Loop.ensures c.requires.proper c.requires.short in
    (omega (arith, inside.smaller), (inside.proper, inside.short))

pub write_instr-write_if-requires : goal.write_instr-write_if-requires
write_instr-write_if-requires t c =
    let inside = in_if c.args.instr.now _ _ _ _ _ c.in-If.is c.as_slice-in-If.ensures c.as_slice-in-If-2.ensures c.requires.proper c.requires.short in
    (omega (arith, inside.smaller), (inside.first, (inside.first_short, (inside.second, inside.second_short))))

pub write_instr-write_plain-requires : goal.write_instr-write_plain-requires
write_instr-write_plain-requires t c =
    let plain : is_plain c.args.instr.now ≡ true = plain_is _ c.in_default.not-Block c.in_default.not-Loop c.in_default.not-If in
    record { proper = plain_proper c.args.instr.now plain c.requires.proper; short = plain_short c.args.instr.now plain c.requires.short }

pub write_instr-returns-in-Block : goal.write_instr-returns-in-Block
write_instr-returns-in-Block t c =
    finish c.write_enclosed.result _ _ _ _ (block_text c.args.instr.now _ _ _ c.in-Block.is c.as_slice.ensures) c.write_enclosed.ensures

pub write_instr-returns-in-Loop : goal.write_instr-returns-in-Loop
write_instr-returns-in-Loop t c =
    finish c.write_enclosed-in-Loop.result _ _ _ _ (loop_text c.args.instr.now _ _ _ c.in-Loop.is c.as_slice-in-Loop.ensures) c.write_enclosed-in-Loop.ensures

pub write_instr-returns-in-If : goal.write_instr-returns-in-If
write_instr-returns-in-If t c =
    finish c.write_if.result _ _ _ _ (if_text c.args.instr.now _ _ _ _ _ c.in-If.is c.as_slice-in-If.ensures c.as_slice-in-If-2.ensures) c.write_if.ensures

pub write_instr-returns-in_default : goal.write_instr-returns-in_default
write_instr-returns-in_default t c =
    let plain : is_plain c.args.instr.now ≡ true = plain_is _ c.in_default.not-Block c.in_default.not-Loop c.in_default.not-If in
    finish c.write_plain.result _ _ _ _ (plain_text c.args.instr.now plain) c.write_plain.ensures
