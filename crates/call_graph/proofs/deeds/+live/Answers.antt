use Rattle.std.proofs.Common.{◌≡◌, ◌<◌, ◌+◌, ◌∙◌, ◌++◌, List, length, drop, true, false, arith, sym, subst}
use Rattle.wasm_types.specs.Code.{Code, code_of, is_plain}
use Rattle.wasm_types.proofs.CodeLemmas.{plain_is, count-next, code-next}
use Rattle.flow_domain.specs.LocRows.{goes_on}
use Rattle.call_graph.specs.declared.deeds.Deed.{Deed}
use Rattle.call_graph.specs.Lists.{live_deeds}
use Rattle.call_graph.proofs.WalkLemmas.{block_walked, loop_walked, if_walked, one_walked, deeds_next, deeds_stop}
use Rattle.call_graph.proofs.deeds.+live.Goals as goal

pub add_instr-returns-in_ok-add_code-in-Block : goal.add_instr-returns-in_ok-add_code-in-Block
add_instr-returns-in_ok-add_code-in-Block t c =
    block_walked c.args.instr.now c.args.deeds.now.items _ c.in-Block.inner c.add_code.new.deeds.items c.in-Block.is
    (rw c.as_slice.ensures at c.in_ok-add_code-in-Block.ensures)

pub add_instr-returns-in_ok-add_code-in-Loop : goal.add_instr-returns-in_ok-add_code-in-Loop
add_instr-returns-in_ok-add_code-in-Loop t c =
    loop_walked c.args.instr.now c.args.deeds.now.items _ c.in-Loop.inner c.add_code-in-Loop.new.deeds.items c.in-Loop.is
    (rw c.as_slice-in-Loop.ensures at c.in_ok-add_code-in-Loop.ensures)

pub add_instr-returns-in_ok-add_code-in-If-2 : goal.add_instr-returns-in_ok-add_code-in-If-2
add_instr-returns-in_ok-add_code-in-If-2 t c =
    if_walked c.args.instr.now c.args.deeds.now.items _ c.in-If.first c.in-If.second c.add_code-in-If.new.deeds.items c.add_code-in-If-2.new.deeds.items c.in-If.is
    (rw c.as_slice-in-If.ensures at c.in_ok-add_code-in-If.ensures) (rw c.as_slice-in-If-2.ensures at c.in_ok-add_code-in-If-2.ensures)

pub add_instr-returns-in_ok-add_own-in_default : goal.add_instr-returns-in_ok-add_own-in_default
add_instr-returns-in_ok-add_own-in_default t c =
    let plain : is_plain c.args.instr.now ≡ true = plain_is _ c.in_default.not-Block c.in_default.not-Loop c.in_default.not-If in
    one_walked c.args.instr.now c.args.deeds.now.items c.add_own.new.deeds.items plain c.in_ok-add_own-in_default.ensures

pub add_code-add_instr-requires : goal.add_code-add_instr-requires
add_code-add_instr-requires t c =
    let lt : c.loop-instr.instr-index < length c.args.code.now = omega arith in
    let step = count-next c.args.code.now c.loop-instr.instr-index c.instr-item.result lt c.instr-item.is in
    (omega arith, tt)

pub add_code-loop-instr-preserved : goal.add_code-loop-instr-preserved
add_code-loop-instr-preserved t c =
    let lt : c.loop-instr.instr-index < length c.args.code.now = omega arith in
    let step = count-next c.args.code.now c.loop-instr.instr-index c.instr-item.result lt c.instr-item.is in
    let next = code-next c.args.code.now c.loop-instr.instr-index c.instr-item.result lt c.instr-item.is in
    let on : goes_on c.instr-item.result ≡ true = sym c.goes_on.ensures ∙ c.if-not-goes_on.false in
    let all : List Deed = c.args.deeds.now.items ++ live_deeds (code_of c.args.code.now) in
    record {
      whole =
          deeds_next c.instr-item.result (code_of (drop (c.loop-instr.instr-index + 1) c.args.code.now)) c.loop-instr.deeds.items c.add_instr.new.deeds.items all
          c.in_ok-add_instr.ensures (subst (λ (z : Code). c.loop-instr.deeds.items ++ live_deeds z ≡ all) next c.loop-instr.invariant.whole) on;
      smaller = omega arith;
    }

pub add_code-returns-then-not-goes_on : goal.add_code-returns-then-not-goes_on
add_code-returns-then-not-goes_on t c =
    let lt : c.loop-instr.instr-index < length c.args.code.now = omega arith in
    let next = code-next c.args.code.now c.loop-instr.instr-index c.instr-item.result lt c.instr-item.is in
    let off : goes_on c.instr-item.result ≡ false = sym c.goes_on.ensures ∙ c.if-not-goes_on.true in
    let all : List Deed = c.args.deeds.now.items ++ live_deeds (code_of c.args.code.now) in
    deeds_stop c.instr-item.result (code_of (drop (c.loop-instr.instr-index + 1) c.args.code.now)) c.loop-instr.deeds.items c.add_instr.new.deeds.items all
    c.in_ok-add_instr.ensures (subst (λ (z : Code). c.loop-instr.deeds.items ++ live_deeds z ≡ all) next c.loop-instr.invariant.whole) off
