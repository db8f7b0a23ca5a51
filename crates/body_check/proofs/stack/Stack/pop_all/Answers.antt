use Rattle.std.proofs.Common.{◌≡◌, ◌-◌, ◌+◌, ◌<◌, length, reverse, take, false, true, arith}
use Rattle.wasm_types.specs.declared.module.ValType.TheVariants.{I32}
use Rattle.body_check.proofs.StackLemmas.{last-first, pops-more, pops-fail, pops-none}
use Rattle.body_check.proofs.stack.Stack.pop_all.Goals as goal

pub returns-then-not-pop : goal.returns-then-not-pop
returns-then-not-pop c =
    let n = c.loop-left.left - 1 in
    let lt : n < length c.args.kinds.now = omega arith in
    let m : c.loop-left.left ≡ n + 1 = omega arith in
    let top = last-first c.args.kinds.now c.loop-left.left n I32 m lt in
    c.loop-left.invariant.whole false c.pop.new.self (rw top (pops-fail _ (reverse (take n c.args.kinds.now)) c.loop-left.self c.if-not-pop.ensures))

pub loop-left-preserved : goal.loop-left-preserved
loop-left-preserved c =
    let n = c.loop-left.left - 1 in
    let lt : n < length c.args.kinds.now = omega arith in
    let m : c.loop-left.left ≡ n + 1 = omega arith in
    let top = last-first c.args.kinds.now c.loop-left.left n I32 m lt in
    record {
      within = omega arith;
      whole = λ ok b f. c.loop-left.invariant.whole ok b (rw top (pops-more _ (reverse (take n c.args.kinds.now)) c.loop-left.self c.pop.new.self b ok c.if-not-pop.ensures f));
    }

pub returns : goal.returns
returns c =
    let none : c.loop-left.left ≡ 0 = omega arith in
    c.loop-left.invariant.whole true c.loop-left.self (rw none (pops-none c.loop-left.self))
