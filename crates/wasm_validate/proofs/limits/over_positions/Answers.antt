use Rattle.std.proofs.Common.{◌+◌, List, length, arith, refl, ap, ◌∙◌}
use Rattle.wasm_validate.proofs.LimitLemmas.{position_count, within_more, bodies_within, first_body}
use Rattle.wasm_validate.proofs.limits.over_positions.Goals as goal

pub returns-then-count-gt-MOST_POSITIONS : goal.returns-then-count-gt-MOST_POSITIONS
returns-then-count-gt-MOST_POSITIONS c =
    let m = c.args.m.now in (
      refl,
      first_body position_count 100000 m c.as_slice-body-items.result.now c.loop-k.k c.from.result (c.first_own_func-first.result + c.loop-k.k) c.body-item.result c.as_slice-body-items.ensures
          c.loop-k-test.true c.body-item.is (c.from.ensures ∙ c.count-count.ensures) (omega arith) (omega arith) c.loop-k.invariant,
    )

pub loop-k-preserved : goal.loop-k-preserved
loop-k-preserved c =
    within_more position_count 100000 c.as_slice-body-items.result.now c.args.m.now.bodies c.loop-k.k c.count-count.result c.body-item.result c.as_slice-body-items.ensures
    c.loop-k-test.true c.body-item.is c.count-count.ensures c.if-count-gt-MOST_POSITIONS.false c.loop-k.invariant

pub returns : goal.returns
returns c = bodies_within position_count 100000 c.args.m.now c.as_slice-body-items.result.now c.loop-k.k c.as_slice-body-items.ensures c.loop-k-test.false c.loop-k.invariant
