use Rattle.std.proofs.Common.{◌+◌, List, length, arith, refl, ap, ◌∙◌}
use Rattle.wasm_types.specs.Sections.{local_count}
use Rattle.wasm_validate.proofs.LimitLemmas.{declared, within_more, bodies_within, first_body}
use Rattle.wasm_validate.proofs.limits.over_locals.Goals as goal

pub returns-then-count-gt-MOST_LOCALS : goal.returns-then-count-gt-MOST_LOCALS
returns-then-count-gt-MOST_LOCALS c =
    let m = c.args.m.now in (
      refl,
      first_body declared 8192 m c.as_slice-body-items.result.now c.loop-k.k c.from.result (c.first_own_func-first.result + c.loop-k.k) c.body-item.result c.as_slice-body-items.ensures
          c.loop-k-test.true c.body-item.is (c.from.ensures ∙ c.declared_locals-count.ensures ∙ ap local_count c.as_slice.ensures) (omega arith) (omega arith) c.loop-k.invariant,
    )

pub loop-k-preserved : goal.loop-k-preserved
loop-k-preserved c =
    within_more declared 8192 c.as_slice-body-items.result.now c.args.m.now.bodies c.loop-k.k c.declared_locals-count.result c.body-item.result c.as_slice-body-items.ensures
    c.loop-k-test.true c.body-item.is (c.declared_locals-count.ensures ∙ ap local_count c.as_slice.ensures) c.if-count-gt-MOST_LOCALS.false c.loop-k.invariant

pub returns : goal.returns
returns c =
    bodies_within declared 8192 c.args.m.now c.as_slice-body-items.result.now c.loop-k.k c.as_slice-body-items.ensures c.loop-k-test.false c.loop-k.invariant
