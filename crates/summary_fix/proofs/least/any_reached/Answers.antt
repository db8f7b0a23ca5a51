use Rattle.std.proofs.Common.{rules, arith, ◌<◌, ◌^◌, refl, ⊎_elim, get_or}
use Rattle.flow_domain.specs.Reach.{Reached}
use Rattle.called_rows.proofs.FuncLemmas.{any_none, any_more, any_all, any_here}
use Rattle.summary_fix.proofs.least.any_reached.Goals as goal

pub loop-func-init : goal.loop-func-init
loop-func-init c = any_none (λ f. Reached c.args.m.now c.args.root f)

pub overflow_cast-func : goal.overflow_cast-func
overflow_cast-func c =
    let within = c.requires.within c.loop-func.func-index 0 c.loop-func-test.true in
    let few = c.requires.few in
    let lt : get_or c.args.funcs.now c.loop-func.func-index 0 < 2 ^ 32 = omega arith in search rules

pub loop-func-preserved : goal.loop-func-preserved
loop-func-preserved c = λ h.
    let there = c.requires.within c.loop-func.func-index 0 c.loop-func-test.true in
    ⊎_elim
    (λ before. c.loop-func.invariant before)
    (λ has. let on = (c.has.ensures c.args.m.now c.args.root c.requires.reached there).1 has in let off = c.if-has.false in cc)
    ((any_more (λ f. Reached c.args.m.now c.args.root f) c.args.funcs.now c.loop-func.func-index c.loop-func-test.true).0 h)

pub returns-then-has : goal.returns-then-has
returns-then-has c =
    let there = c.requires.within c.loop-func.func-index 0 c.loop-func-test.true in (
      λ on. any_here (λ f. Reached c.args.m.now c.args.root f) c.args.funcs.now c.loop-func.func-index c.loop-func-test.true
          ((c.has.ensures c.args.m.now c.args.root c.requires.reached there).0 c.if-has.true),
      λ h. refl,
    )

pub returns : goal.returns
returns c = (
  λ on. absurd cc,
  λ h. absurd (c.loop-func.invariant
      ((any_all (λ f. Reached c.args.m.now c.args.root f) c.args.funcs.now c.loop-func.func-index c.loop-func-test.false).1 h)),
)
