use Rattle.std.proofs.Common.{refl, ⊎_elim}
use Rattle.called_rows.specs.Funcs.{HasEffect}
use Rattle.called_rows.proofs.FuncLemmas.{any_none, any_more, any_all, any_here}
use Rattle.called_rows.proofs.funcs.any_holds.Goals as goal

pub loop-func-init : goal.loop-func-init
loop-func-init c = λ m graph h. any_none (λ f. HasEffect m c.args.effect f c.args.loc) h

pub holds-requires : goal.holds-requires
holds-requires c = c.requires c.loop-func.func-index 0 c.loop-func-test.true

pub loop-func-preserved : goal.loop-func-preserved
loop-func-preserved c = λ m graph h.
    ⊎_elim
    (λ before. c.loop-func.invariant m graph before)
    (λ has. let on = (c.holds.ensures m graph).1 has in let off = c.if-holds.false in cc)
    ((any_more (λ f. HasEffect m c.args.effect f c.args.loc) c.args.funcs.now c.loop-func.func-index c.loop-func-test.true).0 h)

pub returns-then-holds : goal.returns-then-holds
returns-then-holds c = λ m graph. (
  λ on. any_here (λ f. HasEffect m c.args.effect f c.args.loc) c.args.funcs.now c.loop-func.func-index c.loop-func-test.true
      ((c.holds.ensures m graph).0 c.if-holds.true),
  λ h. refl,
)

pub returns : goal.returns
returns c = λ m graph. (
  λ on. absurd cc,
  λ h. absurd (c.loop-func.invariant m graph
      ((any_all (λ f. HasEffect m c.args.effect f c.args.loc) c.args.funcs.now c.loop-func.func-index c.loop-func-test.false).1 h)),
)
