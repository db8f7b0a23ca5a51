use Rattle.std.proofs.Common.{◌∙◌, sym}
use Rattle.func_flow.proofs.RunLemmas.{calm_more, calm_all, not_some}
use Rattle.func_flow.proofs.runs.is_calm.Goals as goal

pub loop-step-preserved : goal.loop-step-preserved
loop-step-preserved c =
    calm_more c.args.steps.now c.loop-step.step-index _ c.loop-step.invariant c.loop-step-test.true (not_some _ (sym c.is_some.ensures ∙ c.if-is_some.false))

pub returns : goal.returns
returns c = λ on. calm_all c.args.steps.now c.loop-step.step-index c.loop-step.invariant c.loop-step-test.false
