use Rattle.std.proofs.Common.{◌≡◌}
use Rattle.flow_domain.specs.declared.summary.Input.TheVariants.{Param}
use Rattle.report_text.specs.SummaryTexts.{numbered}
use Rattle.report_text.proofs.summary.with_params.Given as goal

abbrev pub invariant-loop-k : goal.invariant-loop-k
invariant-loop-k l = l.inputs.items ≡ numbered Param l.k
