use Rattle.std.proofs.Common.{◌≡◌, ◌++◌, drop}
use Rattle.std.specs.List.{filter}
use Rattle.report_text.specs.Drafts.{written}
use Rattle.report_text.specs.SummaryTexts.{has_input, inputs_after}
use Rattle.report_text.proofs.summary.push_inputs.Given as goal

abbrev pub invariant-loop-input : goal.invariant-loop-input
invariant-loop-input l =
    written l.out ++ inputs_after (filter (has_input l.rows l.output) (drop l.input-index l.inputs))
    ≡ written l.initial.out ++ inputs_after (filter (has_input l.rows l.output) l.inputs)
