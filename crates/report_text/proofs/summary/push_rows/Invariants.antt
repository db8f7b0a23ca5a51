use Rattle.std.proofs.Common.{◌≡◌, ◌++◌, drop}
use Rattle.report_text.specs.Drafts.{written}
use Rattle.report_text.specs.SummaryTexts.{has_input, row_lines}
use Rattle.report_text.proofs.summary.push_rows.Given as goal

abbrev pub invariant-loop-output : goal.invariant-loop-output
invariant-loop-output l =
    written l.out ++ row_lines (has_input l.rows) l.func l.inputs (drop l.output-index l.outputs)
    ≡ written l.initial.out ++ row_lines (has_input l.rows) l.func l.inputs l.outputs
