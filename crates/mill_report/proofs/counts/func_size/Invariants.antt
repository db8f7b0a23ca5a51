use Rattle.std.proofs.Common.{◌≡◌, ◌*◌, ◌≤◌, take}
use Rattle.report_text.specs.SummaryTexts.{rows_in}
use Rattle.mill_report.specs.declared.counts.TheConstants.{INPUTS, OUTPUTS}
use Rattle.mill_report.specs.Counts.{row_inputs}
use Rattle.mill_report.proofs.counts.func_size.Given as goal

abbrev pub invariant-loop-output : goal.invariant-loop-output
invariant-loop-output l =
    record { sum : l.size ≡ row_inputs (rows_in l.table l.func) (take l.output-index OUTPUTS.now) INPUTS.now; few : l.size ≤ 9 * l.output-index }
