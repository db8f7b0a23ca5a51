use Rattle.std.proofs.Common.{◌≡◌, ◌*◌, ◌≤◌}
use Rattle.report_text.specs.SummaryTexts.{rows_in}
use Rattle.module_mill.specs.Mill.{mill}
use Rattle.mill_report.specs.Counts.{inputs_below}
use Rattle.mill_report.proofs.counts.count_inputs.Given as goal

abbrev pub invariant-loop-func : goal.invariant-loop-func
invariant-loop-func l = record { sum : l.size ≡ inputs_below (mill l.count) (rows_in l.table) l.func; few : l.size ≤ 72 * l.func }
