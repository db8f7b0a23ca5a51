use Rattle.std.proofs.Common.{◌≡◌, ◌++◌}
use Rattle.report_text.specs.Drafts.{written}
use Rattle.report_text.specs.SummaryTexts.{lines_below, rows_in}
use Rattle.report_text.proofs.summary.Common.push_functions.Given as goal

abbrev pub invariant-loop-func : goal.invariant-loop-func
invariant-loop-func l = written l.out ≡ written l.initial.out ++ lines_below l.self.module.now (rows_in l.table) l.func
