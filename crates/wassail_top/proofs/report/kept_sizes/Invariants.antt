use Rattle.std.proofs.Common.{◌*◌, ◌≤◌, ◌^◌}
use Rattle.wassail_top.specs.Reports.{KeepsBelow}
use Rattle.wassail_top.proofs.report.kept_sizes.Given as goal

abbrev pub invariant-loop-func : goal.invariant-loop-func
invariant-loop-func l = record { keeps : KeepsBelow l.valid l.func l.total; few : l.total ≤ 2 ^ 32 * l.func }
