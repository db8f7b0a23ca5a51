use Rattle.std.proofs.Common.{◌≡◌, ◌++◌, drop}
use Rattle.report_text.specs.SummaryTexts.{mutable_from}
use Rattle.report_text.proofs.summary.push_mutable.Given as goal

abbrev pub invariant-loop-global : goal.invariant-loop-global
invariant-loop-global l = record {
  counted : l.k ≡ l.global-index;
  put : l.outputs.items ++ mutable_from l.k (drop l.global-index l.globals) ≡ l.initial.outputs.items ++ mutable_from 0 l.globals;
}
