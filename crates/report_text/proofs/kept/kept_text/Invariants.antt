use Rattle.std.proofs.Common.{◌≡◌}
use Rattle.flow_domain.specs.KeptSets.{holds}
use Rattle.report_text.specs.Drafts.{written}
use Rattle.report_text.specs.KeptTexts.{kept_lines}
use Rattle.report_text.proofs.kept.kept_text.Given as goal

abbrev pub invariant-loop-at : goal.invariant-loop-at
invariant-loop-at l = written l.text ≡ kept_lines (holds l.kept) l.at
