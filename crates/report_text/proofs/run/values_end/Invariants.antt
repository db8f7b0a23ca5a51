-- What is written, and then the texts of the values that are left, is the whole line.
use Rattle.std.proofs.Common.{◌≡◌, ◌++◌, drop}
use Rattle.std.specs.String.{string_bytes}
use Rattle.report_text.specs.Texts.{line_of}
use Rattle.report_text.specs.RunTexts.{value_texts}
use Rattle.report_text.proofs.run.values_end.Given as goal

abbrev pub invariant-loop-value : goal.invariant-loop-value
invariant-loop-value l = string_bytes l.text ++ line_of (value_texts (drop l.value-index l.values)) ≡ line_of (value_texts l.values)
