-- What is written, and then the numbers that are left, is what is to be written.
use Rattle.std.proofs.Common.{◌≡◌, ◌++◌, drop}
use Rattle.report_text.specs.InstructionTexts.{numbers_after}
use Rattle.report_text.specs.Drafts.{written}
use Rattle.report_text.proofs.instruction.push_numbers_after.Given as goal

abbrev pub invariant-loop-number : goal.invariant-loop-number
invariant-loop-number l = written l.out ++ numbers_after (drop l.number-index l.numbers) ≡ written l.initial.out ++ numbers_after l.numbers
