-- What is written, and then the lines of the events that are left, are the lines of all.
use Rattle.std.proofs.Common.{◌≡◌, ◌++◌, drop}
use Rattle.std.specs.String.{string_bytes}
use Rattle.report_text.specs.RunTexts.{event_lines}
use Rattle.report_text.proofs.run.ran_text.Given as goal

abbrev pub invariant-loop-event : goal.invariant-loop-event
invariant-loop-event l = string_bytes l.text ++ event_lines (drop l.event-index l.trace) ≡ event_lines l.trace
