use Rattle.std.proofs.Common.{◌≡◌, drop}
use Rattle.stack_names.specs.Ends.{ends_at}
use Rattle.report_text.proofs.listing.is_taken_at_end.Given as goal

abbrev pub invariant-loop-taker : goal.invariant-loop-taker
invariant-loop-taker l = ends_at l.end (drop l.taker-index l.takers) ≡ ends_at l.end l.takers
