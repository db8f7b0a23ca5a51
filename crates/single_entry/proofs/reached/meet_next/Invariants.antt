use Rattle.single_entry.specs.Paths.{AreMet}
use Rattle.single_entry.proofs.reached.meet_next.Given as goal

abbrev pub invariant-loop-next : goal.invariant-loop-next
invariant-loop-next l = AreMet l.cfg l.marks.items l.waiting.items
