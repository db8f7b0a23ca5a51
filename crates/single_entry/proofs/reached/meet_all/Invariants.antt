use Rattle.single_entry.specs.Paths.{AreMet}
use Rattle.single_entry.proofs.reached.meet_all.Given as goal

abbrev pub invariant-loop : goal.invariant-loop
invariant-loop l = AreMet l.cfg l.marks.items l.waiting.items
