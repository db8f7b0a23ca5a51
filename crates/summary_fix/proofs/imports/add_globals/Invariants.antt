use Rattle.std.proofs.Common.{◌≡◌}
use Rattle.flow_domain.specs.Summaries.{HasInput, IsShape, asked}
use Rattle.summary_fix.proofs.Importing.{Adds, SeenBelow}
use Rattle.summary_fix.proofs.imports.add_globals.Given as goal

abbrev pub invariant-loop-global : goal.invariant-loop-global
invariant-loop-global l = record {
  shape : IsShape l.initial.rows.globals l.initial.rows.params l.rows;
  added : Adds (λ o x. (o ≡ asked l.out) × SeenBelow l.seen l.global x) (HasInput l.initial.rows) (HasInput l.rows);
}
