use Rattle.flow_domain.specs.Summaries.{HasInput, IsShape}
use Rattle.summary_fix.specs.Imports.{GlobalRow}
use Rattle.summary_fix.proofs.Importing.{Adds}
use Rattle.summary_fix.proofs.imports.add_final_globals.Given as goal

abbrev pub invariant-loop-global : goal.invariant-loop-global
invariant-loop-global l = record {
  shape : IsShape l.initial.rows.globals l.initial.rows.params l.rows;
  added : Adds (λ o x. GlobalRow l.seen l.memory l.initial.rows.params l.global o x) (HasInput l.initial.rows) (HasInput l.rows);
}
