use Rattle.std.proofs.Common.{◌≡◌}
use Rattle.flow_domain.specs.Summaries.{HasInput, IsShape, asked}
use Rattle.summary_fix.specs.Imports.{IsParam}
use Rattle.summary_fix.proofs.Importing.{Adds}
use Rattle.summary_fix.proofs.imports.add_params.Given as goal

abbrev pub invariant-loop-param : goal.invariant-loop-param
invariant-loop-param l = record {
  shape : IsShape l.initial.rows.globals l.initial.rows.params l.rows;
  added : Adds (λ o x. (o ≡ asked l.out) × IsParam l.param x) (HasInput l.initial.rows) (HasInput l.rows);
}
