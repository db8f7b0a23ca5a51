use Rattle.std.proofs.Common.{◌↔◌}
use Rattle.wasm_types.specs.declared.place.Loc.{Loc}
use Rattle.flow_domain.specs.Rows.{Output}
use Rattle.flow_domain.specs.Summaries.{HasInput, IsShape}
use Rattle.func_flow.specs.Met.{IsMet}
use Rattle.func_flow.proofs.rows.rows_at.Given as goal

abbrev pub invariant-loop-column : goal.invariant-loop-column
invariant-loop-column l = record {
  shape : IsShape l.globals l.params l.summary;
  exact : (o : Output) (x : Loc) → HasInput l.summary o x ↔ IsMet l.met l.numbering l.first l.globals l.params l.column o x;
}
