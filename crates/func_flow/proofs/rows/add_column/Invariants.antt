use Rattle.wasm_types.specs.declared.place.Loc.{Loc}
use Rattle.flow_domain.specs.Rows.{Output}
use Rattle.flow_domain.specs.Summaries.{HasInput, IsShape}
use Rattle.func_flow.specs.Met.{AnyRow}
use Rattle.func_flow.proofs.MetLemmas.{Grows}
use Rattle.func_flow.proofs.rows.add_column.Given as goal

abbrev pub invariant-loop-row : goal.invariant-loop-row
invariant-loop-row l = record {
  shape : IsShape l.initial.summary.globals l.initial.summary.params l.summary;
  added : Grows (λ (o : Output) (x : Loc). HasInput l.initial.summary o x)
      (λ o x. AnyRow l.met l.item l.initial.summary.globals l.initial.summary.params l.row l.column o x)
      (λ o x. HasInput l.summary o x);
}
