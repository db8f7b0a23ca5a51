use Rattle.std.proofs.Common.{◌↔◌, take}
use Rattle.wasm_types.specs.declared.place.Loc.{Loc}
use Rattle.flow_domain.specs.Rows.{Output}
use Rattle.flow_domain.specs.Summaries.{HasInput, IsShape, TableRows}
use Rattle.called_rows.specs.Funcs.{AnyOf}
use Rattle.called_rows.proofs.funcs.rows_of.Given as goal

abbrev pub invariant-loop-func : goal.invariant-loop-func
invariant-loop-func l = record {
  shape : IsShape l.globals l.params l.rows;
  exact : (o : Output) (x : Loc) → HasInput l.rows o x ↔ AnyOf (take l.func-index l.funcs) (λ f. TableRows l.table f o x);
}
