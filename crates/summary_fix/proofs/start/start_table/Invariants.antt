use Rattle.std.proofs.Common.{◌≡◌, ◌↔◌, ℕ, ◌<◌, ◌≤◌, length, Some}
use Rattle.std.specs.Prelude.{slice_get}
use Rattle.wasm_types.specs.declared.module.FuncType.{FuncType}
use Rattle.wasm_types.specs.declared.place.Loc.{Loc}
use Rattle.wasm_types.specs.Spaces.{globals_of, import_count, type_of_func}
use Rattle.flow_domain.specs.Rows.{Output, ImportRows}
use Rattle.flow_domain.specs.Summaries.{IsKnown, IsShape, TableRows}
use Rattle.flow_domain.specs.declared.summary.Summary.{Summary}
use Rattle.summary_fix.proofs.start.start_table.Given as goal

abbrev pub invariant-loop-func : goal.invariant-loop-func
invariant-loop-func l = record {
  long : length l.table.rows.items ≡ l.func;
  globals : (f : ℕ) (s : Summary) → slice_get l.table.rows.items f ≡ Some s → s.globals ≡ length (globals_of l.m);
  shapes : (f : ℕ) (kind : FuncType) (s : Summary) → type_of_func l.m f ≡ Some kind → slice_get l.table.rows.items f ≡ Some s
      → IsShape (length (globals_of l.m)) (length kind.params) s;
  imports : (f : ℕ) (o : Output) (x : Loc) → f < l.func → f < import_count l.m → IsKnown (length (globals_of l.m)) o → TableRows l.table f o x ↔ ImportRows l.m f o x;
  own : (f : ℕ) (o : Output) (x : Loc) → import_count l.m ≤ f → TableRows l.table f o x → ⊥;
}
