use Rattle.std.proofs.Common.{◌≡◌, ℕ, Some, length}
use Rattle.std.specs.Prelude.{slice_get}
use Rattle.called_rows.specs.declared.classes.Targets.{Targets}
use Rattle.called_rows.specs.Classes.{AreTogether}
use Rattle.called_rows.proofs.classes.all_targets.Given as goal

abbrev pub invariant-loop-class : goal.invariant-loop-class
invariant-loop-class l = record {
  long : length l.all.items ≡ l.class;
  each : (c : ℕ) (u : Targets) → slice_get l.all.items c ≡ Some u → AreTogether l.m l.graph l.table c u;
}
