use Rattle.std.proofs.Common.{◌≡◌, drop}
use Rattle.module_run.specs.Values.{values_for}
use Rattle.module_run.proofs.ListedValues.{joined}
use Rattle.module_run.proofs.values.values_of.Given as goal

abbrev pub invariant-loop-i : goal.invariant-loop-i
invariant-loop-i l = joined l.values.items (values_for (drop l.i l.kinds) (drop l.i l.numbers)) ≡ values_for l.kinds l.numbers
