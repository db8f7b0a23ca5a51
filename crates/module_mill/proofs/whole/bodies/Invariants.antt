use Rattle.std.proofs.Common.{◌≡◌}
use Rattle.module_mill.specs.Mill.{below, body}
use Rattle.module_mill.proofs.whole.bodies.Given as goal

abbrev pub invariant-loop-func : goal.invariant-loop-func
invariant-loop-func l = l.made ≡ below body l.func
