use Rattle.std.proofs.Common.{take}
use Rattle.flow_domain.specs.Reach.{Reached}
use Rattle.called_rows.specs.Funcs.{AnyOf}
use Rattle.summary_fix.proofs.least.any_reached.Given as goal

abbrev pub invariant-loop-func : goal.invariant-loop-func
invariant-loop-func l = AnyOf (take l.func-index l.funcs) (λ f. Reached l.m l.root f) → ⊥
