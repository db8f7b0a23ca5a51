use Rattle.std.proofs.Common.{◌∙◌, subst}
use Rattle.slice_closure.specs.Flow.{AreRows}
use Rattle.slice_closure.proofs.flow.Flow.of.Goals as goal

pub returns-clause-before : goal.returns-clause-before
returns-clause-before c =
    subst (λ ways. AreRows ways c.in_ok-before.before.items) (c.deref.ensures.value ∙ c.in_ok-spots.ensures.ways) c.in_ok-before.ensures
