use Rattle.std.proofs.Common.{sym, ◌∙◌, arith}
use Rattle.control_deps.proofs.StraightLemmas.{back_straight}
use Rattle.control_deps.proofs.nest.Nest.spots.Goals as goal

pub returns-else-self-eq0-clause-none : goal.returns-else-self-eq0-clause-none
returns-else-self-eq0-clause-none c =
    let n = c.self.inside.straight in
    λ none. (n, sym c.self.view_is ∙ back_straight n c.self.inside.spots.items (λ e. omega (arith, c.if-self-eq0.false, e)))
