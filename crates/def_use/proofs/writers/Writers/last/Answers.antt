use Rattle.std.proofs.Common.{MatchOption, List, ℕ, subst}
use Rattle.single_entry.specs.Last.{HasNoneOf, IsLastOf}
use Rattle.def_use.proofs.writers.Writers.last.Goals as goal

pub returns : goal.returns
returns c =
    subst (λ (row : List ℕ). MatchOption c.last_of.result (HasNoneOf row c.args.begin c.args.end) (λ w. IsLastOf row c.args.begin c.args.end w))
    c.of.ensures c.last_of.ensures
