use Rattle.func_flow.proofs.RunLemmas.{raises_needed}
use Rattle.func_flow.proofs.search.Flow.raised.Goals as goal

pub returns-in-Needed-clause-exact : goal.returns-in-Needed-clause-exact
returns-in-Needed-clause-exact c =
    raises_needed c.args.self.now.runs.now c.in-Needed.loc c.in-Needed.point c.top.result c.top.ensures c.args.item c.in-Needed.is
