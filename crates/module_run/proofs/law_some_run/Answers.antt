use Rattle.module_run.proofs.SomeRun.{some_run}
use Rattle.module_run.proofs.law_some_run.Goals as goal

pub returns : goal.returns
returns c = some_run
