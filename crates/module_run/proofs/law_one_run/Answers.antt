use Rattle.module_run.proofs.OneRun.{one_run}
use Rattle.module_run.proofs.law_one_run.Goals as goal

pub returns : goal.returns
returns c = one_run
