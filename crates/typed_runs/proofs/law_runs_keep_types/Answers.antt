use Rattle.typed_runs.proofs.OwnCalls.{runs_keep_types}
use Rattle.typed_runs.proofs.law_runs_keep_types.Goals as goal

pub returns : goal.returns
returns c = runs_keep_types
