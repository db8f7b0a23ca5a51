use Rattle.typed_runs.proofs.Started.{starts_fit}
use Rattle.typed_runs.proofs.law_starts_fit.Goals as goal

pub returns : goal.returns
returns c = starts_fit
