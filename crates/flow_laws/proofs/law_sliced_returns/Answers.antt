use Rattle.flow_laws.proofs.KeptServes.{sliced_returns}
use Rattle.flow_laws.proofs.law_sliced_returns.Goals as goal

pub returns : goal.returns
returns c = sliced_returns
