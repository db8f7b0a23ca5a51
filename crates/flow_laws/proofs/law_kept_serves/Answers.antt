use Rattle.flow_laws.proofs.KeptServes.{kept_serves}
use Rattle.flow_laws.proofs.law_kept_serves.Goals as goal

pub returns : goal.returns
returns c = kept_serves
