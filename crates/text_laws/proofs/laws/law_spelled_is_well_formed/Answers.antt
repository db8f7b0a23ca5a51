use Rattle.text_laws.proofs.ProperLemmas.{spelled_well_formed}
use Rattle.text_laws.proofs.laws.law_spelled_is_well_formed.Goals as goal

pub returns : goal.returns
returns c = spelled_well_formed
