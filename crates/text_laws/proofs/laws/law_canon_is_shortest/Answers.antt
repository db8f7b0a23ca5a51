use Rattle.text_laws.proofs.LeastLemmas.{canon_is_least}
use Rattle.text_laws.proofs.laws.law_canon_is_shortest.Goals as goal

pub returns : goal.returns
returns c = canon_is_least
