use Rattle.text_laws.proofs.ModuleLemmas.{one_module}
use Rattle.text_laws.proofs.laws.law_one_module.Goals as goal

pub returns : goal.returns
returns c = one_module
