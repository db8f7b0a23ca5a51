use Rattle.text_laws.proofs.ModuleLemmas.{one_module}
use Rattle.text_laws.proofs.CanonModule.{canon_spelled}
use Rattle.wasm_types.specs.Canon.{canon}
use Rattle.text_laws.proofs.laws.law_canon.Goals as goal

pub returns-clause-spelled : goal.returns-clause-spelled
returns-clause-spelled c = canon_spelled

pub returns-clause-alone : goal.returns-clause-alone
returns-clause-alone c = λ m n well lt spelled. one_module (canon m) m n (canon_spelled m well lt) spelled
