use Rattle.wasm_meaning.proofs.Longer.{longer_budget}
use Rattle.wasm_meaning.proofs.law_longer_budget.Goals as goal

pub returns : goal.returns
returns c = longer_budget
