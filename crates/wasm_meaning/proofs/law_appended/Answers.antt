use Rattle.wasm_meaning.proofs.Append.{appended_keep}
use Rattle.wasm_meaning.proofs.law_appended.Goals as goal

pub returns : goal.returns
returns c = appended_keep
