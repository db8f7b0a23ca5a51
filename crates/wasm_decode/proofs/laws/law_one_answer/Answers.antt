use Rattle.wasm_decode.proofs.OneLemmas.{one_answer}
use Rattle.wasm_decode.proofs.laws.law_one_answer.Goals as goal

pub returns : goal.returns
returns c = one_answer
