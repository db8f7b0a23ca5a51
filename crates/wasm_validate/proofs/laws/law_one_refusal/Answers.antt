use Rattle.wasm_validate.proofs.OneRefusal.{one_refusal, none_refused}
use Rattle.wasm_validate.proofs.laws.law_one_refusal.Goals as goal

pub returns : goal.returns
returns c = record { one = one_refusal; none = none_refused }
