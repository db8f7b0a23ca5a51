use Rattle.wasm_types.specs.Validity.{values_of}
use Rattle.body_check.proofs.StackLemmas.{leaves}
use Rattle.body_check.proofs.stack.Stack.leave.Goals as goal

pub returns : goal.returns
returns c = leaves (values_of c.args.kind) _ _ _ c.if-not-pop_values.ensures c.forget.ensures
