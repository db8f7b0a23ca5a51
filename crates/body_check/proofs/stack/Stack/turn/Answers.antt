use Rattle.std.proofs.Common.{reverse}
use Rattle.wasm_types.specs.Validity.{values_of}
use Rattle.body_check.proofs.StackLemmas.{turns}
use Rattle.body_check.proofs.stack.Stack.turn.Goals as goal

pub returns : goal.returns
returns c = turns (reverse c.args.takes.now) (values_of c.args.leaves) _ _ _ c.if-not-pop_all.ensures c.in_ok-push_values.ensures
