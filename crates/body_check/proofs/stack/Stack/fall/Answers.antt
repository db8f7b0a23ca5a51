use Rattle.body_check.proofs.StackLemmas.{falls}
use Rattle.body_check.proofs.stack.Stack.fall.Goals as goal

pub returns : goal.returns
returns c = falls _ _ c.forget.ensures
