use Rattle.body_check.proofs.StackLemmas.{pops-one}
use Rattle.body_check.proofs.stack.Stack.drop_one.Goals as goal

pub returns-in-Some : goal.returns-in-Some
returns-in-Some c = pops-one c.args.self.now c.pop_any.new.self c.in-Some.field-0 c.in-Some.ensures
