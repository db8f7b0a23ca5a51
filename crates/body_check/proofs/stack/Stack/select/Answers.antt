use Rattle.body_check.proofs.StackLemmas.{select-no-number, select-no-second, select-no-first, select-two, select-one}
use Rattle.body_check.proofs.stack.Stack.select.Goals as goal

pub returns-then-not-pop : goal.returns-then-not-pop
returns-then-not-pop c = select-no-number c.args.self.now c.if-not-pop.ensures

pub returns-in_default : goal.returns-in_default
returns-in_default c = select-no-second c.args.self.now c.pop.new.self c.pop_any.new.self c.if-not-pop.ensures c.in_default.ensures

pub returns-in_default-pop_any : goal.returns-in_default-pop_any
returns-in_default-pop_any c = select-no-first c.in-Some.second c.args.self.now c.pop.new.self c.pop_any.new.self c.pop_any-2.new.self c.if-not-pop.ensures c.in-Some.ensures c.in_default-pop_any.ensures

pub returns-in_ok-push-in-Some-both : goal.returns-in_ok-push-in-Some-both
returns-in_ok-push-in-Some-both c = select-one c.in-Some-pop_any.first c.in-Some.second c.in-Some-both.kind c.args.self.now c.pop.new.self c.pop_any.new.self c.pop_any-2.new.self c.push.new.self c.if-not-pop.ensures c.in-Some.ensures c.in-Some-pop_any.ensures c.in-Some-both.ensures c.in_ok-push-in-Some-both.ensures

pub returns-in-None : goal.returns-in-None
returns-in-None c = select-two c.in-Some-pop_any.first c.in-Some.second c.args.self.now c.pop.new.self c.pop_any.new.self c.pop_any-2.new.self c.if-not-pop.ensures c.in-Some.ensures c.in-Some-pop_any.ensures c.in-None.ensures
