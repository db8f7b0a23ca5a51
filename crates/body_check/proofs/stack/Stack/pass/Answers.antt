use Rattle.wasm_types.specs.Validity.{values_of}
use Rattle.body_check.proofs.StackLemmas.{pass-no-number, pass-no-value, passes-on}
use Rattle.body_check.proofs.stack.Stack.pass.Goals as goal

pub returns-then-not-pop : goal.returns-then-not-pop
returns-then-not-pop c = pass-no-number (values_of c.args.kind) c.args.self.now c.if-not-pop.ensures

pub returns-then-not-pop_values : goal.returns-then-not-pop_values
returns-then-not-pop_values c = pass-no-value (values_of c.args.kind) c.args.self.now c.pop.new.self c.if-not-pop.ensures c.if-not-pop_values.ensures

pub returns : goal.returns
returns c = passes-on (values_of c.args.kind) c.args.self.now c.pop.new.self c.pop_values.new.self c.push_values.new.self c.if-not-pop.ensures c.if-not-pop_values.ensures c.in_ok-push_values.ensures
