use Rattle.wasm_types.specs.Validity.{values_of}
use Rattle.body_check.proofs.StackLemmas.{leaves-no-number, leaves-more}
use Rattle.body_check.proofs.stack.Stack.leave_by_number.Goals as goal

pub returns-then-not-pop : goal.returns-then-not-pop
returns-then-not-pop c = leaves-no-number (values_of c.args.kind) c.args.self.now c.if-not-pop.ensures

pub returns : goal.returns
returns c = leaves-more (values_of c.args.kind) c.args.self.now c.pop.new.self c.leave.new.self c.leave.result c.if-not-pop.ensures c.leave.ensures
