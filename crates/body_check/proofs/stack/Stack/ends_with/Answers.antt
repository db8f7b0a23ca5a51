use Rattle.std.proofs.Common.{sym, ap, ◌∙◌, length, ◌==◌, true≢false}
use Rattle.wasm_types.specs.Validity.{values_of}
use Rattle.body_check.proofs.StackLemmas.{ends-fail, ends, bare-tested}
use Rattle.body_check.proofs.stack.Stack.ends_with.Goals as goal

pub returns-then-not-pop_values : goal.returns-then-not-pop_values
returns-then-not-pop_values c = (λ h. absurd (true≢false (sym h)), λ st. absurd (ends-fail (values_of c.args.kind) c.args.self c.if-not-pop_values.ensures st))

pub returns : goal.returns
returns c = bare-tested c.args.self c.pop_values.new.self (values_of c.args.kind) _ (ends (values_of c.args.kind) c.args.self c.pop_values.new.self c.if-not-pop_values.ensures) (c.is_empty.ensures ∙ ap (λ z. length z == 0) c.as_slice.ensures.value)
