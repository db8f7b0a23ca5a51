use Rattle.std.proofs.Common.{◌∙◌, ap}
use Rattle.wasm_types.specs.Validity.{values_of}
use Rattle.body_check.proofs.TypingLemmas.{one-result}
use Rattle.body_check.proofs.typing.of_call.Goals as goal

pub returns-clause-leaves : goal.returns-clause-leaves
returns-clause-leaves c = ap values_of (c.in_ok-found.ensures.1 ∙ c.copied-leaves.ensures ∙ c.get.ensures.value) ∙ one-result c.args.kind.now.results c.requires
