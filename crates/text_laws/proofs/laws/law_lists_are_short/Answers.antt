use Rattle.std.proofs.Common.{length, arith}
use Rattle.wasm_types.specs.Canon.{canon}
use Rattle.text_laws.proofs.LeastLemmas.{canon_is_least}
use Rattle.text_laws.proofs.SizeLemmas.{has_at_most}
use Rattle.text_laws.proofs.laws.law_lists_are_short.Goals as goal

pub returns-clause-spelled : goal.returns-clause-spelled
returns-clause-spelled c = λ bytes m spelled. has_at_most m (length bytes) (canon_is_least bytes m spelled)

pub returns-clause-canonical : goal.returns-clause-canonical
returns-clause-canonical c = λ m. has_at_most m (length (canon m)) (omega arith)
