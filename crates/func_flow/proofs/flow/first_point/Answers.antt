use Rattle.std.proofs.Common.{arith}
use Rattle.std.proofs.lemmas.Bool.Decides.{nat_tests}
use Rattle.wasm_types.specs.declared.place.Node.TheVariants.{Exit}
use Rattle.block_cfg.proofs.WalkLemmas.{first_some}
use Rattle.func_flow.proofs.flow.first_point.Goals as goal

pub returns-else-is_empty : goal.returns-else-is_empty
returns-else-is_empty c = first_some c.args.code.now 0 Exit (λ none. absurd (grind (arith, nat_tests, none)))
