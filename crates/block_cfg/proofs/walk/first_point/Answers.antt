use Rattle.std.proofs.Common.{arith}
use Rattle.std.proofs.lemmas.Bool.Decides.{nat_tests}
use Rattle.block_cfg.proofs.WalkLemmas.{first_some}
use Rattle.block_cfg.proofs.walk.first_point.Goals as goal

pub returns-else-is_empty : goal.returns-else-is_empty
returns-else-is_empty c = first_some c.args.code.now c.args.at c.args.after (λ none. absurd (grind (arith, nat_tests, none)))
