use Rattle.stack_repair.proofs.Bodies.{valid_has_heights}
use Rattle.stack_repair.proofs.laws.law_valid_has_heights.Goals as goal

pub returns : goal.returns
returns c = valid_has_heights
