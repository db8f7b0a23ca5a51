use Rattle.stack_repair.proofs.Bodies.{cut_is_valid}
use Rattle.stack_repair.proofs.laws.law_cut_is_valid.Goals as goal

pub returns : goal.returns
returns c = cut_is_valid
