use Rattle.stack_repair.proofs.Bodies.{cut_is_one}
use Rattle.stack_repair.proofs.laws.law_cut_is_one.Goals as goal

pub returns : goal.returns
returns c = cut_is_one
