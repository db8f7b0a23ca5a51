use Rattle.wassail_top.proofs.OneAnswer.{one_answer}
use Rattle.wassail_top.proofs.top.law_one_answer.Goals as goal

pub returns : goal.returns
returns c = one_answer
