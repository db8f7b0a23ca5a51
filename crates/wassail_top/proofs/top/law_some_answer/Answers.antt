use Rattle.wassail_top.proofs.SomeAnswer.{some_answer}
use Rattle.wassail_top.proofs.top.law_some_answer.Goals as goal

pub returns : goal.returns
returns c = some_answer
