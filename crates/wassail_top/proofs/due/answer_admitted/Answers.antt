use Rattle.std.proofs.Common.{ℕ, List, IfOk, sym, subst}
use Rattle.wassail_top.specs.declared.words.Command.{Command}
use Rattle.wassail_top.specs.Answers.{AnswersAdmitted, IsSlicedAs}
use Rattle.wassail_top.specs.Orders.{order_read}
use Rattle.wassail_top.specs.Queries.{why_no_slice}
use Rattle.wassail_top.specs.Reply.{reply_answer}
use Rattle.wassail_top.specs.RunAnswers.{AnswersUnless}
use Rattle.wassail_top.proofs.due.answer_admitted.Goals as goal

pub returns-in-Slice : goal.returns-in-Slice
returns-in-Slice c =
    let func = c.in-Slice.func in
    let at = c.in-Slice.at in
    subst (λ (command : Command). IfOk c.answer_slice.result (λ reply. AnswersAdmitted (order_read command) c.args.valid (reply_answer reply)))
    (sym c.in-Slice.is)
    (subst (λ (name : List ℕ). IfOk c.answer_slice.result
    (λ reply. AnswersUnless (why_no_slice c.args.valid func at name) (IsSlicedAs c.args.valid func at name) (reply_answer reply))) c.as_str.ensures.value
    c.answer_slice.ensures)
