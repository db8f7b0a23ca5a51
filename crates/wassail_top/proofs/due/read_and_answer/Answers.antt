use Rattle.std.proofs.Common.{subst, inl, inr}
use Rattle.std.proofs.lemmas.Result.{IfOk-weaker}
use Rattle.wassail_top.specs.Answers.{AnswersBytes}
use Rattle.wassail_top.specs.Orders.{order_read}
use Rattle.wassail_top.specs.Reply.{reply_answer}
use Rattle.wassail_top.proofs.due.read_and_answer.Goals as goal

pub returns-in-Ok-clause-due : goal.returns-in-Ok-clause-due
returns-in-Ok-clause-due g c =
    IfOk-weaker c.answer_bytes.result _ _
    (λ reply answer. inl (inr (
      c.in-Ok.bytes.items,
      c.in-Ok.ensures.taken.0,
      c.in-Ok.ensures.taken.1,
      subst (λ bytes. AnswersBytes (order_read c.args.command) bytes (reply_answer reply)) c.deref.ensures.value answer,
    )))
    c.answer_bytes.ensures
