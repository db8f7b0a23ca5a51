use Rattle.std.proofs.Common.{◌≡◌, Some, Ok, map, subst}
use Rattle.std.specs.String.{string_bytes}
use Rattle.std.proofs.lemmas.Result.{IfOk-weaker}
use Rattle.wassail_top.specs.declared.words.Request.{Request}
use Rattle.wassail_top.specs.Orders.{order_read}
use Rattle.wassail_top.specs.Parses.{ParsesRequest}
use Rattle.wassail_top.specs.Reply.{reply_answer}
use Rattle.wassail_top.specs.Words.{order_of}
use Rattle.wassail_top.proofs.Reading.{as_due}
use Rattle.wassail_top.proofs.due.due.Goals as goal

pub returns-in-Ok-Answer-clause-due : goal.returns-in-Ok-Answer-clause-due
returns-in-Ok-Answer-clause-due g c =
    let words = map string_bytes c.args.words.now in
    let named : order_of words ≡ Some (order_read c.in-Ok-Answer.command) =
    subst (λ (r : Request). ParsesRequest words (Ok r)) c.in-Ok-Answer.field-0-is c.in-Ok-Answer.ensures.parses in
    IfOk-weaker c.read_and_answer.result _ _
    (λ reply due. as_due words (order_read c.in-Ok-Answer.command) _ _ _ _ (reply_answer reply) named due)
    c.read_and_answer.ensures.due
