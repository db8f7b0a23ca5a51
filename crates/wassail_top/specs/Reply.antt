-- A reply without where it lies in memory.
use Rattle.wassail_top.specs.declared.due.Reply.{Reply}
use Rattle.wassail_top.specs.Refusals.{Answer}
use Rattle.wassail_top.specs.Statuses.{status_code}

abbrev pub reply_answer : Reply → Answer
reply_answer reply = record { status = status_code reply.status; out = reply.out; err = reply.err.items }
