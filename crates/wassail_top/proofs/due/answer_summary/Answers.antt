use Rattle.std.proofs.Common.{sym}
use Rattle.std.proofs.lemmas.Result.{IfOk-weaker}
use Rattle.report_text.specs.SummaryTexts.{rows_in}
use Rattle.wassail_top.specs.Answers.{IsSummaryOf}
use Rattle.wassail_top.specs.Queries.{why_no_summary}
use Rattle.wassail_top.specs.Reply.{reply_answer}
use Rattle.wassail_top.proofs.TableRows.{table_rows}
use Rattle.wassail_top.proofs.Unless.{taken}
use Rattle.wassail_top.proofs.due.answer_summary.Goals as goal

pub returns : goal.returns
returns c =
    let m = c.args.valid.now in
    let told = c.in_ok-table.ensures in
    let rows = table_rows m c.in_ok-table.table c.requires.admitted.valid told.cover told.table told.exact in
    IfOk-weaker c.write_summary.result _ _
    (λ reply is. taken (why_no_summary m c.args.func) (IsSummaryOf m c.args.func) (reply_answer reply) (sym c.in_default.ensures)
    (record { rows = rows_in c.in_ok-table.table; are = rows; is = is }))
    c.write_summary.ensures
