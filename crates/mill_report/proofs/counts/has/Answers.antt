use Rattle.report_text.proofs.SummaryLemmas.{rows_in_exact}
use Rattle.mill_report.proofs.CountLemmas.{same_bool}
use Rattle.mill_report.proofs.counts.has.Goals as goal

pub returns : goal.returns
returns c =
    let told = rows_in_exact c.args.table.now c.args.func c.args.output c.args.input in
    let has = c.has.ensures in same_bool _ _ (λ on. told.1 (has.0 on)) (λ on. has.1 (told.0 on))
