use Rattle.std.proofs.lemmas.Result.{IfOk-weaker}
use Rattle.wassail_top.proofs.LargeModule.{report_made}
use Rattle.wassail_top.proofs.report.report.Goals as goal

pub returns : goal.returns
returns c =
    let rows = c.in_ok-inputs.ensures.inputs in
    let slice = c.in_ok-slice_bytes.ensures in
    IfOk-weaker c.figures_text.result _ _
    (λ text lines. report_made c.args.count c.in_ok-valid.valid c.in_ok-valid.ensures.mill rows.0 rows.1 _ c.in_ok-inputs.ensures.kept slice.0 slice.1 slice.2
    c.in_ok-bytes.ensures c.functions-functions.ensures c.count_positions-positions.ensures rows.2 slice.3 text.items lines)
    c.figures_text.ensures
