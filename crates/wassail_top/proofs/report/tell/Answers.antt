use Rattle.std.proofs.Common.{ap, sym, ◌∙◌}
use Rattle.wasm_types.specs.declared.module.Module.{Module}
use Rattle.report_text.specs.SummaryTexts.{rows_in}
use Rattle.mill_report.specs.Counts.{inputs_below}
use Rattle.wassail_top.proofs.LargeModule.{milled_sealed}
use Rattle.wassail_top.proofs.TableRows.{table_rows}
use Rattle.wassail_top.proofs.report.tell.Goals as goal

pub returns-clause-inputs : goal.returns-clause-inputs
returns-clause-inputs c =
    let m = c.args.valid.now in
    let t = c.in_ok-table.table in
    let told = c.in_ok-table.ensures in
    let seal = milled_sealed c.args.count c.requires.few m c.requires.milled in (
      rows_in t,
      table_rows m t seal.valid told.cover told.table told.exact,
      c.count_inputs.ensures ∙ ap (λ (n : Module). inputs_below n (rows_in t) c.args.count) (sym c.requires.milled),
    )
