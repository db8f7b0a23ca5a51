use Rattle.std.proofs.Common.{ℕ, ◌+◌, ◌∙◌, ap₂, sym, arith, count_by}
use Rattle.std.proofs.lemmas.List.Sums.{sum_by_more}
use Rattle.flow_domain.specs.declared.summary.Output.{Output as Asked}
use Rattle.flow_domain.specs.declared.summary.Output.TheVariants.{Ret}
use Rattle.report_text.specs.SummaryTexts.{rows_in}
use Rattle.mill_report.specs.declared.counts.TheConstants.{INPUTS, OUTPUTS}
use Rattle.mill_report.proofs.counts.func_size.Goals as goal

pub loop-output-preserved : goal.loop-output-preserved
loop-output-preserved c =
    let more =
    sum_by_more (λ (o : Asked). count_by (rows_in c.args.table.now c.args.func o) INPUTS.now) OUTPUTS.now c.loop-output.output-index Ret
    c.loop-output-test.true in
    record {
      sum = ap₂ {A = ℕ} {B = ℕ} (λ a b. a + b) c.loop-output.invariant.sum c.row_size-size.ensures.size ∙ sym more;
      few = omega (arith, c.row_size-size.ensures.few, c.loop-output.invariant.few);
    }
