use Rattle.std.proofs.Common.{sym, subst, ◌∙◌}
use Rattle.std.proofs.lemmas.Option.{same_Some}
use Rattle.flow_domain.specs.declared.summary.Summary.{Summary}
use Rattle.flow_domain.specs.Summaries.{HasInput, asked, place_of}
use Rattle.flow_domain.proofs.summary_table.SummaryTable.has.Goals as goal

pub returns-in-Some : goal.returns-in-Some
returns-in-Some c = (
  λ t. (c.in-Some.rows.now, (sym c.in-Some.ensures, c.has.ensures.0 t)),
  λ (z, (at, h)). c.has.ensures.1 (subst (λ (y : Summary). HasInput y (asked c.args.out) (place_of c.args.inp))
      (same_Some z c.in-Some.rows.now (sym at ∙ sym c.in-Some.ensures)) h),
)
