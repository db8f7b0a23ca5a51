use Rattle.flow_domain.specs.Bounds.{bounds}
use Rattle.flow_domain.specs.Law.{rows_by}
use Rattle.flow_domain.specs.Sliced.{rows_in}
use Rattle.flow_domain.proofs.KeptLaws.{least}
use Rattle.flow_domain.proofs.laws.law_kept_is_least.Goals as goal

pub returns : goal.returns
returns c = record {
  tables = λ B row. least B (rows_by row);
  sliced = λ m W. least (bounds m W) (rows_in m W);
}
