use Rattle.stack_repair.proofs.Appended.{body_is_short, slice_is_valid, slice_is_short, slice_is_spelled, slice_is_sealed}
use Rattle.stack_repair.proofs.laws.law_slice_is_sealed.Goals as goal

pub returns-clause-valid : goal.returns-clause-valid
returns-clause-valid c = slice_is_valid

pub returns-clause-body : goal.returns-clause-body
returns-clause-body c = body_is_short

pub returns-clause-short : goal.returns-clause-short
returns-clause-short c = slice_is_short

pub returns-clause-spelled : goal.returns-clause-spelled
returns-clause-spelled c = slice_is_spelled

pub returns-clause-sealed : goal.returns-clause-sealed
returns-clause-sealed c = slice_is_sealed
