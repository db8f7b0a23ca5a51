use Rattle.stack_repair.proofs.Counting.{cut_is_short, cut_nests_no_deeper}
use Rattle.stack_repair.proofs.Bytes.{cut_is_small}
use Rattle.stack_repair.proofs.laws.law_cut_is_small.Goals as goal

pub returns-clause-short : goal.returns-clause-short
returns-clause-short c = cut_is_short

pub returns-clause-nesting : goal.returns-clause-nesting
returns-clause-nesting c = cut_nests_no_deeper

pub returns-clause-small : goal.returns-clause-small
returns-clause-small c = cut_is_small
