use Rattle.summary_fix.proofs.Returning.{rounds_agree, rounds_return}
use Rattle.summary_fix.proofs.laws.law_two_runs.Goals as goal

pub returns-clause-agree : goal.returns-clause-agree
returns-clause-agree c = rounds_agree

pub returns-clause-returns : goal.returns-clause-returns
returns-clause-returns c = rounds_return
