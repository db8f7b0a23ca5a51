use Rattle.std.proofs.Common.{rules}
use Rattle.worklist.proofs.Spreading.{sum_bound}
use Rattle.sparse_reach.proofs.rounds.words_bound.Goals as goal

pub returns : goal.returns
returns c = sum_bound c.args.words.now (λ i. let fits = c.type_inv.words i in search rules)
