use Rattle.std.proofs.Common.{◌*◌, ◌-◌, ◌^◌, length, sum}
use Rattle.sparse_reach.proofs.Going.{Spreading}
use Rattle.sparse_reach.proofs.rounds.spread.Given as goal

abbrev pub invariant-loop-grew : goal.invariant-loop-grew
invariant-loop-grew l = Spreading l.edges l.initial.words l.words

abbrev pub decreases-loop-grew : goal.decreases-loop-grew
decreases-loop-grew l = length l.words * 2 ^ 64 - sum l.words
