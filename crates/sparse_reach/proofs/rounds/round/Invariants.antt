use Rattle.sparse_reach.proofs.Going.{Going}
use Rattle.sparse_reach.proofs.rounds.round.Given as goal

abbrev pub invariant-loop-edge : goal.invariant-loop-edge
invariant-loop-edge l = Going l.edges l.edge-index l.initial.words l.words l.grew
