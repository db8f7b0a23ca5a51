use Rattle.control_deps.proofs.DeciderLemmas.{DecidersBelow}
use Rattle.control_deps.proofs.shadow.all_of.Given as goal

abbrev pub invariant-loop-at : goal.invariant-loop-at
invariant-loop-at l = DecidersBelow l.spots l.node l.at l.found.items
