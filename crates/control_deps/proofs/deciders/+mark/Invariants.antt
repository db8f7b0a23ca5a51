use Rattle.control_deps.proofs.deciders.+mark.Given as goal

abbrev pub decreases-mark : goal.decreases-mark
decreases-mark l = l.label
