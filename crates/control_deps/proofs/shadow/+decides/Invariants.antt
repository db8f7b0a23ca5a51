use Rattle.control_deps.proofs.shadow.+decides.Given as goal

abbrev pub decreases-decides : goal.decreases-decides
decreases-decides l = l.label
