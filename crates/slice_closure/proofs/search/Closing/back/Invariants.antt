use Rattle.slice_closure.proofs.RunLemmas.{Goes}
use Rattle.slice_closure.proofs.search.Closing.back.Given as goal

abbrev pub invariant-loop-before : goal.invariant-loop-before
invariant-loop-before l = Goes l.self.tables l.loc l.fn.pos.0 l.here.0

abbrev pub decreases-loop-before : goal.decreases-loop-before
decreases-loop-before l = l.here.0
