use Rattle.std.proofs.Common.{◌+◌, ◌*◌, take}
use Rattle.worklist.specs.Bits.{GainsBits}
use Rattle.worklist.specs.Roots.{IsRootOf}
use Rattle.sparse_reach.proofs.rounds.start_each.Given as goal

abbrev pub invariant-loop-root : goal.invariant-loop-root
invariant-loop-root l = GainsBits 1 (λ x o. IsRootOf (take l.root-index l.roots) (l.batch * 64 + o) x) l.initial.words l.words
