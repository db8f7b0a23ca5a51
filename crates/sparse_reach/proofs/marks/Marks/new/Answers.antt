use Rattle.std.proofs.Common.{arith}
use Rattle.sparse_reach.proofs.Flagging.{length_flags, flags_clear}
use Rattle.sparse_reach.proofs.marks.Marks.new.Goals as goal

pub returns-clause-enough : goal.returns-clause-enough
returns-clause-enough c = omega (arith, length_flags c.in_ok-words.words, c.in_ok-words.ensures.length)

pub returns-clause-clear : goal.returns-clause-clear
returns-clause-clear c = flags_clear c.in_ok-words.words c.in_ok-words.ensures.zero
