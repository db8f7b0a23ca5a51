-- No such byte was met: the word is cut where what is left of it is.
use Rattle.std.proofs.Common.{◌≡◌, ◌++◌, drop, take}
use Rattle.run_words.specs.Words.{before, behind}
use Rattle.run_words.proofs.pieces.cut_at.Given as goal

abbrev pub invariant-loop-k : goal.invariant-loop-k
invariant-loop-k l =
    record {
      front : take l.k l.word ++ before l.byte (drop l.k l.word) ≡ before l.byte l.word;
      rest : behind l.byte (drop l.k l.word) ≡ behind l.byte l.word;
    }
