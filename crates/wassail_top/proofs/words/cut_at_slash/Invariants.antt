-- No / was met: the words are cut where what is left of them is.
use Rattle.std.proofs.Common.{◌≡◌, ◌++◌, drop, map, take}
use Rattle.std.specs.String.{string_bytes}
use Rattle.wassail_top.specs.Words.{before_slash, behind_slash}
use Rattle.wassail_top.proofs.words.cut_at_slash.Given as goal

abbrev pub invariant-loop-k : goal.invariant-loop-k
invariant-loop-k l =
    record {
      front : map string_bytes (take l.k l.words) ++ before_slash (map string_bytes (drop l.k l.words)) ≡ before_slash (map string_bytes l.words);
      rest : behind_slash (map string_bytes (drop l.k l.words)) ≡ behind_slash (map string_bytes l.words);
    }
