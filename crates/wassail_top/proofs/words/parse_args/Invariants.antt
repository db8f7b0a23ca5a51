-- The args read, and then those that the words left are, are those that all words are.
use Rattle.std.proofs.Common.{◌≡◌, drop, map}
use Rattle.std.specs.String.{string_bytes}
use Rattle.run_words.specs.Words.{value_of}
use Rattle.wassail_top.specs.Words.{each}
use Rattle.wassail_top.proofs.ListedWords.{and_others}
use Rattle.wassail_top.proofs.words.parse_args.Given as goal

abbrev pub invariant-loop-word : goal.invariant-loop-word
invariant-loop-word l = and_others l.args.items (each value_of (map string_bytes (drop l.word-index l.words))) ≡ each value_of (map string_bytes l.words)
