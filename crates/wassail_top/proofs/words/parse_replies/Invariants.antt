-- The replies read, and then those that the words left are, are those that all words are.
use Rattle.std.proofs.Common.{◌≡◌, drop, map}
use Rattle.std.specs.String.{string_bytes}
use Rattle.run_words.specs.Words.{reply_of}
use Rattle.wassail_top.specs.Words.{each}
use Rattle.wassail_top.proofs.ListedWords.{and_others}
use Rattle.wassail_top.proofs.words.parse_replies.Given as goal

abbrev pub invariant-loop-word : goal.invariant-loop-word
invariant-loop-word l = and_others l.replies (each reply_of (map string_bytes (drop l.word-index l.words))) ≡ each reply_of (map string_bytes l.words)
