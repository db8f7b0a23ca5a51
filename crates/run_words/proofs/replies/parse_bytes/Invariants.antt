-- The bytes read, and those of the digits that are left, are those of all digits.
use Rattle.std.proofs.Common.{◌≡◌, length}
use Rattle.run_words.specs.Words.{hex_bytes}
use Rattle.run_words.proofs.Joined.{and_bytes}
use Rattle.run_words.proofs.replies.parse_bytes.Given as goal

abbrev pub invariant-loop-rest : goal.invariant-loop-rest
invariant-loop-rest l = and_bytes l.bytes (hex_bytes l.rest) ≡ hex_bytes l.text

abbrev pub decreases-loop-rest : goal.decreases-loop-rest
decreases-loop-rest l = length l.rest
