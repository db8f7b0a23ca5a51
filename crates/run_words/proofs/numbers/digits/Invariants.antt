-- The value so far, and then the digits that are left, is the value of all. It is below 10 to the number of digits read.
use Rattle.std.proofs.Common.{◌≡◌, ◌<◌, ◌^◌, drop}
use Rattle.std.specs.List.{list_all}
use Rattle.run_words.specs.Words.{is_digit, value_after}
use Rattle.run_words.proofs.numbers.digits.Given as goal

abbrev pub invariant-loop-digit : goal.invariant-loop-digit
invariant-loop-digit l =
    record {
      value : value_after l.value (drop l.digit-index l.word) ≡ value_after 0 l.word;
      digits : list_all is_digit (drop l.digit-index l.word) ≡ list_all is_digit l.word;
      small : l.value < 10 ^ l.digit-index;
    }
