use Rattle.std.proofs.Common.{arith}
use Rattle.std.proofs.lemmas.Fmt.{length-decimal-le}
use Rattle.report_text.proofs.place.place_signed.Goals as goal

pub place_digits-requires : goal.place_digits-requires
place_digits-requires c = omega (arith, length-decimal-le 19 c.unsigned_abs-size.result (omega arith) (omega arith) (omega arith))

pub place_digits-requires-2 : goal.place_digits-requires-2
place_digits-requires-2 c =
    omega (arith, c.place_byte-behind.ensures.moved, c.place_byte-behind.ensures.long, length-decimal-le 19 c.unsigned_abs-size.result (omega arith) (omega arith) (omega arith))

pub returns-then-number-ge0-clause-short : goal.returns-then-number-ge0-clause-short
returns-then-number-ge0-clause-short c =
    omega (arith, c.place_digits.ensures.moved, length-decimal-le 19 c.unsigned_abs-size.result (omega arith) (omega arith) (omega arith))

pub returns-clause-short : goal.returns-clause-short
returns-clause-short c =
    omega (arith, c.place_byte-behind.ensures.moved, c.place_digits-2.ensures.moved, length-decimal-le 19 c.unsigned_abs-size.result (omega arith) (omega arith) (omega arith))
