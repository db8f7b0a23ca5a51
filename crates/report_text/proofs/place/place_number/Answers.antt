use Rattle.std.proofs.Common.{arith}
use Rattle.std.proofs.lemmas.Fmt.{length-decimal-le}
use Rattle.report_text.proofs.place.place_number.Goals as goal

pub place_digits-requires : goal.place_digits-requires
place_digits-requires c = omega (arith, length-decimal-le 10 c.from.result (omega arith) (omega arith) (omega arith))

pub returns-clause-short : goal.returns-clause-short
returns-clause-short c = omega (arith, c.place_digits.ensures.moved, length-decimal-le 10 c.from.result (omega arith) (omega arith) (omega arith))
