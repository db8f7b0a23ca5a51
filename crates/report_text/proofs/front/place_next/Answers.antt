use Rattle.std.proofs.Common.{arith}
use Rattle.std.proofs.lemmas.Fmt.{decimal_digit, length-decimal-le}
use Rattle.report_text.proofs.front.place_next.Goals as goal

pub returns-then-number-lt10-clause-placed : goal.returns-then-number-lt10-clause-placed
returns-then-number-lt10-clause-placed c = rw (decimal_digit c.args.number c.if-number-lt10.true) c.place_byte.ensures

pub returns-clause-short : goal.returns-clause-short
returns-clause-short c = omega (arith, c.place_by.ensures.moved, length-decimal-le 10 c.args.number (omega arith) (omega arith) (omega arith))
