use Rattle.std.proofs.Common.{arith}
use Rattle.std.proofs.lemmas.Fmt.{length-decimal-le}
use Rattle.report_text.proofs.PlaceLemmas.{length_more}
use Rattle.report_text.proofs.place.digit_count.Goals as goal

pub overflow_add-count : goal.overflow_add-count
overflow_add-count c = omega (arith, c.loop-left.invariant, length-decimal-le 20 c.args.number (omega arith) (omega arith) (omega arith))

pub loop-left-preserved : goal.loop-left-preserved
loop-left-preserved c = omega (arith, c.loop-left.invariant, length_more c.loop-left.left c.loop-left-test.true c.loop-left.auto.left-fits.fits)

pub overflow_add-result : goal.overflow_add-result
overflow_add-result c = omega (arith, c.loop-left.invariant, c.few_digits.ensures, length-decimal-le 20 c.args.number (omega arith) (omega arith) (omega arith))

pub returns-clause-few : goal.returns-clause-few
returns-clause-few c = omega (arith, c.loop-left.invariant, c.few_digits.ensures, length-decimal-le 20 c.args.number (omega arith) (omega arith) (omega arith))
