use Rattle.std.proofs.Common.{rules, ◌+◌, ap, arith}
use Rattle.std.specs.Prelude.{decimal}
use Rattle.std.proofs.lemmas.Fmt.{decimal_digit}
use Rattle.report_text.proofs.PlaceLemmas.{digits_placed, length_one}
use Rattle.report_text.proofs.place.place_digits.Goals as goal

pub place_byte-requires : goal.place_byte-requires
place_byte-requires c = omega (arith, c.requires, length_one c.args.number c.if-number-lt10.true)

pub returns-then-number-lt10 : goal.returns-then-number-lt10
returns-then-number-lt10 c = rw (decimal_digit c.args.number c.if-number-lt10.true) c.place_byte.ensures

pub returns : goal.returns
returns c =
    digits_placed _ _ (decimal c.args.number) c.args.at _ c.write_digits-start.result (ap (λ k. c.args.at + k) c.digit_count.ensures.exact) (c.write_digits-start.ensures.start) (omega (arith, c.requires))
    (c.write_digits-start.ensures.written) (c.write_digits-start.ensures.before) (search rules)
