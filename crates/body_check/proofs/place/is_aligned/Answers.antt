use Rattle.std.proofs.Common.{◌≤◌, ◌^◌, arith, sym, true≢false}
use Rattle.std.proofs.Math.Pow.{pow_mono}
use Rattle.body_check.proofs.place.is_aligned.Goals as goal

pub returns-in_default : goal.returns-in_default
returns-in_default c =
    let four : 4 ≤ c.args.align = omega arith in
    let sixteen : 16 ≤ 2 ^ c.args.align = pow_mono four in
    (λ h. absurd (true≢false (sym h)), λ h. absurd (omega (arith, c.requires)))
