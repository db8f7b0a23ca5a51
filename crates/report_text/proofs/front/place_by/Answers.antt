use Rattle.std.proofs.Common.{◌≡◌, ◌∙◌, ◌+◌, ◌-◌, ◌/◌, ◌%◌, ap, take, length, arith}
use Rattle.std.specs.Prelude.{decimal}
use Rattle.std.proofs.lemmas.List.{take_all}
use Rattle.report_text.proofs.PlaceLemmas.{Placed-last}
use Rattle.report_text.proofs.front.place_by.Goals as goal

pub returns : goal.returns
returns c =
    let f = c.args.front.now in
    let whole : take 16 f.digits ≡ f.digits = take_all 16 f.digits (omega arith) in
    let shown : take f.count (take 16 f.digits) ≡ decimal (c.args.number / 10) = ap (take f.count) whole ∙ f.shown ∙ ap decimal c.requires.tens in
    let last : 48 + (c.args.number - f.first) ≡ 48 + c.args.number % 10 = omega (arith, f.begun, c.requires.tens) in
    Placed-last f.count c.args.number _ (omega arith) (omega (arith, ap length whole)) shown last c.requires.long (omega arith)
    c.place_front.ensures c.place_byte.ensures
