use Rattle.std.proofs.Common.{◌≡◌, ◌+◌, ◌-◌, ◌∙◌, ap, arith, replicate, take, drop, length}
use Rattle.std.proofs.lemmas.List.{length-replicate, length-take-le, length-drop}
use Rattle.run_store.proofs.Ranges.{part_written}
use Rattle.run_store.proofs.bytes.fill_range.Goals as goal

pub returns : goal.returns
returns c =
    let n : c.args.at + c.args.count - c.args.at ≡ c.args.count = omega arith in
    let long : length (take (c.args.at + c.args.count - c.args.at) (drop c.args.at c.args.bytes.now)) ≡ c.args.count =
    length-take-le _ (drop c.args.at c.args.bytes.now) (omega (arith, length-drop c.args.at c.args.bytes.now)) ∙ n in
    part_written c.args.at c.args.count _ c.args.bytes.now c.fill.new.self (replicate c.args.count c.args.byte) n
    (c.fill.ensures.after (λ y e. e) ∙ ap (λ k. replicate k c.args.byte) long) (length-replicate _ _) c.requires
