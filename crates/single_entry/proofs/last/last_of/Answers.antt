use Rattle.std.proofs.Common.{rules, arith, ◌-◌, get_or}
use Rattle.single_entry.proofs.Sorted.{is_last}
use Rattle.single_entry.proofs.last.last_of.Goals as goal

pub returns : goal.returns
returns c =
    let counted = c.count_below-count.ensures in
    is_last c.args.numbers.now c.requires c.args.begin c.args.end c.count_below-count.result counted.within counted.below counted.above (omega arith)
    (get_or c.args.numbers.now (c.count_below-count.result - 1) 0) (search rules) (omega arith)
