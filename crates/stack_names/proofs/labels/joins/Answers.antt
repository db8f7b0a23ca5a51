use Rattle.std.proofs.Common.{◌≡◌, ◌-◌, ◌+◌, ◌<◌, ◌≤◌, length, ap, reverse, arith}
use Rattle.stack_names.specs.declared.place.Target.{Target}
use Rattle.stack_names.specs.Found.{join_at}
use Rattle.stack_names.proofs.DistinctLemmas.{next_distinct}
use Rattle.stack_names.proofs.labels.joins.Goals as goal

pub loop-left-preserved : goal.loop-left-preserved
loop-left-preserved c =
    let within : c.loop-left.left ≤ length c.args.some.now = c.loop-left.invariant.within in
    let lt : c.loop-left.left - 1 < length c.args.some.now = omega arith in
    let at : c.loop-left.left - 1 + 1 ≡ c.loop-left.left = omega arith in
    record {
      seen = c.in_ok-add-2.ensures.seen;
      found = next_distinct (join_at (reverse c.args.labels.now)) c.args.some.now c.args.other (c.loop-left.left - 1) c.loop-left.left c.target-in-loop-left.result.join c.loop-left.found.items c.add-in-loop-left.new.found.items
          lt at (ap (λ (t : Target). t.join) c.target-in-loop-left.ensures) c.loop-left.invariant.found c.in_ok-add-2.ensures.found;
      within = omega arith;
    }
