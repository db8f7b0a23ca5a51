use Rattle.std.proofs.Common.{arith, ◌≤◌, length}
use Rattle.def_use.specs.Writers.{loc_number, row_at}
use Rattle.def_use.proofs.Indexing.{upto_more, upto_all}
use Rattle.def_use.proofs.writers.Writers.new.Goals as goal

pub loop-at-preserved : goal.loop-at-preserved
loop-at-preserved c = λ x.
    upto_more c.args.locs.now x c.loop-at.at c.uses.result.now (row_at c.loop-at.rows.items (loc_number x)) (row_at c.add_uses.new.rows.items (loc_number x))
    c.uses.ensures (c.loop-at.invariant x) (c.in_ok-add_uses.ensures x)

pub returns : goal.returns
returns c = λ x.
    let all : length c.args.locs.now ≤ c.loop-at.at = omega (arith, c.count-at-end.ensures) in
    upto_all c.args.locs.now x c.loop-at.at (row_at c.loop-at.rows.items (loc_number x)) all (c.loop-at.invariant x)
