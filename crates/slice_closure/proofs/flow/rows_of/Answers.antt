use Rattle.std.proofs.Common.{rules}
use Rattle.slice_closure.proofs.Rows.{rows_more, rows_all}
use Rattle.slice_closure.proofs.flow.rows_of.Goals as goal

pub loop-way-preserved : goal.loop-way-preserved
loop-way-preserved c =
    rows_more c.args.ways.now c.loop-way.way-index _ c.loop-way.rows.items c.add.new.rows.items c.loop-way-test.true c.loop-way.invariant
    c.in_ok-add.ensures.here c.in_ok-add.ensures.others

pub returns : goal.returns
returns c = rows_all c.args.ways.now c.args.ways.now c.loop-way.way-index c.loop-way.rows.items c.loop-way-test.false (search rules) c.loop-way.invariant
