use Rattle.def_use.proofs.Indexing.{use_added, use_skipped}
use Rattle.def_use.proofs.writers.add_uses.Goals as goal
use Rattle.def_use.proofs.writers.add_uses.Goals.{then-one+in_ok-add, else-one}

pub loop-one-preserved : goal.loop-one-preserved
loop-one-preserved c = λ x.
    elim c.if-one.branch [
      | then-one+in_ok-add w ↦
          rw w.rows-is (use_added c.args.at c.args.uses.now c.loop-one.one-index _ x c.args.rows.now.items c.loop-one.rows.items w.add.new.rows.items
          c.loop-one-test.true w.if-one.true
          w.loc_number.result w.loc_number.ensures.number w.in_ok-add.ensures.here w.in_ok-add.ensures.others (c.loop-one.invariant x))
      | else-one w ↦
          rw w.rows-is (use_skipped c.args.at c.args.uses.now c.loop-one.one-index _ x c.args.rows.now.items c.loop-one.rows.items c.loop-one-test.true
          w.if-one.false (c.loop-one.invariant x))
    ]
