use Rattle.std.proofs.Common.{reverse, arith}
use Rattle.block_cfg.specs.Walk.{target_of}
use Rattle.block_cfg.proofs.TargetLemmas.{table_begin, table_more, table_all}
use Rattle.block_cfg.proofs.targets.table.Goals as goal

pub loop-label-init : goal.loop-label-init
loop-label-init c = record {
  marks = c.in_ok-add_target.ensures.marks;
  row = table_begin (target_of (reverse c.args.labels.now)) c.new-row.result c.add_target.new.row c.args.other c.new-row.ensures c.in_ok-add_target.ensures.row;
}

pub loop-label-preserved : goal.loop-label-preserved
loop-label-preserved c = record {
  marks = c.in_ok-add_target-2.ensures.marks;
  row = table_more (target_of (reverse c.args.labels.now)) c.loop-label.row c.add_target-in-loop-label.new.row c.args.some.now c.loop-label.label-index c.args.other (omega arith) c.loop-label.invariant.row c.in_ok-add_target-2.ensures.row;
}

pub returns : goal.returns
returns c = table_all (target_of (reverse c.args.labels.now)) c.loop-label.row c.args.some.now c.loop-label.label-index c.args.other (omega arith) c.loop-label.invariant.row c.loop-label.invariant.marks.once
