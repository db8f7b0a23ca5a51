use Rattle.flow_domain.specs.Summaries.{table_room}
use Rattle.worklist.specs.Search.{IsMarked}
use Rattle.called_rows.specs.Classes.{IsTargetTable}
use Rattle.summary_fix.specs.Settled.{GrowsOnly, IsSettled, IsSound}
use Rattle.summary_fix.proofs.rounds.settle.Given as goal

abbrev pub invariant-loop-marks : goal.invariant-loop-marks
invariant-loop-marks l = record {
  sound : IsSound l.m l.table;
  targets : IsTargetTable l.m l.graph l.table l.targets;
  only : GrowsOnly (IsMarked l.wanted) l.initial.table l.table;
  settled : IsSettled l.m l.table l.wanted l.marks.items;
}

abbrev pub decreases-loop-marks : goal.decreases-loop-marks
decreases-loop-marks l = table_room l.table
