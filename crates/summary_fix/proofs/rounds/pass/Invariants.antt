use Rattle.std.proofs.Common.{◌≡◌, ℕ, ◌+◌, ◌≤◌, cond, false, take}
use Rattle.std.specs.List.{Contains}
use Rattle.worklist.specs.Search.{IsMarked}
use Rattle.flow_domain.specs.Summaries.{table_room}
use Rattle.called_rows.specs.Classes.{IsTargetTable}
use Rattle.summary_fix.specs.Settled.{GrowsOnly, IsSettled, IsSound}
use Rattle.summary_fix.proofs.rounds.pass.Given as goal

abbrev pub invariant-loop-func : goal.invariant-loop-func
invariant-loop-func l = record {
  sound : IsSound l.m l.table;
  targets : IsTargetTable l.m l.graph l.table l.targets;
  settled : IsSettled l.m l.table l.wanted l.marks;
  only : GrowsOnly (IsMarked l.wanted) l.initial.table l.table;
  room : table_room l.table + cond l.grew 1 0 ≤ table_room l.initial.table;
  full : l.grew ≡ false → (f : ℕ) → Contains (take l.func-index l.order) f → IsMarked l.marks f → ⊥;
}
