use Rattle.std.proofs.Common.{◌≡◌, ℕ, ◌≤◌, true}
use Rattle.flow_domain.specs.Reach.{CallsFunc}
use Rattle.flow_domain.specs.Summaries.{table_room}
use Rattle.call_graph.specs.Graph.{CallsNumber}
use Rattle.called_rows.specs.Classes.{IsTargetTable}
use Rattle.summary_fix.specs.Settled.{GrowsOnly, IsFull, IsSound}
use Rattle.summary_fix.proofs.rounds.add_all.Given as goal

abbrev pub invariant-loop-grew : goal.invariant-loop-grew
invariant-loop-grew l = record {
  sound : IsSound l.m l.table;
  targets : IsTargetTable l.m l.graph l.table l.targets;
  others : (f : ℕ) → IsFull l.m l.initial.table f → (CallsNumber l.m f l.func → ⊥) → (l.wide ≡ true → CallsFunc l.m f l.func → ⊥) → IsFull l.m l.table f;
  room : table_room l.table ≤ table_room l.initial.table;
  only : GrowsOnly (λ f. f ≡ l.func) l.initial.table l.table;
}

abbrev pub decreases-loop-grew : goal.decreases-loop-grew
decreases-loop-grew l = table_room l.table
