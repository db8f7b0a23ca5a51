use Rattle.std.proofs.Common.{ℕ, ◌^◌, ◌<◌, ◌≤◌}
use Rattle.std.specs.Prelude.{slice_get}
use Rattle.std.specs.List.{All}
use Rattle.flow_domain.specs.declared.loc_table.LocUse.{LocUse}
use Rattle.flow_domain.specs.LocTables.{row_in}
use Rattle.func_flow.specs.Items.{index_of}
use Rattle.func_flow.proofs.bounds.locs_bound.Given as goal

abbrev pub invariant-loop-place : goal.invariant-loop-place
invariant-loop-place l = record {
  below : (p : ℕ) → p < l.place → All (λ (one : LocUse). index_of one.loc < l.bound) (row_in (slice_get l.locs p));
  small : l.bound ≤ 2 ^ 32;
}
