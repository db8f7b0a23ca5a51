use Rattle.std.proofs.Common.{ℕ, ◌^◌, ◌<◌, ◌≤◌, get_or}
use Rattle.flow_domain.specs.declared.loc_table.LocUse.{LocUse}
use Rattle.func_flow.specs.Items.{index_of}
use Rattle.func_flow.proofs.bounds.row_bound.Given as goal

abbrev pub invariant-loop-one : goal.invariant-loop-one
invariant-loop-one l = record {
  below : (k : ℕ) → k < l.one-index → (d : LocUse) → index_of (get_or l.uses k d).loc < l.bound;
  small : l.bound ≤ 2 ^ 32;
}
