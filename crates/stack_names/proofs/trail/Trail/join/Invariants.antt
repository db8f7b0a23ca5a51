use Rattle.std.proofs.Common.{◌≡◌, ◌≤◌, ◌++◌, drop, length}
use Rattle.stack_names.specs.Found.{joins_at}
use Rattle.stack_names.proofs.trail.Trail.join.Given as goal

abbrev pub invariant-loop-left : goal.invariant-loop-left
invariant-loop-left l = record {
  lists : l.self.lists ≡ l.initial.self.lists;
  takings : l.self.takings.items ≡ l.initial.self.takings.items;
  joinings : l.self.joinings.items ≡ l.initial.self.joinings.items ++ joins_at l.node (drop l.left l.values);
  within : l.left ≤ length l.values;
}

abbrev pub decreases-loop-left : goal.decreases-loop-left
decreases-loop-left l = l.left
