use Rattle.std.proofs.Common.{◌≡◌, ◌≤◌, ◌++◌, ◌∷◌, [], map, reverse, drop, length}
use Rattle.wasm_types.specs.Takers.{distinct}
use Rattle.stack_names.specs.Found.{join_at}
use Rattle.stack_names.specs.Named.{number_of}
use Rattle.stack_names.proofs.labels.joins.Given as goal

abbrev pub invariant-loop-left : goal.invariant-loop-left
invariant-loop-left l = record {
  seen : l.seen.keys ≡ map number_of l.found.items;
  found : reverse l.found.items ≡ distinct (map (join_at (reverse l.labels)) (drop l.left l.some ++ l.other ∷ []));
  within : l.left ≤ length l.some;
}

abbrev pub decreases-loop-left : goal.decreases-loop-left
decreases-loop-left l = l.left
