use Rattle.std.proofs.Common.{◌≡◌, length}
use Rattle.std.specs.Prelude.{map, vec_items}
use Rattle.call_graph.specs.Classes.{AreTypeClasses}
use Rattle.call_graph.proofs.classes.classes_of_types.Given as goal

abbrev pub invariant-loop-kind : goal.invariant-loop-kind
invariant-loop-kind l = record {
  count : length l.classes.items ≡ l.kind-index;
  so_far : AreTypeClasses l.types (map vec_items l.shapes.keys) l.classes.items;
}
