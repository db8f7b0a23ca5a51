use Rattle.std.proofs.Common.{◌≡◌, ◌≤◌, length}
use Rattle.std.specs.Prelude.{map, vec_items}
use Rattle.call_graph.specs.Classes.{AreApart, AreFuncClasses}
use Rattle.call_graph.proofs.classes.classes_of_funcs.Given as goal

abbrev pub invariant-loop-func : goal.invariant-loop-func
invariant-loop-func l = record {
  count : length l.classes.items ≡ l.func;
  so_far : AreFuncClasses l.m (map vec_items l.shapes.keys) l.classes.items;
  apart : AreApart (map vec_items l.shapes.keys);
  few : length l.shapes.keys ≤ l.func;
}
