use Rattle.std.proofs.Common.{◌≡◌, length}
use Rattle.wasm_types.specs.declared.place.Node.{Node}
use Rattle.slice_closure.specs.Flow.{ways_to}
use Rattle.slice_closure.proofs.flow.extend.Given as goal

abbrev pub invariant-loop-row : goal.invariant-loop-row
invariant-loop-row l = record {
  length_is : length l.rows.items ≡ l._row;
  same : (n : Node) → ways_to l.rows.items n ≡ ways_to l.initial.rows.items n;
}
