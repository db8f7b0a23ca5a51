use Rattle.std.proofs.Common.{◌≡◌, length, take}
use Rattle.wasm_types.specs.declared.place.Node.{Node}
use Rattle.block_cfg.specs.Graph.{EachOnce, row_of}
use Rattle.block_cfg.proofs.BeforeLemmas.{IsAdded}
use Rattle.block_cfg.proofs.before.add_before.Given as goal

abbrev pub invariant-loop-to : goal.invariant-loop-to
invariant-loop-to l = record {
  same : length l.before.items ≡ length l.initial.before.items;
  once : (b : Node) → EachOnce (row_of l.before.items b);
  added : IsAdded l.initial.before.items l.before.items l.from (take l.to-index l.row);
}
