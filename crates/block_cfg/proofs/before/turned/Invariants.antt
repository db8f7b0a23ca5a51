use Rattle.std.proofs.Common.{◌≡◌, length}
use Rattle.wasm_types.specs.declared.place.Node.{Node}
use Rattle.block_cfg.specs.Graph.{EachOnce, row_of}
use Rattle.block_cfg.proofs.BeforeLemmas.{IsTurned}
use Rattle.block_cfg.proofs.before.turned.Given as goal

abbrev pub invariant-loop-number : goal.invariant-loop-number
invariant-loop-number l = record {
  same : length l.before.items ≡ length l.next;
  once : (b : Node) → EachOnce (row_of l.before.items b);
  turned : IsTurned l.next l.before.items l.number;
}
