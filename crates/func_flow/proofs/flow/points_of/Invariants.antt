use Rattle.std.proofs.Common.{◌≡◌, ◌<◌, length, take, get_or, false}
use Rattle.wasm_types.specs.declared.place.Node.{Node}
use Rattle.wasm_types.specs.Takers.{is_among}
use Rattle.block_cfg.specs.Graph.{number}
use Rattle.func_flow.proofs.flow.points_of.Given as goal

abbrev pub invariant-loop-point : goal.invariant-loop-point
invariant-loop-point l = record {
  long : length l.marks.items ≡ l.nodes;
  marked : (n : Node) → number n < l.nodes → get_or l.marks.items (number n) false ≡ is_among n (take l.point-index l.point-items);
}
