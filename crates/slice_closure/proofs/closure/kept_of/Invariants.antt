use Rattle.std.proofs.Common.{◌≡◌, ◌↔◌, ◌<◌, ◌≤◌, true, length}
use Rattle.wasm_types.specs.declared.place.Node.{Node}
use Rattle.block_cfg.specs.Graph.{number}
use Rattle.worklist.specs.Search.{IsMarked}
use Rattle.sparse_reach.specs.Flags.{flags}
use Rattle.flow_domain.specs.KeptSets.{holds}
use Rattle.slice_closure.proofs.closure.kept_of.Given as goal

abbrev pub invariant-loop-index : goal.invariant-loop-index
invariant-loop-index l = record {
  held : (n : Node) → holds l.kept n ≡ true ↔ ((number n < l.index) × IsMarked (flags l.met.words) (number n));
  short : length l.kept ≤ l.nodes;
}
