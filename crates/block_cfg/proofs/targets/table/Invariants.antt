use Rattle.std.proofs.Common.{◌↔◌, ◌∷◌, Contains, map, reverse, take}
use Rattle.wasm_types.specs.declared.place.Node.{Node}
use Rattle.block_cfg.specs.Walk.{Marks, target_of}
use Rattle.block_cfg.proofs.targets.table.Given as goal

abbrev pub invariant-loop-label : goal.invariant-loop-label
invariant-loop-label l = record {
  marks : Marks l.labels l.seen.items l.row;
  row : (n : Node) → Contains l.row n ↔ Contains (map (target_of (reverse l.labels)) (l.other ∷ take l.label-index l.some)) n;
}
