use Rattle.std.proofs.Common.{◌≡◌, ◌++◌, ◌∷◌, map, take, reverse}
use Rattle.block_cfg.specs.Walk.{target_of}
use Rattle.slice_closure.proofs.walk.Trail.leave_each.Given as goal

abbrev pub invariant-loop-label : goal.invariant-loop-label
invariant-loop-label l = record {
  spots : l.self.spots.items ≡ l.fn.self.spots.items;
  ways : l.self.ways.items ≡ l.fn.self.ways.items ++ (target_of (reverse l.labels) l.other, l.from) ∷ map (λ x. (target_of (reverse l.labels) x, l.from)) (take l.label-index l.some);
}
