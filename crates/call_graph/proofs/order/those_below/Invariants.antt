use Rattle.std.proofs.Common.{◌↔◌, ◌<◌, ℕ, take}
use Rattle.std.specs.List.{Contains}
use Rattle.call_graph.proofs.order.those_below.Given as goal

abbrev pub invariant-loop-node : goal.invariant-loop-node
invariant-loop-node l = (x : ℕ) → Contains l.funcs.items x ↔ (Contains (take l.node-index l.order) x × (x < l.count))
