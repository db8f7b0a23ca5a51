use Rattle.std.proofs.Common.{◌≤◌, take}
use Rattle.std.specs.List.{Contains}
use Rattle.wasm_types.specs.declared.module.Pos.{Pos}
use Rattle.wasm_types.specs.Nodes.{At}
use Rattle.func_flow.proofs.roots.any_back.Given as goal

abbrev pub invariant-loop-node : goal.invariant-loop-node
invariant-loop-node l = (q : Pos) → Contains (take l.node-index l.nodes) (At q.0) → q.0 ≤ l.pos.0 → ⊥
