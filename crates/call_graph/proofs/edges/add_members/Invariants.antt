use Rattle.std.proofs.Common.{◌↔◌, ◌<◌, ◌⊎◌}
use Rattle.std.specs.List.{Contains}
use Rattle.call_graph.specs.declared.edges.Edge.{Edge}
use Rattle.call_graph.specs.Edges.{IsMember}
use Rattle.call_graph.proofs.edges.add_members.Given as goal

abbrev pub invariant-loop-func : goal.invariant-loop-func
invariant-loop-func l = (e : Edge) → Contains l.edges.items e ↔ (Contains l.initial.edges.items e ⊎ ((e.to < l.func) × IsMember l.classes e))
