use Rattle.std.proofs.Common.{◌≡◌, ◌++◌, map, take}
use Rattle.call_graph.specs.Shapes.{number_of}
use Rattle.call_graph.proofs.shape.push_numbers.Given as goal

abbrev pub invariant-loop-kind : goal.invariant-loop-kind
invariant-loop-kind l = l.shape.items ≡ l.initial.shape.items ++ map number_of (take l.kind-index l.kinds)
