use Rattle.std.proofs.Common.{◌≡◌, ◌++◌, take}
use Rattle.std.specs.List.{filter_map}
use Rattle.call_graph.specs.Edges.{edge_of}
use Rattle.call_graph.proofs.edges.add_calls.Given as goal

abbrev pub invariant-loop-act : goal.invariant-loop-act
invariant-loop-act l = l.edges.items ≡ l.initial.edges.items ++ filter_map (edge_of l.classes) (take l.act-index l.acts)
