use Rattle.std.proofs.Common.{◌≡◌, ◌++◌, map, take}
use Rattle.call_graph.specs.Lists.{act_of}
use Rattle.call_graph.proofs.acts.push_each.Given as goal

abbrev pub invariant-loop-deed : goal.invariant-loop-deed
invariant-loop-deed l = l.acts.items ≡ l.initial.acts.items ++ map (act_of l.func) (take l.deed-index l.deeds)
