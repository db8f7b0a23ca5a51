use Rattle.std.proofs.Common.{◌<◌, length, take}
use Rattle.std.specs.List.{Contains}
use Rattle.worklist.specs.Gains.{Gains}
use Rattle.call_graph.proofs.calls.CallGraph.push_functions.Given as goal

abbrev pub invariant-loop-other : goal.invariant-loop-other
invariant-loop-other l = Gains (λ f. (f < length l.self.classes.by_func.items) × Contains (take l.other-index l.other-items) f) l.initial.funcs.items l.funcs.items
