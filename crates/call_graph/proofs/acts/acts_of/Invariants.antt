use Rattle.std.proofs.Common.{◌↔◌, ◌<◌}
use Rattle.std.specs.List.{Contains}
use Rattle.call_graph.specs.declared.acts.Act.{Act}
use Rattle.call_graph.specs.Deeds.{Does}
use Rattle.call_graph.proofs.acts.acts_of.Given as goal

-- what the functions so far do
abbrev pub invariant-loop-func : goal.invariant-loop-func
invariant-loop-func l = (a : Act) → Contains l.acts.items a ↔ ((a.func < l.func) × Does l.m a.func a.deed)
