use Rattle.std.proofs.Common.{◌<◌, take}
use Rattle.std.specs.List.{All}
use Rattle.worklist.specs.declared.labels.Root.{Root}
use Rattle.call_graph.proofs.labels.columns.Given as goal

abbrev pub invariant-loop-root : goal.invariant-loop-root
invariant-loop-root l = All (λ (root : Root). root.label < l.columns) (take l.root-index l.roots)
