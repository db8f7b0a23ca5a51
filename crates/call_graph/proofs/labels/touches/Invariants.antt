use Rattle.std.proofs.Common.{◌≡◌, take}
use Rattle.std.specs.List.{filter_map}
use Rattle.call_graph.specs.Labels.{touch_root}
use Rattle.call_graph.proofs.labels.touches.Given as goal

abbrev pub invariant-loop-act : goal.invariant-loop-act
invariant-loop-act l = l.roots.items ≡ filter_map touch_root (take l.act-index l.acts)
