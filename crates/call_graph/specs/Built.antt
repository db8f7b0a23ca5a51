-- How the tables of a graph are made: the nodes that lead to a node pass on to it what is said of theirs.
use Rattle.std.specs.Prelude.{◌≡◌, ◌↔◌, ℕ, ◌<◌, ◌≤◌, ◌⊎◌, List, Some, length, slice_get}
use Rattle.std.specs.List.{Contains, filter_map}
use Rattle.worklist.specs.declared.labels.Root.{Root}
use Rattle.worklist.specs.Lists.{Has}
use Rattle.worklist.specs.Reached.{Reached}
use Rattle.worklist.specs.Roots.{IsRootOf}
use Rattle.call_graph.specs.declared.acts.Act.{Act}
use Rattle.call_graph.specs.declared.calls.CallGraph.{CallGraph}
use Rattle.call_graph.specs.declared.classes.Classes.{Classes}
use Rattle.call_graph.specs.declared.pairs.Pairs.{Pairs}
use Rattle.call_graph.specs.Edges.{functions, edge_of, IsMember}
use Rattle.call_graph.specs.Labels.{touch_root, write_root}
use Rattle.call_graph.specs.Pairs.{HasPair}

-- a node leads to another
abbrev pub IsEdge : Classes → List Act → ℕ → ℕ → Type 0
IsEdge classes acts x y = Contains (filter_map (edge_of classes) acts) (record { from = x; to = y }) ⊎ IsMember classes (record { from = x; to = y })

-- the functions that lead to a root of a label have the label
abbrev pub IsSpread : Classes → List Act → List Root → Pairs → Type 0
IsSpread classes acts roots pairs =
    (f o : ℕ) → HasPair pairs f o ↔ ((f < functions classes) × Reached (IsRootOf roots o) (λ x y. IsEdge classes acts y x) f)

pub record IsGraphBy (classes : Classes) (acts : List Act) (g : CallGraph) : Type 0 where
  pub same : g.classes ≡ classes
  pub nodes : functions classes ≤ length g.callees.next.items
  pub callees : (f y : ℕ) → Has g.callees.next.items f y ↔ IsEdge classes acts f y
  pub callers : (f y : ℕ) → Has g.callers.next.items y f ↔ IsEdge classes acts f y
  pub touches : IsSpread classes acts (filter_map touch_root acts) g.touches
  pub writes : IsSpread classes acts (filter_map write_root acts) g.writes
  pub members : (c f : ℕ) → Has g.members.items c f ↔ (slice_get classes.by_func.items f ≡ Some (Some c))
  pub order : (f : ℕ) → Contains g.order.items f ↔ (f < functions classes)
