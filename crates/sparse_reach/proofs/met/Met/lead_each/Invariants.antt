use Rattle.std.proofs.Common.{◌≡◌, take}
use Rattle.std.specs.List.{Contains}
use Rattle.sparse_reach.specs.Met.{Leads}
use Rattle.sparse_reach.proofs.met.Met.lead_each.Given as goal

abbrev pub invariant-loop-node : goal.invariant-loop-node
invariant-loop-node l = record {
  starts_are : l.self.starts.items ≡ l.initial.self.starts.items;
  leads : Leads l.from (Contains (take l.node-index l.nodes)) l.initial.self.nodes.keys l.self.nodes.keys l.initial.self.waiting.items
      l.self.waiting.items l.initial.self.edges.items l.self.edges.items;
}
