use Rattle.sparse_reach.proofs.Numbering.{Asked}
use Rattle.sparse_reach.proofs.met.Met.of.Given as goal

abbrev pub invariant-loop-turn : goal.invariant-loop-turn
invariant-loop-turn g l = Asked l.roots (g.G.Graph.leads l.graph) l.met.nodes.keys l.met.waiting.items l.met.starts.items l.met.edges.items
