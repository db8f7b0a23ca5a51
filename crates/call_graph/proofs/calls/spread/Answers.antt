use Rattle.std.proofs.Common.{length}
use Rattle.worklist.specs.Lists.{Has}
use Rattle.call_graph.proofs.BuildLemmas.{both_all, spread_told}
use Rattle.call_graph.proofs.calls.spread.Goals as goal

pub of_labels-requires : goal.of_labels-requires
of_labels-requires c = record {
  rows = c.requires.count;
  order = c.requires.order;
  roots = both_all c.args.roots.now c.in_ok-columns.columns (length c.args.callers.now.next.items) c.in_ok-columns.ensures c.requires.nodes;
}

pub returns : goal.returns
returns c =
    spread_told c.in_ok-pairs.pairs c.args.count c.in_ok-columns.columns c.args.roots.now (Has c.args.callers.now.next.items) c.in_ok-columns.ensures
    c.in_ok-pairs.ensures
