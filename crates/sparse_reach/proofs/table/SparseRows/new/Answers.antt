use Rattle.std.proofs.Common.{◌∙◌}
use Rattle.sparse_reach.proofs.Batching.{sized_by_node}
use Rattle.sparse_reach.proofs.table.SparseRows.new.Goals as goal

pub invariant_of-result-clause-sized : goal.invariant_of-result-clause-sized
invariant_of-result-clause-sized c =
    sized_by_node c.args.rows c.len-words.result c.args.nodes.keys c.args.batches.items (c.len-words.ensures ∙ c.args.batches.ok.0)
