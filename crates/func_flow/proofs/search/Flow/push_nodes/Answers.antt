use Rattle.func_flow.specs.Next.{Joins}
use Rattle.func_flow.proofs.Pushes.{each_more}
use Rattle.func_flow.proofs.search.Flow.push_nodes.Goals as goal

pub loop-node-preserved : goal.loop-node-preserved
loop-node-preserved c =
    each_more c.args.self.now.tables.numbering Joins c.args.nodes.now
    c.loop-node.node-index _ c.args.next.now.items c.loop-node.next.items c.push.new.next.items
    c.loop-node-test.true c.loop-node.invariant c.in_ok-push.ensures
