use Rattle.slice_closure.specs.Next.{Joins}
use Rattle.slice_closure.proofs.Pushes.{each_more}
use Rattle.slice_closure.proofs.search.Closing.push_nodes.Goals as goal

pub loop-node-preserved : goal.loop-node-preserved
loop-node-preserved c =
    each_more c.args.self.now.numbering.nodes (Joins c.args.self.now.tables) c.args.nodes.now
    c.loop-node.node-index _ c.args.next.now.items c.loop-node.next.items c.push_value.new.next.items
    c.loop-node-test.true c.loop-node.invariant c.in_ok-push_value.ensures
