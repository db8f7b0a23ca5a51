use Rattle.func_flow.specs.Runs.{Short}
use Rattle.func_flow.proofs.Numbers.{packed_gains}
use Rattle.func_flow.proofs.search.FlowGraph.push_next.Goals as goal

pub returns : goal.returns
returns c =
    packed_gains c.args.self.now.tables.numbering (Short c.args.self.now.tables c.args.self.now.runs.now) c.item-item.result c.args.node
    c.args.next.now.items c.push_from.new.next.items
    c.item-item.ensures.item c.item-item.ensures.number c.in_ok-push_from.ensures
