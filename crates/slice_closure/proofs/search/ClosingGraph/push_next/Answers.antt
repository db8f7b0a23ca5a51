use Rattle.slice_closure.specs.Runs.{Short}
use Rattle.slice_closure.proofs.Numbers.{packed_gains}
use Rattle.slice_closure.proofs.search.ClosingGraph.push_next.Goals as goal

pub returns : goal.returns
returns c =
    packed_gains c.args.self.now.numbering.nodes c.args.self.now.numbering.locs (Short c.args.self.now.tables) c.item-item.result c.args.node
    c.args.next.now.items c.push_from.new.next.items
    c.item-item.ensures.item c.item-item.ensures.number c.in_ok-push_from.ensures
