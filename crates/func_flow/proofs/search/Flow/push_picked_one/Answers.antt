use Rattle.func_flow.proofs.Pushes.{picked_gains}
use Rattle.func_flow.proofs.search.Flow.push_picked_one.Goals as goal

pub returns : goal.returns
returns c =
    picked_gains c.args.self.now.tables.numbering c.args.places.now c.args.picks c.args.index _ c.args.next.now.items c.push.new.next.items c.requires.index
    (c.has.ensures.0 c.if-not-has.false) c.in_ok-push.ensures
