use Rattle.called_rows.specs.Whom.{output_of}
use Rattle.func_flow.proofs.Pushes.{argument_gains}
use Rattle.func_flow.proofs.search.Flow.push_argument.Goals as goal

pub returns-in_ok-push : goal.returns-in_ok-push
returns-in_ok-push c =
    argument_gains c.args.self.now.tables c.args.places.now (output_of c.args.made) c.args.whom c.args.index _ c.args.next.now.items c.push.new.next.items
    c.requires.index (c.takes.ensures.0 c.if-takes.true) c.in_ok-push.ensures
