use Rattle.called_rows.specs.Whom.{output_of}
use Rattle.slice_closure.proofs.Pushes.{argument_gains, argument_none}
use Rattle.slice_closure.proofs.search.Closing.push_argument.Goals as goal

pub returns-in_ok-push_value : goal.returns-in_ok-push_value
returns-in_ok-push_value c =
    argument_gains c.args.self.now.numbering.nodes c.args.self.now.tables c.args.places.now (output_of c.args.made) c.args.whom c.args.index _ c.args.next.now.items
    c.push_value.new.next.items c.requires.index (c.takes.ensures.0 c.if-takes.true) c.in_ok-push_value.ensures

pub returns-else-takes : goal.returns-else-takes
returns-else-takes c =
    argument_none c.args.self.now.numbering.nodes c.args.self.now.tables c.args.places.now (output_of c.args.made) c.args.whom c.args.index c.args.next.now.items
    (λ on. let set = c.takes.ensures.1 on in let off = c.if-takes.false in cc)
