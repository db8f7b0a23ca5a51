use Rattle.called_rows.specs.Whom.{output_of}
use Rattle.slice_closure.specs.NextLaws.{outer_below}
use Rattle.called_rows.specs.Called.{globals_in}
use Rattle.slice_closure.proofs.Pushes.{input_gains, input_none}
use Rattle.slice_closure.proofs.search.Closing.push_input.Goals as goal

pub push-requires : goal.push-requires
push-requires c =
    (outer_below (globals_in c.args.self.now.tables.called) c.args.self.now.numbering.locs c.loc-loc.result c.loc-loc.ensures.there c.args.self.now.fits.inputs, c.requires.node)

pub returns-in_ok-push : goal.returns-in_ok-push
returns-in_ok-push c =
    input_gains c.args.self.now.numbering.nodes c.args.self.now.tables c.args.pos.0 (output_of c.args.made) c.args.whom c.args.index c.loc-loc.result
    c.args.next.now.items c.push.new.next.items c.loc-loc.ensures.there c.loc-loc.ensures.number (c.has.ensures.0 c.if-has.true) c.in_ok-push.ensures

pub returns-else-has : goal.returns-else-has
returns-else-has c =
    input_none c.args.self.now.numbering.nodes c.args.self.now.tables c.args.pos.0 (output_of c.args.made) c.args.whom c.args.index c.loc-loc.result
    c.args.next.now.items c.loc-loc.ensures.there c.loc-loc.ensures.number (λ on. let set = c.has.ensures.1 on in let off = c.if-has.false in cc)
