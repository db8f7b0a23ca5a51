use Rattle.std.proofs.Common.{sym, ◌∙◌, inl}
use Rattle.slice_closure.proofs.Pushes.{one_after}
use Rattle.slice_closure.proofs.search.Closing.push_came.Goals as goal

pub push_earlier-requires-clause-node : goal.push_earlier-requires-clause-node
push_earlier-requires-clause-node c =
    c.args.self.now.fits.before c.args.point c.in-After.earlier (inl (sym c.came.ensures ∙ c.in-After.is))

pub returns-in_ok-push_earlier-in-After : goal.returns-in_ok-push_earlier-in-After
returns-in_ok-push_earlier-in-After c =
    let t = c.args.self.now.tables in
    one_after c.args.self.now.numbering.nodes t c.args.point c.in-After.earlier c.args.loc c.args.next.now.items c.push_earlier.new.next.items
    (sym c.came.ensures ∙ c.in-After.is) c.in_ok-push_earlier-in-After.ensures
