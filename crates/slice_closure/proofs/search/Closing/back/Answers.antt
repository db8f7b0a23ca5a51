use Rattle.std.proofs.Common.{sym, ◌∙◌}
use Rattle.slice_closure.proofs.RunLemmas.{goes_on, goes_end}
use Rattle.slice_closure.proofs.search.Closing.back.Goals as goal

pub loop-before-preserved : goal.loop-before-preserved
loop-before-preserved c =
    (goes_on c.args.self.now.tables c.args.loc c.args.pos.0 c.loop-before.here.0 c.in-Some.before (sym c.back_at.ensures ∙ c.in-Some.is)
    c.loop-before.invariant).1

pub returns : goal.returns
returns c =
    goes_end c.args.self.now.tables c.args.loc c.args.pos.0 c.loop-before.here.0 (sym c.back_at.ensures ∙ c.in_default.is) c.loop-before.invariant
