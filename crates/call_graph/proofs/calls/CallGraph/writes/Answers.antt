use Rattle.std.proofs.Common.{sym}
use Rattle.call_graph.proofs.ReaderLemmas.{loc_told, loc_tells, loc_untold, loc_untells}
use Rattle.call_graph.proofs.calls.CallGraph.writes.Goals as goal

pub returns-in-Some-clause-writes : goal.returns-in-Some-clause-writes
returns-in-Some-clause-writes c = λ m g.
    loc_told c.args.self.now.writes c.args.func c.args.loc c.in-Some.label _ _ (sym c.in-Some.ensures) c.has.ensures (g.writes c.args.func c.args.loc)

pub returns-in-Some-clause-told : goal.returns-in-Some-clause-told
returns-in-Some-clause-told c = loc_tells c.args.self.now.writes c.args.func c.args.loc c.in-Some.label _ (sym c.in-Some.ensures) c.has.ensures

pub returns-in-None-clause-writes : goal.returns-in-None-clause-writes
returns-in-None-clause-writes c = λ m g. loc_untold c.args.self.now.writes c.args.func c.args.loc _ (sym c.in-None.ensures) (g.writes c.args.func c.args.loc)

pub returns-in-None-clause-told : goal.returns-in-None-clause-told
returns-in-None-clause-told c = loc_untells c.args.self.now.writes c.args.func c.args.loc (sym c.in-None.ensures)
