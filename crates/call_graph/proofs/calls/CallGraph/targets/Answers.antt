use Rattle.std.proofs.Common.{sym, eq-eqb, eqb-true}
use Rattle.call_graph.proofs.ReaderLemmas.{target_told, target_untyped, target_unclassed}
use Rattle.call_graph.proofs.calls.CallGraph.targets.Goals as goal

pub returns-in-Some-class_of : goal.returns-in-Some-class_of
returns-in-Some-class_of c = λ m g.
    target_told m c.args.self.now.classes c.args.kind c.args.other g.targets c.in-Some.class c.in-Some-class_of.own _ (sym c.in-Some.ensures)
    (sym c.in-Some-class_of.ensures) (λ h. eqb-true c.in-Some-class_of.own c.in-Some.class h, λ e. eq-eqb c.in-Some-class_of.own c.in-Some.class e)

pub returns-in-None-class_of : goal.returns-in-None-class_of
returns-in-None-class_of c = λ m g. target_unclassed m c.args.self.now.classes c.args.kind c.args.other g.targets (sym c.in-None-class_of.ensures)

pub returns-in-None : goal.returns-in-None
returns-in-None c = λ m g. target_untyped m c.args.self.now.classes c.args.kind c.args.other g.targets (sym c.in-None.ensures)
