use Rattle.std.proofs.Common.{sym}
use Rattle.call_graph.proofs.ListLemmas.{targets_listed, targets_untyped}
use Rattle.call_graph.proofs.calls.CallGraph.targets_of.Goals as goal

pub returns-in-Some : goal.returns-in-Some
returns-in-Some c = λ m g f.
    let has = c.members_of.ensures m g f in
    let of = targets_listed m c.args.self.now.classes g.targets c.args.kind c.in-Some.class (sym c.in-Some.ensures) f in (λ h. of.0 (has.0 h), λ r. has.1 (of.1 r))

pub returns-in-None : goal.returns-in-None
returns-in-None c = λ m g f. targets_untyped m c.args.self.now.classes g.targets c.args.kind (sym c.in-None.ensures) f
