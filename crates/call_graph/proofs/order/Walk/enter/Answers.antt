use Rattle.std.proofs.Common.{rules, ◌≡◌, ◌++◌, ◌∷◌, [], sym}
use Rattle.worklist.proofs.Meeting.{meets_fresh}
use Rattle.call_graph.proofs.order.Walk.enter.Goals as goal

pub returns-clause-meets : goal.returns-clause-meets
returns-clause-meets c =
    let waits : c.push.new.self.items ≡ c.args.self.now.path.items ++ c.args.node ∷ [] = search rules in
    rw waits (meets_fresh c.args.self.now.met.items c.args.self.now.path.items c.args.node (search rules) (sym (rw c.if-index.false at c.index.ensures)))
