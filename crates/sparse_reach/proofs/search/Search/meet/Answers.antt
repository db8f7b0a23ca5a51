use Rattle.std.proofs.Common.{◌≡◌, rules, ◌++◌, ◌∷◌, [], IsTrue}
use Rattle.worklist.proofs.Meeting.{meets_fresh}
use Rattle.sparse_reach.specs.Flags.{flags}
use Rattle.sparse_reach.proofs.Meeting.{unmarked}
use Rattle.sparse_reach.proofs.search.Search.meet.Goals as goal

pub returns-clause-meets : goal.returns-clause-meets
returns-clause-meets c =
    let waits : c.push.new.self.items ≡ c.args.self.now.waiting.items ++ c.args.node ∷ [] = search rules in
    rw (waits, c.in_ok-set.ensures.set) (meets_fresh (flags c.args.self.now.marks.words) c.args.self.now.waiting.items c.args.node c.requires
    (unmarked (flags c.args.self.now.marks.words) c.args.node (λ m. let t : IsTrue c.has.result = c.has.ensures.1 m in absurd (cc))))
