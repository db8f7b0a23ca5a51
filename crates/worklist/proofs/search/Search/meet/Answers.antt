use Rattle.std.proofs.Common.{rules, ◌≡◌, sym, ◌++◌, ◌∷◌, []}
use Rattle.worklist.proofs.Meeting.{meets_fresh}
use Rattle.worklist.proofs.Listing.{lists_more}
use Rattle.worklist.proofs.search.Search.meet.Goals as goal

pub returns-clause-meets : goal.returns-clause-meets
returns-clause-meets c =
    let waits : c.push.new.self.items ≡ c.args.self.now.waiting.items ++ c.args.node ∷ [] = search rules in
    rw waits (meets_fresh c.args.self.now.marks.items c.args.self.now.waiting.items c.args.node (search rules) (sym (rw c.if-index.false at c.index.ensures)))

pub returns-clause-lists : goal.returns-clause-lists
returns-clause-lists c =
    let listed : c.push-2.new.self.items ≡ c.args.self.now.met.items ++ c.args.node ∷ [] = search rules in
    rw listed (lists_more c.args.self.now.marks.items c.args.self.now.met.items c.args.node (search rules) (sym (rw c.if-index.false at c.index.ensures)))

pub returns-in_err-map_err-2-clause-lists : goal.returns-in_err-map_err-2-clause-lists
returns-in_err-map_err-2-clause-lists c =
    let listed : c.push-2.new.self.items ≡ c.args.self.now.met.items = search rules in
    rw listed (λ h. h)
