use Rattle.std.proofs.Common.{rules, ◌≡◌, ◌++◌, ◌∷◌, [], length, set, ◌∙◌}
use Rattle.std.proofs.lemmas.List.{append-nil}
use Rattle.call_graph.proofs.OrderLemmas.{enter_walk, edge_to, edge_taken, node_left}
use Rattle.call_graph.proofs.order.Walk.step.Goals as goal

pub returns-in_ok-enter-in-Some-clause-walk : goal.returns-in_ok-enter-in-Some-clause-walk
returns-in_ok-enter-in-Some-clause-walk c =
    let self = c.args.self.now in
    let count = length self.met.items in
    let row = c.index_mut.result.now in
    let new = c.pop.new.self in
    let to = c.in-Some.next in
    let pushed : c.push.new.self.items ≡ self.path.items ++ c.args.node ∷ [] = search rules in
    let meets = rw pushed at c.in_ok-enter-in-Some.ensures.meets in
    let path = self.path.items ++ c.args.node ∷ [] in
    rw (c.in_ok-enter-in-Some.ensures.next, c.in_ok-enter-in-Some.ensures.order) (enter_walk count (set self.next.items c.args.node new) self.met.items
    c.enter.new.self.met.items path c.enter.new.self.path.items self.order.items to
    (edge_to count self.next.items self.met.items self.path.items self.order.items c.args.node c.requires row new c.index_mut.ensures.value to
    c.in-Some.ensures.items)
    (edge_taken count self.next.items self.met.items self.path.items self.order.items c.args.node c.requires row new c.index_mut.ensures.value to
    c.in-Some.ensures.items) meets)

pub returns-in_ok-map_err-in-None-clause-walk : goal.returns-in_ok-map_err-in-None-clause-walk
returns-in_ok-map_err-in-None-clause-walk c =
    let self = c.args.self.now in
    let row = c.index_mut.result.now in
    let new = c.pop.new.self in
    let pushed : c.push-in-None.new.self.items ≡ self.order.items ++ c.args.node ∷ [] = search rules in
    rw pushed (node_left (length self.met.items) self.next.items self.met.items self.path.items self.order.items c.args.node c.requires row new
    c.index_mut.ensures.value (c.in-None.ensures.items ∙ append-nil new.items))
