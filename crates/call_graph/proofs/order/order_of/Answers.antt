use Rattle.std.proofs.Common.{◌↔◌, ◌<◌, ℕ, subst, ◌∙◌, arith}
use Rattle.std.specs.List.{Contains}
use Rattle.call_graph.proofs.OrderLemmas.{walk_ends}
use Rattle.call_graph.proofs.order.order_of.Goals as goal

pub returns : goal.returns
returns c = λ x.
    let walk = c.loop-node.walk in
    subst (λ (n : ℕ). Contains walk.order.items x ↔ (x < n)) (c.len-count.ensures ∙ c.args.graph.next.ok.0)
    (walk_ends c.len-count.result walk.next.items walk.met.items walk.order.items c.loop-node.invariant.walk
    (λ y lt. c.loop-node.invariant.all y (omega (arith, lt))) x)
