use Rattle.std.proofs.Common.{◌↔◌, ◌<◌, ℕ, subst}
use Rattle.std.specs.List.{Contains}
use Rattle.call_graph.proofs.ListLemmas.{contains_turned}
use Rattle.call_graph.proofs.calls.order_by.Goals as goal

pub returns : goal.returns
returns c =
    contains_turned c.in_ok-order.order.items c.reverse.new.self.items c.reverse.ensures.permutation (λ x. x < c.args.nodes)
    (λ x. subst (λ (n : ℕ). Contains c.in_ok-order.order.items x ↔ (x < n)) c.in_ok-callers.ensures.length (c.in_ok-order.ensures x))
