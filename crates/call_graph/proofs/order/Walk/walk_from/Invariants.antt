use Rattle.std.proofs.Common.{ℕ, length}
use Rattle.worklist.specs.Search.{IsMarked}
use Rattle.call_graph.specs.Orders.{IsWalk, steps_left}
use Rattle.call_graph.proofs.order.Walk.walk_from.Given as goal

abbrev pub invariant-loop-last : goal.invariant-loop-last
invariant-loop-last l = record {
  walk : IsWalk (length l.fn.self.met.items) l.self.next.items l.self.met.items l.self.path.items l.self.order.items;
  kept : (x : ℕ) → IsMarked l.fn.self.met.items x → IsMarked l.self.met.items x;
  met : IsMarked l.self.met.items l.node;
}

abbrev pub decreases-loop-last : goal.decreases-loop-last
decreases-loop-last l = steps_left l.self.next.items l.self.met.items l.self.path.items
