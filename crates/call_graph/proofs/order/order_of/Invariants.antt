use Rattle.std.proofs.Common.{◌≡◌, ◌<◌, ℕ, []}
use Rattle.worklist.specs.Search.{IsMarked}
use Rattle.call_graph.specs.Orders.{IsWalk}
use Rattle.call_graph.proofs.order.order_of.Given as goal

abbrev pub invariant-loop-node : goal.invariant-loop-node
invariant-loop-node l = record {
  walk : IsWalk l.count l.walk.next.items l.walk.met.items [] l.walk.order.items;
  empty : l.walk.path.items ≡ [];
  all : (x : ℕ) → x < l.node → IsMarked l.walk.met.items x;
}
