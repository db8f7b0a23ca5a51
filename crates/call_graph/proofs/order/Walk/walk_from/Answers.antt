use Rattle.std.proofs.Common.{length, [], refl}
use Rattle.call_graph.proofs.OrderLemmas.{enter_walk}
use Rattle.call_graph.proofs.order.Walk.walk_from.Goals as goal

pub loop-last-init : goal.loop-last-init
loop-last-init c =
    let self = c.args.self.now in
    let meets = rw c.requires.empty at c.in_ok-enter.ensures.meets in
    record {
      walk =
          rw (c.in_ok-enter.ensures.next, c.in_ok-enter.ensures.order) (enter_walk (length self.met.items) self.next.items self.met.items c.enter.new.self.met.items
          [] c.enter.new.self.path.items self.order.items c.args.node c.requires.within c.requires.walk meets);
      kept = meets.kept;
      met = meets.all c.args.node refl;
    }
