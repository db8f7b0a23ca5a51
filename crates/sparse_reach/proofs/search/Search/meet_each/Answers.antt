use Rattle.std.proofs.Common.{◌∙◌}
use Rattle.worklist.proofs.Meeting.{meets_more}
use Rattle.sparse_reach.specs.Flags.{flags}
use Rattle.sparse_reach.proofs.search.Search.meet_each.Goals as goal

pub loop-node-preserved : goal.loop-node-preserved
loop-node-preserved c = record {
  length_is = c.in_ok-meet.ensures.length ∙ c.loop-node.invariant.length_is;
  meets =
      meets_more c.args.nodes.now c.loop-node.node-index (flags c.args.self.now.marks.words) (flags c.loop-node.self.marks.words) (flags c.meet.new.self.marks.words)
      c.args.self.now.waiting.items c.loop-node.self.waiting.items c.meet.new.self.waiting.items
      c.loop-node-test.true c.loop-node.invariant.meets c.in_ok-meet.ensures.meets;
}
