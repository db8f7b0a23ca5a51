use Rattle.std.proofs.Common.{arith, take}
use Rattle.std.proofs.Math.Seq.{take_all}
use Rattle.worklist.proofs.Listing.{unmarked_none, unmarked_more, unmarked_all, listed_below}
use Rattle.worklist.proofs.searcher.unmark_each.Goals as goal

pub bounds-marks-node : goal.bounds-marks-node
bounds-marks-node c =
    listed_below c.args.marks.now c.loop-node.marks c.args.nodes.now c.loop-node.node-index 0 c.requires c.loop-node.invariant.length_is c.loop-node-test.true

pub loop-node-init : goal.loop-node-init
loop-node-init c = unmarked_none c.args.marks.now

pub loop-node-preserved : goal.loop-node-preserved
loop-node-preserved c = unmarked_more c.args.marks.now c.loop-node.marks c.args.nodes.now c.loop-node.node-index c.loop-node-test.true c.loop-node.invariant

pub returns : goal.returns
returns c =
    unmarked_all c.args.marks.now c.loop-node.marks c.args.nodes.now (take c.loop-node.node-index c.args.nodes.now) c.requires
    (take_all c.loop-node.node-index c.args.nodes.now (omega arith)) c.loop-node.invariant
