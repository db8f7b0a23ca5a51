use Rattle.std.proofs.Common.{inl, inr}
use Rattle.wasm_types.specs.Nodes.{At}
use Rattle.single_entry.proofs.Entering.{lone_more, lone_all, none_kept}
use Rattle.single_entry.proofs.near.lone_outside.Goals.{then-not-is_in+else-is_some, else-not-is_in}
use Rattle.single_entry.proofs.near.lone_outside.Goals as goal

pub loop-point-preserved : goal.loop-point-preserved
loop-point-preserved c =
    lone_more c.args.first c.args.last c.args.points.now c.loop-point.point-index (At 0) c.loop-point.lone c.if-not-is_in.lone c.loop-point-test.true
    c.loop-point.invariant (elim c.if-not-is_in.branch [
      | then-not-is_in+else-is_some w ↦ inr (none_kept c.loop-point.lone w.is_some.result w.is_some.ensures w.if-is_some.false, w.lone-is)
      | else-not-is_in w ↦ inl (c.is_in.ensures.0 w.if-not-is_in.false, w.lone-is)
    ])

pub returns : goal.returns
returns c = lone_all c.args.first c.args.last c.args.points.now c.loop-point.point-index c.loop-point.lone c.loop-point-test.false c.loop-point.invariant
