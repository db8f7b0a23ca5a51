use Rattle.std.proofs.Common.{refl, arith}
use Rattle.func_flow.proofs.RootLemmas.{back_more, back_found, back_none}
use Rattle.func_flow.proofs.roots.any_back.Goals as goal

pub loop-node-init : goal.loop-node-init
loop-node-init c = λ q (k, lt, is) le. omega arith

pub loop-node-preserved : goal.loop-node-preserved
loop-node-preserved c =
    back_more c.args.nodes.now c.loop-node.node-index _ c.args.pos.0 c.is_back.result c.loop-node-test.true c.loop-node.invariant c.is_back.ensures.1
    c.if-is_back.false

pub returns-then-is_back : goal.returns-then-is_back
returns-then-is_back c =
    (λ h. back_found c.args.nodes.now c.loop-node.node-index _ c.args.pos.0 c.loop-node-test.true (c.is_back.ensures.0 c.if-is_back.true), λ h. refl)

pub returns : goal.returns
returns c =
    (λ h. absurd cc, λ h. absurd (back_none c.args.nodes.now c.loop-node.node-index c.args.pos.0 c.loop-node-test.false c.loop-node.invariant h))
