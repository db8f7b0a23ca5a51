use Rattle.std.proofs.Common.{rules, ◌≡◌, ◌↔◌, ◌<◌, ◌++◌, ◌∷◌, [], ℕ, List, take, get_or, refl, subst, arith}
use Rattle.std.specs.List.{Contains}
use Rattle.std.proofs.Math.Seq.{take_all}
use Rattle.call_graph.proofs.ListLemmas.{kept_more, kept_skip}
use Rattle.call_graph.proofs.order.those_below.Goals as goal
use Rattle.call_graph.proofs.order.those_below.Goals.{then-node-count+in_ok-map_err, else-node-count}

pub loop-node-preserved : goal.loop-node-preserved
loop-node-preserved c =
    let order = c.args.order.now in
    let i = c.loop-node.node-index in
    let node = get_or order i 0 in
    let funcs = c.loop-node.funcs.items in
    elim c.if-node-count.branch [
      | then-node-count+in_ok-map_err w ↦
          let pushed : w.push.new.self.items ≡ funcs ++ node ∷ [] = search rules in
          rw w.funcs-is (kept_more c.args.count order funcs i node c.loop-node-test.true refl c.loop-node.invariant w.if-node-count.true w.push.new.self.items pushed)
      | else-node-count w ↦
          rw w.funcs-is (kept_skip c.args.count order funcs i node c.loop-node-test.true refl c.loop-node.invariant w.if-node-count.false)
    ]

pub returns : goal.returns
returns c =
    let whole : take c.loop-node.node-index c.args.order.now ≡ c.args.order.now = take_all c.loop-node.node-index c.args.order.now (omega arith) in
    subst (λ (xs : List ℕ). (y : ℕ) → Contains c.loop-node.funcs.items y ↔ (Contains xs y × (y < c.args.count))) whole c.loop-node.invariant
