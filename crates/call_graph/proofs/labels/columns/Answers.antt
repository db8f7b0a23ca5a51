use Rattle.std.proofs.Common.{◌≡◌, take, arith}
use Rattle.std.proofs.Math.Seq.{take_all}
use Rattle.worklist.specs.declared.labels.Root.{Root}
use Rattle.call_graph.proofs.EdgeLemmas.{columns_more}
use Rattle.call_graph.proofs.labels.columns.Goals as goal

pub loop-root-preserved : goal.loop-root-preserved
loop-root-preserved c =
    let d : Root = record { label = 0; node = 0 } in
    columns_more c.args.roots.now c.loop-root.root-index c.loop-root.columns _ d c.loop-root-test.true c.in_ok-columns.ensures.kept
    c.in_ok-columns.ensures.above c.loop-root.invariant

pub returns : goal.returns
returns c =
    let whole : take c.loop-root.root-index c.args.roots.now ≡ c.args.roots.now = take_all c.loop-root.root-index c.args.roots.now (omega arith) in
    rw whole at c.loop-root.invariant
