use Rattle.std.proofs.Common.{◌≡◌, ◌+◌, ◌*◌, take, subst, arith}
use Rattle.std.proofs.Math.Seq.{take_all}
use Rattle.worklist.specs.Bits.{GainsBits}
use Rattle.worklist.specs.Roots.{IsRootOf}
use Rattle.sparse_reach.proofs.Going.{starts_begin, starts_on}
use Rattle.sparse_reach.proofs.rounds.start_each.Goals as goal

pub loop-root-init : goal.loop-root-init
loop-root-init c = starts_begin c.args.batch c.args.roots.now c.args.words.now

pub loop-root-preserved : goal.loop-root-preserved
loop-root-preserved c =
    starts_on c.args.batch c.args.roots.now c.loop-root.root-index _ c.args.words.now c.loop-root.words c.start.new.words c.loop-root-test.true
    c.loop-root.invariant c.start.ensures

pub returns : goal.returns
returns c =
    let roots = c.args.roots.now in
    let whole : take c.loop-root.root-index roots ≡ roots = take_all c.loop-root.root-index roots (omega arith) in
    subst (λ rs. GainsBits 1 (λ x o. IsRootOf rs (c.args.batch * 64 + o) x) c.args.words.now c.loop-root.words) whole c.loop-root.invariant
