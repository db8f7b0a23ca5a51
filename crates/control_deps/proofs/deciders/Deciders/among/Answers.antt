use Rattle.std.proofs.Common.{◌≡◌, length, arith}
use Rattle.control_deps.proofs.NearLemmas.{nearest_of}
use Rattle.control_deps.proofs.deciders.Deciders.among.Goals as goal

pub returns : goal.returns
returns c =
    let whole : c.loop-at.at ≡ length c.args.spots.now = omega (arith, c.loop-at-test.false, c.loop-at.auto.at-end) in
    nearest_of c.args.spots.now c.loop-at.at c.loop-at.rows.items c.loop-at.exits.items whole c.loop-at.invariant.rows c.loop-at.invariant.exits
