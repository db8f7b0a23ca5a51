use Rattle.std.proofs.Common.{refl}
use Rattle.control_deps.proofs.StraightLemmas.{tells_straight}
use Rattle.control_deps.proofs.shadow.in_shadow.Goals as goal

pub returns-in-None : goal.returns-in-None
returns-in-None c = tells_straight c.args.nest.now (c.in-None.ensures.none refl) c.args.branch.0 c.args.node
