use Rattle.std.proofs.Common.{refl}
use Rattle.control_deps.proofs.StraightLemmas.{near_empty}
use Rattle.control_deps.proofs.deciders.Deciders.of.Goals as goal

pub returns-in-None : goal.returns-in-None
returns-in-None c =
    near_empty c.args.nest.now (c.in-None.ensures.none refl) c.new.result.items c.new-in-None.result.items c.new.ensures.items c.new-in-None.ensures.items
