use Rattle.std.proofs.Common.{refl}
use Rattle.control_deps.proofs.StraightLemmas.{deciders_straight}
use Rattle.control_deps.proofs.shadow.decided_by.Goals as goal

pub returns-in-None-clause-exact : goal.returns-in-None-clause-exact
returns-in-None-clause-exact c = deciders_straight c.args.nest.now (c.in-None.ensures.none refl) c.args.node c.new.result.items c.new.ensures.items
