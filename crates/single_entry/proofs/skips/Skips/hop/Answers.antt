use Rattle.std.proofs.Common.{rules, subst}
use Rattle.block_cfg.specs.Graph.{number}
use Rattle.single_entry.specs.Climbs.{AreHops}
use Rattle.single_entry.proofs.Climbing.{hop_some}
use Rattle.single_entry.proofs.skips.Skips.hop.Goals as goal

pub returns-clause-holds : goal.returns-clause-holds
returns-clause-holds c = hop_some c.args.self.now (subst AreHops c.self.view_is c.self.invariant) (number c.args.point) c.hop_at.result (search rules)
