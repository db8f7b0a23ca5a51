use Rattle.block_cfg.proofs.ValidBodies.{has_points, answered_has_points}
use Rattle.block_cfg.proofs.laws.law_bodies_have_points.Goals as goal

pub returns : goal.returns
returns c = record { bodies = has_points; answered = answered_has_points }
