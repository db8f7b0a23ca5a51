use Rattle.body_check.proofs.BodyLemmas.{locals-few}
use Rattle.body_check.proofs.body.check_body.Goals as goal

pub is_valid_body-requires-clause-locals : goal.is_valid_body-requires-clause-locals
is_valid_body-requires-clause-locals c = locals-few c.args.m.now c.args.func c.in-Some-body.body.now c.requires.well_formed.bodies c.in-Some-body.ensures
