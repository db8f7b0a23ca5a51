use Rattle.single_entry.proofs.Entering.{through_loop}
use Rattle.single_entry.proofs.near.entry_of_position.Goals as goal

pub entry_in-requires-clause-through : goal.entry_in-requires-clause-through
entry_in-requires-clause-through c =
    through_loop c.args.cfg.now c.requires.graph c.args.pos.0 c.point_number-first.result c.in_ok-last.last c.before-before.result.now c.in_ok-through.through
    c.point_number-first.ensures c.requires.point c.in_ok-last.ensures c.before-before.ensures c.in_ok-through.ensures
