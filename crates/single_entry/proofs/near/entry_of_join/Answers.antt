use Rattle.single_entry.proofs.Entering.{begins_join, through_join}
use Rattle.single_entry.proofs.near.entry_of_join.Goals as goal

pub end_of-requires : goal.end_of-requires
end_of-requires c = begins_join c.args.cfg.now c.requires.graph c.args.block.0 c.requires.point

pub entry_in-requires-clause-through : goal.entry_in-requires-clause-through
entry_in-requires-clause-through c =
    through_join c.args.cfg.now c.requires.graph c.args.block.0 c.point_number.result c.in_ok-last.last
    c.point_number.ensures c.requires.point c.in_ok-last.ensures
