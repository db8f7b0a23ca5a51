use Rattle.wasm_types.specs.Nodes.{At}
use Rattle.single_entry.proofs.Meeting.{met_first, first_fits}
use Rattle.single_entry.proofs.reached.reached.Goals as goal

pub meet-requires : goal.meet-requires
meet-requires c =
    first_fits c.args.cfg.now c.points.result.now (At 0) c.numbers.result c.in_ok-marks.marks.items c.requires c.points.ensures
    c.numbers.ensures.below c.in_ok-marks.ensures

pub meet_all-requires-clause-met : goal.meet_all-requires-clause-met
meet_all-requires-clause-met c =
    met_first c.args.cfg.now c.points.result.now (At 0) c.numbers.result c.in_ok-marks.marks.items c.meet.new.marks.items c.new-waiting.result.items
    c.meet.new.waiting.items c.requires c.points.ensures c.numbers.ensures.below c.in_ok-marks.ensures c.new-waiting.ensures.items c.in_ok-meet.ensures
