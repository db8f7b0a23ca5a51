use Rattle.single_entry.proofs.Meeting.{comes_point}
use Rattle.single_entry.proofs.Entering.{entry_of_number, entry_falls}
use Rattle.single_entry.proofs.near.near_of.Goals as goal

pub entry_of-requires-clause-point : goal.entry_of-requires-clause-point
entry_of-requires-clause-point c =
    comes_point c.args.cfg.now c.requires.graph c.point_of_number.result
    (c.requires.marks c.point_of_number.result (rw c.point_of_number.ensures c.if-not-marks-index.false))

pub returns-clause-entry : goal.returns-clause-entry
returns-clause-entry c =
    entry_of_number c.args.cfg.now c.point_of_number.result c.args.index c.point_of_number.ensures
    (c.requires.marks c.point_of_number.result (rw c.point_of_number.ensures c.if-not-marks-index.false)) c.entry_of.result c.entry_of.ensures

pub returns-clause-falls : goal.returns-clause-falls
returns-clause-falls c =
    entry_falls c.args.cfg.now c.point_of_number.result c.args.index c.point_of_number.ensures
    (c.requires.marks c.point_of_number.result (rw c.point_of_number.ensures c.if-not-marks-index.false)) c.entry_of.result c.entry_of.ensures
