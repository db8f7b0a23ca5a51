use Rattle.std.proofs.Common.{◌∙◌}
use Rattle.stack_names.proofs.FoundLemmas.{leave_found}
use Rattle.stack_names.proofs.trail.Trail.leave.Goals as goal

pub returns : goal.returns
returns c =
    leave_found c.args.full c.args.self.now c.note_instr.new.self c.here-pos.result c.top.result.now c.args.stack.now c.saturating_sub.result c.args.count c.here-pos.ensures c.top.ensures c.saturating_sub.ensures
    (c.in_ok-note_instr.ensures.lists ∙ c.in_ok-add.ensures) c.in_ok-note_instr.ensures.takings c.in_ok-note_instr.ensures.joinings
