use Rattle.std.proofs.Common.{◌∙◌}
use Rattle.stack_names.proofs.FoundLemmas.{take_found}
use Rattle.stack_names.proofs.trail.Trail.take.Goals as goal

pub returns : goal.returns
returns c =
    take_found c.args.full c.args.self.now c.note_instr.new.self c.here-pos.result c.top-taken.result.now c.args.stack.now c.args.count c.here-pos.ensures c.top-taken.ensures
    (c.in_ok-note_instr.ensures.lists ∙ c.in_ok-add.ensures) c.in_ok-note_instr.ensures.takings c.in_ok-note_instr.ensures.joinings
