use Rattle.std.proofs.Common.{◌≡◌, ◌∙◌, true}
use Rattle.wasm_types.specs.Code.{is_plain}
use Rattle.wasm_types.proofs.CodeLemmas.{plain_is}
use Rattle.stack_repair.specs.Told.{told}
use Rattle.stack_repair.proofs.Steps.{filled_plain}
use Rattle.stack_repair.proofs.plan.Plan.filled.Goals as goal

pub returns-in_default : goal.returns-in_default
returns-in_default c =
    let plain : is_plain c.args.instr.now ≡ true = plain_is _ c.in_default.not-Block c.in_default.not-Loop c.in_default.not-If in
    c.plainly_filled.ensures
    ∙ filled_plain (told c.args.self.now) c.args.left c.args.instr.now c.args.pos.0 plain
    c.in_default.not-Br c.in_default.not-BrIf c.in_default.not-BrTable c.in_default.not-Return c.in_default.not-Unreachable
