use Rattle.std.proofs.Common.{◌++◌, ◌∙◌, sym, ap}
use Rattle.std.proofs.lemmas.List.{append-nil}
use Rattle.wasm_types.specs.declared.place.Taker.TheVariants as taker
use Rattle.stack_names.specs.Found.{noted}
use Rattle.stack_names.proofs.trail.Trail.note_instr.Goals as goal

-- not noted: nothing more
pub returns-clause-takings : goal.returns-clause-takings
returns-clause-takings c =
    sym (append-nil c.args.self.now.takings.items) ∙ ap (λ b. c.args.self.now.takings.items ++ noted b (taker.Instr c.args.pos) c.args.values.now) (sym c.if-full.false)
