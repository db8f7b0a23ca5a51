use Rattle.std.proofs.Common.{◌∙◌, ap, sym}
use Rattle.wasm_types.specs.declared.module.Module.{Module}
use Rattle.wasm_types.specs.Spaces.{body_of}
use Rattle.layer_tests.proofs.flow.nest_of.Goals as goal

pub of-requires : goal.of-requires
of-requires c =
    c.law_bodies_have_points.ensures.answered c.args.valid.now 0 c.in-Some.body.now c.module.ensures.sealed
    (ap (λ (m : Module). body_of m 0) (sym c.module.ensures.same) ∙ sym c.in-Some.ensures)
