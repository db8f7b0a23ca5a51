use Rattle.std.proofs.Common.{◌∙◌, ap, sym}
use Rattle.wasm_types.specs.declared.module.Module.{Module}
use Rattle.wasm_types.specs.Spaces.{body_of}
use Rattle.def_use.proofs.CfgLemmas.{cfg_is_graph}
use Rattle.layer_tests.proofs.flow.graph_of.Goals as goal

pub edges-requires : goal.edges-requires
edges-requires c =
    c.law_bodies_have_points.ensures.answered c.args.valid.now 0 c.in-Some.body.now c.module.ensures.sealed
    (ap (λ (m : Module). body_of m 0) (sym c.module.ensures.same) ∙ sym c.in-Some.ensures)

pub returns-in-Ok : goal.returns-in-Ok
returns-in-Ok c = cfg_is_graph c.in-Some.body.now c.in-Ok.cfg c.in-Ok.ensures
