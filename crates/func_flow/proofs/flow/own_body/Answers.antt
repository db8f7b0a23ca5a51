use Rattle.std.proofs.Common.{◌≡◌, ◌∙◌, None, sym, ap}
use Rattle.std.specs.Option.{option_copied}
use Rattle.wasm_types.specs.declared.module.Module.{Module}
use Rattle.wasm_types.specs.Spaces.{body_of}
use Rattle.func_flow.proofs.FlowLemmas.{value_of}
use Rattle.func_flow.proofs.flow.own_body.Goals as goal

pub unreachable-requires : goal.unreachable-requires
unreachable-requires c =
    let none : body_of c.args.m.now c.args.func ≡ None =
    ap (λ (x : Module). body_of x c.args.func) (sym c.module-module.ensures.same) ∙ sym c.body.ensures ∙ ap option_copied c.in_default.is in
    let some = (value_of (body_of c.args.m.now c.args.func) c.requires).1 in cc

pub returns-clause-body : goal.returns-clause-body
returns-clause-body c = ap (λ (x : Module). body_of x c.args.func) (sym c.module-module.ensures.same) ∙ sym c.in-Some.ensures

pub returns-clause-points : goal.returns-clause-points
returns-clause-points c =
    c.law_bodies_have_points.ensures.answered c.args.m.now c.args.func c.in-Some.body.now c.module-module.ensures.sealed
    (ap (λ (x : Module). body_of x c.args.func) (sym c.module-module.ensures.same) ∙ sym c.in-Some.ensures)
