use Rattle.std.proofs.Common.{◌≡◌, ◌∙◌, None, sym, ap}
use Rattle.std.specs.Option.{option_copied}
use Rattle.wasm_types.specs.declared.module.Module.{Module}
use Rattle.wasm_types.specs.Spaces.{body_of}
use Rattle.stack_names.proofs.NameLemmas.{own_body}
use Rattle.slice_closure.proofs.closure.own_body.Goals as goal

pub unreachable-requires : goal.unreachable-requires
unreachable-requires c =
    let none : body_of c.args.m.now c.args.func ≡ None =
    ap (λ (x : Module). body_of x c.args.func) (sym c.module-module.ensures.same) ∙ sym c.body.ensures ∙ ap option_copied c.in_default.is in
    own_body c.args.m.now c.module-module.ensures.sealed.valid c.args.func c.requires.imported c.requires.own none

pub returns-clause-body : goal.returns-clause-body
returns-clause-body c = ap (λ (x : Module). body_of x c.args.func) (sym c.module-module.ensures.same) ∙ sym c.in-Some.ensures

pub returns-clause-points : goal.returns-clause-points
returns-clause-points c =
    c.law_bodies_have_points.ensures.answered c.args.m.now c.args.func c.in-Some.body.now c.module-module.ensures.sealed
    (ap (λ (x : Module). body_of x c.args.func) (sym c.module-module.ensures.same) ∙ sym c.in-Some.ensures)
