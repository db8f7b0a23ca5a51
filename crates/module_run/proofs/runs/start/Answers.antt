use Rattle.std.proofs.Common.{◌≡◌, [], Some, None, sym, ap, ◌∙◌, subst}
use Rattle.wasm_types.specs.declared.module.Module.{Module}
use Rattle.wasm_meaning.specs.Fits.{HaveTypes}
use Rattle.module_run.specs.Steps.{HasBegun}
use Rattle.module_run.proofs.Steps.{start_of, begun_without, begun_with}
use Rattle.module_run.proofs.runs.start.Goals as goal

pub returns-in_default : goal.returns-in_default
returns-in_default c = λ replies s.
    let at : c.args.m.now.start ≡ None = sym (ap (λ (z : Module). z.start) c.module.ensures.same) ∙ c.in_default.is in
    begun_without c.args.m.now c.module.ensures.sealed replies c.args.budget c.args.inst.now s at

pub invoke-requires-clause-kinds : goal.invoke-requires-clause-kinds
invoke-requires-clause-kinds c =
    let at : c.args.m.now.start ≡ Some c.in-Some.func = sym (ap (λ (z : Module). z.start) c.module.ensures.same) ∙ c.in-Some.is in
    let h = start_of c.args.m.now c.module.ensures.sealed c.in-Some.func at in (h.0, h.1, subst (HaveTypes []) (sym h.2) tt)

pub returns-in-Ok : goal.returns-in-Ok
returns-in-Ok c = λ replies s.
    let at : c.args.m.now.start ≡ Some c.in-Some.func = sym (ap (λ (z : Module). z.start) c.module.ensures.same) ∙ c.in-Some.is in
    subst (HasBegun c.args.m.now replies c.args.budget c.invoke.new.inst) (sym c.begun_by.ensures)
    (begun_with c.args.m.now c.module.ensures.sealed replies c.args.budget c.args.inst.now c.invoke.new.inst s c.in-Some.func at c.in-Ok.run' c.in-Ok.ensures)

pub invoke-requires-clause-code : goal.invoke-requires-clause-code
invoke-requires-clause-code c = c.requires.code
