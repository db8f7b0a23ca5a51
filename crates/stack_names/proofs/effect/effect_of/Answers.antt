use Rattle.std.proofs.Common.{◌≤◌, ◌∙◌, length, refl, sym, arith}
use Rattle.wasm_types.specs.declared.place.LimitKind.TheVariants as limit
use Rattle.stack_names.proofs.EffectLemmas.{call_leaves, indirect_leaves}
use Rattle.stack_names.proofs.effect.effect_of.Goals as goal

pub overflow_add-takes : goal.overflow_add-takes
overflow_add-takes c =
    let few : length c.in-Some-get.kind.now.params ≤ 64 =
    c.args.scope.now.limits limit.Params c.in-CallIndirect.kind (length c.in-Some-get.kind.now.params) (c.in-Some-get.kind.now, sym c.in-Some-get.ensures.value, refl) in
    omega arith

pub returns-in-Some-clause-leaves : goal.returns-in-Some-clause-leaves
returns-in-Some-clause-leaves c =
    c.result_of.ensures ∙ call_leaves c.args.scope.now.module.now c.args.scope.now.locals.items c.args.instr.now c.in-Call.func c.in-Some.kind.now c.args.stack.now c.in-Call.is (sym c.in-Some.ensures)

pub returns-in-Some-get-clause-leaves : goal.returns-in-Some-get-clause-leaves
returns-in-Some-get-clause-leaves c =
    c.result_of-in-Some-get.ensures ∙ indirect_leaves c.args.scope.now.module.now c.args.scope.now.locals.items c.args.instr.now c.in-CallIndirect.kind c.in-Some-get.kind.now c.args.stack.now c.in-CallIndirect.is (sym c.in-Some-get.ensures.value)
