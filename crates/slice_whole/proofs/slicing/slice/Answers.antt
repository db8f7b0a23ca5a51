use Rattle.std.proofs.Common.{◌∙◌, ap, arith}
use Rattle.wasm_types.specs.declared.module.Module.{Module}
use Rattle.flow_domain.specs.Sliced.{func_count}
use Rattle.slice_whole.proofs.Made.{Made, name_proper, made_is}
use Rattle.slice_whole.proofs.Refused.{sealed_few, not_exported}
use Rattle.slice_whole.proofs.slicing.slice.Goals as goal

pub func_count-number-requires : goal.func_count-number-requires
func_count-number-requires c = sealed_few c.into_module-given.result c.into_module-given.ensures.sealed

pub seal-requires : goal.seal-requires
seal-requires c =
    (made_is c.into_module-given.result c.args.given c.in_ok-module.module c.args.func c.args.at.0 c.args.name.now c.in_ok-kind.field-0 c.into_module-given.ensures.same
    c.into_module-given.ensures.sealed c.requires.limits (rw (← c.as_bytes.ensures.value) c.in_ok-kind.ensures) c.in_ok-module.ensures
    (name_proper c.args.name.now (λ i. omega (arith, c.type_inv.name i)) c.utf8.name) c.requires.short c.requires.name).sealed

pub returns-clause-slices : goal.returns-clause-slices
returns-clause-slices c =
    let made : Made c.args.given c.args.func c.args.at.0 c.args.name.now c.seal.result c.in_ok-kind.field-0.at.0 =
    made_is c.into_module-given.result c.args.given c.seal.result c.args.func c.args.at.0 c.args.name.now c.in_ok-kind.field-0 c.into_module-given.ensures.same
    c.into_module-given.ensures.sealed c.requires.limits (rw (← c.as_bytes.ensures.value) c.in_ok-kind.ensures) (c.seal.ensures ∙ c.in_ok-module.ensures)
    (name_proper c.args.name.now (λ i. omega (arith, c.type_inv.name i)) c.utf8.name) c.requires.short c.requires.name in
    (made.none, made.sliced, c.func_count-number.ensures ∙ ap (λ (m : Module). func_count m) c.into_module-given.ensures.same, not_exported c.args.given c.args.func c.args.at.0 c.args.name.now made.none)

pub returns-clause-body : goal.returns-clause-body
returns-clause-body c =
    (made_is c.into_module-given.result c.args.given c.seal.result c.args.func c.args.at.0 c.args.name.now c.in_ok-kind.field-0 c.into_module-given.ensures.same
    c.into_module-given.ensures.sealed c.requires.limits (rw (← c.as_bytes.ensures.value) c.in_ok-kind.ensures) (c.seal.ensures ∙ c.in_ok-module.ensures)
    (name_proper c.args.name.now (λ i. omega (arith, c.type_inv.name i)) c.utf8.name) c.requires.short c.requires.name).body

pub returns-clause-length : goal.returns-clause-length
returns-clause-length c =
    (made_is c.into_module-given.result c.args.given c.seal.result c.args.func c.args.at.0 c.args.name.now c.in_ok-kind.field-0 c.into_module-given.ensures.same
    c.into_module-given.ensures.sealed c.requires.limits (rw (← c.as_bytes.ensures.value) c.in_ok-kind.ensures) (c.seal.ensures ∙ c.in_ok-module.ensures)
    (name_proper c.args.name.now (λ i. omega (arith, c.type_inv.name i)) c.utf8.name) c.requires.short c.requires.name).length
