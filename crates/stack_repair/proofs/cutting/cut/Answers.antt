use Rattle.std.proofs.Common.{◌≡◌, ◌≤◌, ◌∙◌, None, Some, length, refl, sym, ap, nat_eq, arith}
use Rattle.std.specs.Option.{option_copied}
use Rattle.wasm_types.specs.declared.module.Module.{Module}
use Rattle.wasm_types.specs.declared.place.LimitKind.TheVariants as limit
use Rattle.wasm_types.specs.Code.{code_of, flatten}
use Rattle.wasm_types.specs.Sizes.{positions}
use Rattle.wasm_types.specs.Spaces.{type_of_func, body_of, HasBody}
use Rattle.wasm_types.proofs.CodeLemmas.{length-flatten}
use Rattle.stack_names.proofs.NameLemmas.{own_typed, own_body}
use Rattle.flow_domain.specs.KeptSets.{holds}
use Rattle.stack_repair.proofs.Bodies.{has_own_body}
use Rattle.stack_repair.proofs.ExactCut.{cut_of_names}
use Rattle.stack_repair.proofs.cutting.cut.Goals as goal

pub unreachable-requires : goal.unreachable-requires
unreachable-requires c =
    let none : type_of_func c.args.m.now c.args.func ≡ None =
    ap (λ (x : Module). type_of_func x c.args.func) (sym c.module-module.ensures.same) ∙ sym c.func_type.ensures ∙ ap option_copied c.in_default.is in
    own_typed c.args.m.now c.module-module.ensures.sealed.valid c.args.func c.requires.imported c.requires.own none

pub unreachable-requires-in_default-body : goal.unreachable-requires-in_default-body
unreachable-requires-in_default-body c =
    let none : body_of c.args.m.now c.args.func ≡ None =
    ap (λ (x : Module). body_of x c.args.func) (sym c.module-module.ensures.same) ∙ sym c.body.ensures ∙ ap option_copied c.in_default-body.is in
    own_body c.args.m.now c.module-module.ensures.sealed.valid c.args.func c.requires.imported c.requires.own none

pub cut_body-requires : goal.cut_body-requires
cut_body-requires c =
    let b = c.in-Some-body.body.now in
    let has : HasBody c.args.m.now c.args.func b =
    has_own_body c.args.m.now c.args.func b c.requires.imported (ap (λ (x : Module). body_of x c.args.func) (sym c.module-module.ensures.same) ∙ sym c.in-Some-body.ensures) in
    let few : length (flatten (code_of b.code)) ≤ 200000 = c.module-module.ensures.sealed.limits limit.Positions c.args.func (positions b.code) (b, has, refl) in
    omega (arith, length-flatten (code_of b.code))

pub returns : goal.returns
returns c =
    let b = c.in-Some-body.body.now in
    let has : HasBody c.args.m.now c.args.func b =
    has_own_body c.args.m.now c.args.func b c.requires.imported (ap (λ (x : Module). body_of x c.args.func) (sym c.module-module.ensures.same) ∙ sym c.in-Some-body.ensures) in
    let few : length (flatten (code_of b.code)) ≤ 200000 = c.module-module.ensures.sealed.limits limit.Positions c.args.func (positions b.code) (b, has, refl) in
    let type : type_of_func c.args.m.now c.args.func ≡ Some c.in-Some.kind.now =
    ap (λ (x : Module). type_of_func x c.args.func) (sym c.module-module.ensures.same) ∙ sym c.in-Some.ensures in
    cut_of_names c.args.m.now c.args.func c.args.at.0 c.in-Some.kind.now b c.args.names.now (holds c.args.kept.now) c.in_ok-made.made.body c.in_ok-made.made.at.0 c.result_of.result
    (record { valid = c.module-module.ensures.sealed.valid; no_float = c.module-module.ensures.sealed.no_float; func = c.args.func; kind_is = type; has_body = has })
    type has (c.requires.names (nat_eq c.args.at.0)) c.result_of.ensures (omega (arith, length-flatten (code_of b.code))) c.in_ok-made.ensures.code c.in_ok-made.ensures.place
