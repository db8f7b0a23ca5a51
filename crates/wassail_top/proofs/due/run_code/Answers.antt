use Rattle.std.proofs.Common.{◌≡◌, ◌∙◌, None, Some, List, ap, sym, subst}
use Rattle.std.specs.Option.{option_copied}
use Rattle.wasm_types.specs.declared.module.Module.{Module}
use Rattle.wasm_types.specs.declared.module.Value.{Value}
use Rattle.wasm_types.specs.Spaces.{type_of_func}
use Rattle.wasm_meaning.specs.Fits.{HaveTypes}
use Rattle.module_run.specs.Values.{option_items, values_for}
use Rattle.module_run.proofs.ListedValues.{values_typed}
use Rattle.wassail_top.proofs.NoCode.{has_type}
use Rattle.wassail_top.proofs.due.run_code.Goals as goal

pub unreachable-requires : goal.unreachable-requires
unreachable-requires c =
    let none : type_of_func c.args.valid.now c.args.func ≡ None =
    ap (λ (n : Module). type_of_func n c.args.func) (sym c.module.ensures.same) ∙ sym c.func_type.ensures ∙ ap option_copied c.in_default.is in
    let kind = has_type c.args.valid.now c.args.func c.module.ensures.sealed.valid c.requires.code in
    let some : type_of_func c.args.valid.now c.args.func ≡ Some kind.0 = kind.1 in cc

pub run-requires : goal.run-requires
run-requires c =
    let kind = c.in-Some.kind.now in
    let own : type_of_func c.args.valid.now c.args.func ≡ Some kind =
    ap (λ (n : Module). type_of_func n c.args.func) (sym c.module.ensures.same) ∙ sym c.in-Some.ensures in
    let fit : values_for kind.params c.args.args.now ≡ Some c.in-Some-2.values.items =
    ap (λ ts. values_for ts c.args.args.now) (sym c.as_slice.ensures) ∙ sym c.in_ok-values.ensures ∙ ap option_items c.in-Some-2.is in
    let typed = values_typed kind.params c.args.args.now c.in-Some-2.values.items fit in
    record { kinds = (kind, own, subst (λ (vs : List Value). HaveTypes vs kind.params) (sym c.deref.ensures.value) typed) }
