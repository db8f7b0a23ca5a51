use Rattle.std.proofs.Common.{◌≡◌, ◌<◌, ◌^◌, ◌∙◌, ap, sym, subst, length, None, arith}
use Rattle.std.specs.Option.{option_copied}
use Rattle.wasm_types.specs.declared.module.Module.{Module}
use Rattle.wasm_types.specs.Spaces.{body_of, func_types}
use Rattle.wassail_top.proofs.NoCode.{few_functions, imported_code}
use Rattle.wassail_top.proofs.refusals.code_refusal.Goals as goal

pub func_count-requires : goal.func_count-requires
func_count-requires c = subst (λ (n : Module). length (func_types n) < 2 ^ 32) (sym c.module-m.ensures.same) (few_functions c.args.m.now c.module-m.ensures.sealed)

pub returns-in-None : goal.returns-in-None
returns-in-None c =
    let count : c.func_count.result ≡ length (func_types c.args.m.now) = c.func_count.ensures ∙ ap (λ (n : Module). length (func_types n)) c.module-m.ensures.same in
    let past = c.if-func-func_count.false in
    let lt : c.args.func < length (func_types c.args.m.now) = omega arith in
    let none : body_of c.args.m.now c.args.func ≡ None =
    ap (λ (n : Module). body_of n c.args.func) (sym c.module-m.ensures.same) ∙ sym c.body.ensures ∙ ap option_copied c.in-None.is in
    sym (imported_code c.args.m.now c.args.func c.module-m.ensures.sealed.valid lt none)
