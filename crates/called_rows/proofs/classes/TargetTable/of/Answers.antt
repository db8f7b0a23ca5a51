use Rattle.std.proofs.Common.{rules, arith, ◌≡◌, ◌<◌, ◌≤◌, ◌^◌, ◌∙◌, length, ap, refl, subst}
use Rattle.wasm_types.specs.declared.module.Module.{Module}
use Rattle.wasm_types.specs.declared.place.LimitKind.TheVariants as limit
use Rattle.wasm_types.specs.Spaces.{globals_of}
use Rattle.body_check.specs.Numbered.{Describes}
use Rattle.called_rows.proofs.classes.TargetTable.of.Goals as goal

pub overflow_cast-globals : goal.overflow_cast-globals
overflow_cast-globals c =
    let m = c.args.m.now in
    let few : length (globals_of m) ≤ 128 = c.module.ensures.sealed.limits limit.Globals 0 (length (globals_of m)) (refl, refl) in
    let is = c.len-globals.ensures in
    let all = ap length c.in_ok-spaces.ensures.globals in
    let same = ap (λ (z : Module). length (globals_of z)) c.module.ensures.same in
    let lt : c.len-globals.result < 2 ^ 32 = omega arith in search rules

pub all_targets-requires-clause-globals : goal.all_targets-requires-clause-globals
all_targets-requires-clause-globals c =
    c.len-globals.ensures ∙ (c.in_ok-spaces.spaces.globals.ok.0 ∙ ap length c.in_ok-spaces.ensures.globals
    ∙ ap (λ (z : Module). length (globals_of z)) c.module.ensures.same)

pub returns : goal.returns
returns c =
    let globals : c.len-globals.result ≡ length (globals_of c.args.m.now) =
    c.len-globals.ensures ∙ (c.in_ok-spaces.spaces.globals.ok.0 ∙ ap length c.in_ok-spaces.ensures.globals
    ∙ ap (λ (z : Module). length (globals_of z)) c.module.ensures.same) in
    record {
      globals = globals;
      spaces = subst (λ (z : Module). Describes c.in_ok-spaces.spaces z) c.module.ensures.same c.in_ok-spaces.ensures;
      classes = c.in_ok-by_class.ensures;
    }
