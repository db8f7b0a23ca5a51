use Rattle.std.proofs.Common.{◌≡◌, List, map, sym, ap, ◌∙◌, subst}
use Rattle.wasm_types.specs.declared.module.GlobalType.{GlobalType}
use Rattle.wasm_types.specs.declared.module.Import.{Import}
use Rattle.wasm_types.specs.declared.module.Module.{Module}
use Rattle.wasm_types.specs.Spaces.{global_import, imported}
use Rattle.wasm_meaning.specs.Fits.{HaveTypes, global_type}
use Rattle.wasm_meaning.specs.Invoke.{zero_value}
use Rattle.module_run.specs.Runs.{first_values}
use Rattle.module_run.proofs.Beginning.{first_typed}
use Rattle.module_run.proofs.runs.begin.Goals as goal

pub instantiate-requires : goal.instantiate-requires
instantiate-requires c =
    let m = c.args.m.now in
    let imports = c.as_slice.ensures ∙ ap (λ (z : Module). z.imports) c.module.ensures.same in
    let same : c.as_slice-2.result.now ≡ first_values m = c.as_slice-2.ensures.value ∙ c.in_ok-globals.ensures
    ∙ ap (λ (l : List Import). map (λ (g : GlobalType). zero_value g.kind) (imported global_import l)) imports in
    subst (λ vs. HaveTypes vs (map global_type (imported global_import m.imports))) (sym same) (first_typed m c.module.ensures.sealed)
