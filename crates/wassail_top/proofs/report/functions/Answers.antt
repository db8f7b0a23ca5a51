use Rattle.std.proofs.Common.{◌<◌, ◌^◌, length, subst, sym}
use Rattle.wasm_types.specs.declared.module.Module.{Module}
use Rattle.wasm_types.specs.Spaces.{func_types}
use Rattle.wassail_top.proofs.NoCode.{few_functions}
use Rattle.wassail_top.proofs.report.functions.Goals as goal

pub func_count-requires : goal.func_count-requires
func_count-requires c =
    subst (λ (n : Module). length (func_types n) < 2 ^ 32) (sym c.module.ensures.same) (few_functions c.args.valid.now c.module.ensures.sealed)
