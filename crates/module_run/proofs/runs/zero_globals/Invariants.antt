use Rattle.std.proofs.Common.{◌≡◌, ◌++◌, map, drop}
use Rattle.wasm_types.specs.declared.module.GlobalType.{GlobalType}
use Rattle.wasm_types.specs.Spaces.{global_import, imported}
use Rattle.wasm_meaning.specs.Invoke.{zero_value}
use Rattle.module_run.proofs.runs.zero_globals.Given as goal

abbrev pub invariant-loop-import : goal.invariant-loop-import
invariant-loop-import l =
    l.values.items ++ map (λ (g : GlobalType). zero_value g.kind) (imported global_import (drop l.import-index l.imports))
    ≡ map (λ (g : GlobalType). zero_value g.kind) (imported global_import l.imports)
