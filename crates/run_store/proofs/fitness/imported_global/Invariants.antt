use Rattle.std.proofs.Common.{◌≡◌, ◌+◌, length, drop}
use Rattle.std.specs.Prelude.{slice_get}
use Rattle.wasm_types.specs.Spaces.{global_import, imported}
use Rattle.run_store.proofs.fitness.imported_global.Given as goal

abbrev pub invariant-loop-import : goal.invariant-loop-import
invariant-loop-import l = record {
  found : slice_get (imported global_import (drop l.import-index l.imports)) l.left ≡ slice_get (imported global_import l.imports) l.global;
  past : l.left + length (imported global_import l.imports) ≡ l.global + length (imported global_import (drop l.import-index l.imports));
}
