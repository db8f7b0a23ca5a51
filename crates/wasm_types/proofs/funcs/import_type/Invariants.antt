use Rattle.std.proofs.Common.{◌≡◌, ◌+◌, length, drop}
use Rattle.std.specs.Prelude.{slice_get}
use Rattle.wasm_types.specs.Spaces.{func_import, imported}
use Rattle.wasm_types.proofs.funcs.import_type.Given as goal

abbrev pub invariant-loop-import : goal.invariant-loop-import
invariant-loop-import l = record {
  found : slice_get (imported func_import (drop l.import-index l.imports)) l.left ≡ slice_get (imported func_import l.imports) l.func;
  past : l.left + length (imported func_import l.imports) ≡ l.func + length (imported func_import (drop l.import-index l.imports));
}
