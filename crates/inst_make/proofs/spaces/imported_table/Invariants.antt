use Rattle.std.proofs.Common.{◌≡◌, drop}
use Rattle.std.specs.Prelude.{slice_get}
use Rattle.wasm_types.specs.Spaces.{table_import, imported}
use Rattle.inst_make.proofs.spaces.imported_table.Given as goal

abbrev pub invariant-loop-import : goal.invariant-loop-import
invariant-loop-import l = slice_get (imported table_import (drop l.import-index l.imports)) 0 ≡ slice_get (imported table_import l.imports) 0
