use Rattle.std.proofs.Common.{◌≡◌, ◌++◌, drop}
use Rattle.wasm_types.specs.Spaces.{func_import, table_import, memory_import, global_import, imported}
use Rattle.body_check.proofs.spaces.imports_of.Given as goal

abbrev pub invariant-loop-import : goal.invariant-loop-import
invariant-loop-import l = record {
  funcs : l.funcs.items ++ imported func_import (drop l.import-index l.imports) ≡ imported func_import l.imports;
  tables : l.tables.items ++ imported table_import (drop l.import-index l.imports) ≡ imported table_import l.imports;
  memories : l.memories.items ++ imported memory_import (drop l.import-index l.imports) ≡ imported memory_import l.imports;
  globals : l.globals.items ++ imported global_import (drop l.import-index l.imports) ≡ imported global_import l.imports;
}
