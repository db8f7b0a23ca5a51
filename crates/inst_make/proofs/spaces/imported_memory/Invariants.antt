use Rattle.std.proofs.Common.{◌≡◌, drop}
use Rattle.std.specs.Prelude.{slice_get}
use Rattle.wasm_types.specs.Spaces.{memory_import, imported}
use Rattle.inst_make.proofs.spaces.imported_memory.Given as goal

abbrev pub invariant-loop-import : goal.invariant-loop-import
invariant-loop-import l = slice_get (imported memory_import (drop l.import-index l.imports)) 0 ≡ slice_get (imported memory_import l.imports) 0
