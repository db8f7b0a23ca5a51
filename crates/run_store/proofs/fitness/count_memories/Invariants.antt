use Rattle.std.proofs.Common.{◌≡◌, ◌+◌, ◌≤◌, length, drop}
use Rattle.wasm_types.specs.Spaces.{memory_import, imported}
use Rattle.run_store.proofs.fitness.count_memories.Given as goal

abbrev pub invariant-loop-import : goal.invariant-loop-import
invariant-loop-import l = record {
  rest : l.count + length (imported memory_import (drop l.import-index l.imports)) ≡ length (imported memory_import l.imports);
  few : l.count ≤ l.import-index;
}
