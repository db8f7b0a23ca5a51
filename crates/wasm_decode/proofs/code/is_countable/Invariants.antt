use Rattle.std.proofs.Common.{◌≡◌, ◌<◌, ◌^◌, take}
use Rattle.wasm_types.specs.Sections.{local_count}
use Rattle.wasm_decode.proofs.code.is_countable.Given as goal

abbrev pub invariant-loop-run : goal.invariant-loop-run
invariant-loop-run l = record {
  so_far : l.total ≡ local_count (take l.run-index l.runs);
  below : l.total < 2 ^ 32;
}
