use Rattle.std.proofs.Common.{ℕ, ◌<◌}
use Rattle.std.specs.Prelude.{vec_items}
use Rattle.wasm_types.specs.declared.place.Part.TheVariants as part
use Rattle.wasm_types.specs.Validity.{Holds}
use Rattle.wasm_validate.proofs.NameLemmas.{Names}
use Rattle.wasm_validate.proofs.exports.first_export.Given as goal

abbrev pub invariant-loop-k : goal.invariant-loop-k
invariant-loop-k l = record {
  so_far : Names vec_items l.seen.keys l.k l.m.exports;
  before : (j : ℕ) → j < l.k → Holds l.m (part.ExportAt j);
}
