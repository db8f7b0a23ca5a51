use Rattle.std.proofs.Common.{◌≡◌, take}
use Rattle.wasm_types.specs.Sections.{local_count}
use Rattle.wasm_validate.proofs.limits.declared_locals.Given as goal

abbrev pub invariant-loop-run : goal.invariant-loop-run
invariant-loop-run l = l.count ≡ local_count (take l.run-index l.runs)
