use Rattle.std.proofs.Common.{◌≡◌, ◌++◌, drop}
use Rattle.wasm_types.specs.Spaces.{run_types}
use Rattle.stack_names.proofs.scope.local_kinds.Given as goal

abbrev pub invariant-loop-run : goal.invariant-loop-run
invariant-loop-run l = l.kinds.items ++ run_types (drop l.run-index l.runs) ≡ l.params ++ run_types l.runs
