use Rattle.std.proofs.Common.{◌≡◌, ◌+◌, ◌++◌, drop, length}
use Rattle.wasm_types.specs.Sections.{local_count}
use Rattle.wasm_types.specs.Spaces.{run_types}
use Rattle.body_check.proofs.locals.Locals.push_runs.Given as goal

abbrev pub invariant-loop-run : goal.invariant-loop-run
invariant-loop-run l = record {
  types : l.self ++ run_types (drop l.run-index l.runs) ≡ l.fn.self ++ run_types l.runs;
  count : length l.self + local_count (drop l.run-index l.runs) ≡ length l.fn.self + local_count l.runs;
}
