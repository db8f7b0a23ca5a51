use Rattle.std.proofs.Common.{ℕ, ◌<◌}
use Rattle.wasm_types.specs.Validity.{GlobalHolds}
use Rattle.wasm_validate.proofs.EntryLemmas.{Has}
use Rattle.wasm_validate.proofs.globals.first_global.Given as goal

abbrev pub invariant-loop-k : goal.invariant-loop-k
invariant-loop-k l = (j : ℕ) → j < l.k → Has (GlobalHolds l.m) l.m.globals j
