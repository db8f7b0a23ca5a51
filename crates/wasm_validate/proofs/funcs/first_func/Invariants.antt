use Rattle.std.proofs.Common.{ℕ, ◌<◌}
use Rattle.wasm_validate.proofs.OwnLemmas.{OwnBody}
use Rattle.wasm_validate.proofs.funcs.first_func.Given as goal

abbrev pub invariant-loop-k : goal.invariant-loop-k
invariant-loop-k l = (j : ℕ) → j < l.k → OwnBody l.m j
