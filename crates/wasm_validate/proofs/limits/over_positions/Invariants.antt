use Rattle.std.proofs.Common.{ℕ, ◌<◌}
use Rattle.wasm_validate.proofs.LimitLemmas.{IsWithin, position_count}
use Rattle.wasm_validate.proofs.limits.over_positions.Given as goal

abbrev pub invariant-loop-k : goal.invariant-loop-k
invariant-loop-k l = (j : ℕ) → j < l.k → IsWithin position_count 100000 l.m.bodies j
