use Rattle.std.proofs.Common.{ℕ, ◌<◌}
use Rattle.wasm_validate.proofs.LimitLemmas.{IsWithin, param_count}
use Rattle.wasm_validate.proofs.limits.over_params.Given as goal

abbrev pub invariant-loop-k : goal.invariant-loop-k
invariant-loop-k l = (j : ℕ) → j < l.k → IsWithin param_count 64 l.m.types j
