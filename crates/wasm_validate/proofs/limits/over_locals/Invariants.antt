use Rattle.std.proofs.Common.{ℕ, ◌<◌}
use Rattle.wasm_validate.proofs.LimitLemmas.{IsWithin, declared}
use Rattle.wasm_validate.proofs.limits.over_locals.Given as goal

abbrev pub invariant-loop-k : goal.invariant-loop-k
invariant-loop-k l = (j : ℕ) → j < l.k → IsWithin declared 8192 l.m.bodies j
