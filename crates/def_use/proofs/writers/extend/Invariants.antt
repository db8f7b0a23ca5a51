use Rattle.std.proofs.Common.{◌≡◌, ℕ, length}
use Rattle.def_use.specs.Writers.{row_at}
use Rattle.def_use.proofs.writers.extend.Given as goal

abbrev pub invariant-loop-row : goal.invariant-loop-row
invariant-loop-row l = record {
  length_is : length l.rows.items ≡ l._row;
  same : (n : ℕ) → row_at l.rows.items n ≡ row_at l.initial.rows.items n;
}
