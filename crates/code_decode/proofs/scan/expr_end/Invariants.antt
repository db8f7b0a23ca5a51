use Rattle.std.proofs.Common.{◌≤◌, ◌-◌, List, [], ℕ, length, drop, reverse}
use Rattle.code_decode.specs.Scan.{Closes}
use Rattle.code_decode.proofs.scan.expr_end.Given as goal

abbrev pub invariant-loop-place : goal.invariant-loop-place
invariant-loop-place l = record {
  within : l.place ≤ length l.bytes;
  on : (rest : List ℕ) → Closes rest [] (drop l.at l.bytes) → Closes rest (reverse l.blocks.items) (drop l.place l.bytes);
  back : (rest : List ℕ) → Closes rest (reverse l.blocks.items) (drop l.place l.bytes) → Closes rest [] (drop l.at l.bytes);
}

abbrev pub decreases-loop-place : goal.decreases-loop-place
decreases-loop-place l = length l.bytes - l.place
