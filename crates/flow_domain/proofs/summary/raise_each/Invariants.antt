use Rattle.std.proofs.Common.{◌≡◌, ℕ, ◌<◌, ◌≤◌, IsTrue, false, get_or, sum, bit_or}
use Rattle.flow_domain.proofs.summary.raise_each.Given as goal

abbrev pub invariant-loop-k : goal.invariant-loop-k
invariant-loop-k l = record {
  below : (j : ℕ) → j < l.k → get_or l.words j 0 ≡ bit_or (get_or l.initial.words j 0) (get_or l.more j 0);
  above : (j : ℕ) → l.k ≤ j → get_or l.words j 0 ≡ get_or l.initial.words j 0;
  same : l.grew ≡ false → l.words ≡ l.initial.words;
  rose : IsTrue l.grew → sum l.initial.words < sum l.words;
}
