use Rattle.std.proofs.Common.{◌≡◌, ℕ, ◌+◌, ◌-◌, ◌<◌, ◌≤◌, count_by, length, false}
use Rattle.std.specs.Prelude.{slice_index_or}
use Rattle.flow_domain.proofs.kept.lengthen.Given as goal

abbrev pub invariant-loop-flags : goal.invariant-loop-flags
invariant-loop-flags l = record {
  short : (end : ℕ) → l.number < end → length l.initial.flags.items ≤ end → length l.flags.items ≤ end;
  same : (k : ℕ) → slice_index_or l.flags.items k false ≡ slice_index_or l.initial.flags.items k false;
  count : count_by (λ flag. flag) l.flags.items ≡ count_by (λ flag. flag) l.initial.flags.items;
}

abbrev pub decreases-loop-flags : goal.decreases-loop-flags
decreases-loop-flags l = l.number + 1 - length l.flags.items
