use Rattle.std.proofs.Common.{rules, arith}
use Rattle.std.proofs.lemmas.Bool.{ltb-true, ltb-false}
use Rattle.std.proofs.lemmas.List.Sorted.{IsPartitionedBy-ltb, IsPartitionPoint-from_clause}
use Rattle.std.proofs.Math.Dec.{ltb}
use Rattle.std.proofs.Common.{ℕ, get_or}
use Rattle.single_entry.proofs.Sorted.{not_falling}
use Rattle.single_entry.proofs.last.count_below.Goals as goal

pub returns-clause-below : goal.returns-clause-below
returns-clause-below c =
    let h = IsPartitionPoint-from_clause (λ (y : ℕ). ltb y c.args.end) c.args.numbers.now c.partition_point.result c.partition_point.ensures.partitioned
    (IsPartitionedBy-ltb (λ (y : ℕ). y) c.args.numbers.now c.args.end (not_falling c.args.numbers.now c.requires)) (λ a r f' called. search rules) in
    λ i d lt. ltb-true (get_or c.args.numbers.now i d) c.args.end (h.0 i d (omega arith) lt)

pub returns-clause-above : goal.returns-clause-above
returns-clause-above c =
    let h = IsPartitionPoint-from_clause (λ (y : ℕ). ltb y c.args.end) c.args.numbers.now c.partition_point.result c.partition_point.ensures.partitioned
    (IsPartitionedBy-ltb (λ (y : ℕ). y) c.args.numbers.now c.args.end (not_falling c.args.numbers.now c.requires)) (λ a r f' called. search rules) in
    λ i d ge lt. ltb-false (get_or c.args.numbers.now i d) c.args.end (h.1 i d ge lt)
