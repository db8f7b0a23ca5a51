use Rattle.std.proofs.Common.{◌≡◌, length}
use Rattle.sparse_reach.specs.Batches.{AreBatches}
use Rattle.sparse_reach.proofs.rounds.batches.Given as goal

abbrev pub invariant-loop-batch : goal.invariant-loop-batch
invariant-loop-batch l = record {
  long : length l.batches.items ≡ l.batch;
  are : AreBatches l.roots l.edges l.batches.items;
}
