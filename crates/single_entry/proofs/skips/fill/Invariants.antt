use Rattle.single_entry.specs.Far.{IsTable}
use Rattle.single_entry.proofs.skips.fill.Given as goal

abbrev pub invariant-loop-index : goal.invariant-loop-index
invariant-loop-index l = IsTable l.cfg l.index l.hops.items
