use Rattle.std.proofs.Common.{take}
use Rattle.slice_closure.specs.Flow.{AreRows}
use Rattle.slice_closure.proofs.flow.rows_of.Given as goal

abbrev pub invariant-loop-way : goal.invariant-loop-way
invariant-loop-way l = AreRows (take l.way-index l.ways) l.rows.items
