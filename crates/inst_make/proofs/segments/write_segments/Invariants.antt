use Rattle.std.proofs.Common.{drop}
use Rattle.inst_make.proofs.Writes.{WrittenTo}
use Rattle.inst_make.proofs.segments.write_segments.Given as goal

abbrev pub invariant-loop-segment : goal.invariant-loop-segment
invariant-loop-segment l = WrittenTo l.globals (drop l.segment-index l.segments) l.segments l.initial.store l.store
