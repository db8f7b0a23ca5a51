use Rattle.std.proofs.Common.{All, take}
use Rattle.inst_make.specs.Starts.{SegmentWithin}
use Rattle.inst_make.proofs.segments.first_segment_out.Given as goal

abbrev pub invariant-loop-k : goal.invariant-loop-k
invariant-loop-k l = All (SegmentWithin l.globals l.long) (take l.k l.segments)
