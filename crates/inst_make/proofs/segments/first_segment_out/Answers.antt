use Rattle.std.proofs.Common.{arith, sym, ◌∙◌}
use Rattle.inst_make.specs.Starts.{SegmentWithin}
use Rattle.inst_make.proofs.Writes.{one_more, none_left}
use Rattle.inst_make.proofs.segments.first_segment_out.Goals as goal

pub loop-k-preserved : goal.loop-k-preserved
loop-k-preserved c =
    one_more (SegmentWithin c.args.globals.now c.args.long) c.args.segments.now c.loop-k.k c.index-segments-k.result (omega arith) c.index-segments-k.is
    c.loop-k.invariant (sym c.is_segment_within.ensures ∙ c.if-not-is_segment_within.false)

pub returns : goal.returns
returns c = none_left (SegmentWithin c.args.globals.now c.args.long) c.args.segments.now c.loop-k.k (omega arith) c.loop-k.invariant
