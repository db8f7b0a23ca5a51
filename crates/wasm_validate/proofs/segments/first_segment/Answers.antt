use Rattle.std.proofs.Common.{true≢false, sym, ◌∙◌}
use Rattle.wasm_types.specs.Validity.{SegmentHolds}
use Rattle.wasm_validate.proofs.EntryLemmas.{entry, one_more, found_here, none_left}
use Rattle.wasm_validate.proofs.segments.first_segment.Goals as goal

pub loop-k-preserved : goal.loop-k-preserved
loop-k-preserved c =
    let here = entry c.as_slice-segment-items.result.now c.args.m.now.segments c.loop-k.k c.segment-item.result c.as_slice-segment-items.ensures c.loop-k-test.true c.segment-item.is in
    one_more (SegmentHolds c.args.m.now) c.args.m.now.segments c.loop-k.k c.segment-item.result here (c.segment_holds.ensures.0 c.if-not-segment_holds.false) c.loop-k.invariant

pub returns-then-not-segment_holds : goal.returns-then-not-segment_holds
returns-then-not-segment_holds c =
    let here = entry c.as_slice-segment-items.result.now c.args.m.now.segments c.loop-k.k c.segment-item.result c.as_slice-segment-items.ensures c.loop-k-test.true c.segment-item.is in
    found_here (SegmentHolds c.args.m.now) c.args.m.now.segments c.loop-k.k c.segment-item.result here (λ h. true≢false (sym (c.segment_holds.ensures.1 h) ∙ c.if-not-segment_holds.true)) c.loop-k.invariant

pub returns : goal.returns
returns c = none_left (SegmentHolds c.args.m.now) c.as_slice-segment-items.result.now c.args.m.now.segments c.loop-k.k c.as_slice-segment-items.ensures c.loop-k-test.false c.loop-k.invariant
