use Rattle.wasm_types.specs.Nodes.{At}
use Rattle.std.proofs.Common.{get_or}
use Rattle.single_entry.proofs.Meeting.{comes_point, next_comes, met_more}
use Rattle.single_entry.proofs.reached.meet_next.Goals as goal

pub next-next-items-requires : goal.next-next-items-requires
next-next-items-requires c = comes_point c.args.cfg.now c.requires.graph c.args.point c.requires.point

pub meet-requires : goal.meet-requires
meet-requires c =
    let g = c.args.cfg.now in
    let row = c.next-next-items.result.now in
    let way = next_comes g c.args.point row c.loop-next.next-index (At 0) c.next-next-items.ensures c.loop-next-test.true c.requires.point in
    c.loop-next.invariant.fits (get_or row c.loop-next.next-index (At 0)) (comes_point g c.requires.graph (get_or row c.loop-next.next-index (At 0)) way)

pub loop-next-preserved : goal.loop-next-preserved
loop-next-preserved c =
    let g = c.args.cfg.now in
    let row = c.next-next-items.result.now in
    let way = next_comes g c.args.point row c.loop-next.next-index (At 0) c.next-next-items.ensures c.loop-next-test.true c.requires.point in
    met_more g (get_or row c.loop-next.next-index (At 0)) c.loop-next.marks.items c.meet.new.marks.items c.loop-next.waiting.items c.meet.new.waiting.items way
    c.loop-next.invariant c.in_ok-meet.ensures
