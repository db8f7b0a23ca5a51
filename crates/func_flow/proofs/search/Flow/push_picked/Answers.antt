use Rattle.std.proofs.Common.{◌≡◌, length, arith}
use Rattle.func_flow.specs.Next.{PickedAt}
use Rattle.func_flow.proofs.Pushes.{below_start, below_next, below_all}
use Rattle.func_flow.proofs.search.Flow.push_picked.Goals as goal

pub loop-index-init : goal.loop-index-init
loop-index-init c = below_start c.args.self.now.tables.numbering (PickedAt c.args.places.now c.args.picks) c.args.next.now.items

pub loop-index-preserved : goal.loop-index-preserved
loop-index-preserved c =
    below_next c.args.self.now.tables.numbering (PickedAt c.args.places.now c.args.picks) c.loop-index.index c.args.next.now.items c.loop-index.next.items
    c.push_picked_one.new.next.items c.loop-index.invariant c.in_ok-push_picked_one.ensures

pub returns : goal.returns
returns c =
    let all : c.loop-index.index ≡ length c.args.places.now = omega arith in
    below_all c.args.self.now.tables.numbering (PickedAt c.args.places.now c.args.picks) c.loop-index.index (length c.args.places.now) c.args.next.now.items
    c.loop-index.next.items all c.loop-index.invariant
