use Rattle.slice_closure.specs.Flow.{touch_at}
use Rattle.slice_closure.specs.Next.{FromEach, Maker, Asks, spot_in, taken_places}
use Rattle.slice_closure.proofs.Pushes.{numbered_both}
use Rattle.slice_closure.proofs.search.Closing.push_plain.Goals as goal

pub returns : goal.returns
returns c =
    let t = c.args.self.now.tables in
    let p = c.args.pos.0 in
    numbered_both c.args.self.now.numbering.nodes (FromEach (taken_places t p) (Maker t)) (Asks (touch_at (spot_in t p)) p) c.args.next.now.items
    c.push_operands.new.next.items c.push_uses.new.next.items c.in_ok-push_operands.ensures c.in_ok-push_uses.ensures
