use Rattle.std.specs.Prelude.{slice_get}
use Rattle.flow_domain.specs.LocTables.{row_in}
use Rattle.called_rows.specs.Whom.{output_of}
use Rattle.func_flow.specs.Next.{FromEach, Picked, Use, operands_at, picks_for}
use Rattle.func_flow.proofs.Pushes.{numbered_both}
use Rattle.func_flow.proofs.search.Flow.push_plain.Goals as goal

pub returns : goal.returns
returns c =
    let t = c.args.self.now.tables in
    let p = c.args.pos.0 in
    let o = output_of c.args.made in
    let picked = rw (c.operands.ensures, c.picks-picks.ensures) at c.in_ok-push_picked.ensures in
    numbered_both t.numbering (Picked (operands_at t p) (picks_for o (slice_get t.steps.now p))) (FromEach (row_in (slice_get t.locs.now p)) (Use p o))
    c.args.next.now.items c.push_picked.new.next.items c.push_uses.new.next.items picked c.in_ok-push_uses.ensures
