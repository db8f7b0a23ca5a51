use Rattle.std.proofs.Common.{rules, arith, ◌≡◌, ◌++◌, ◌∷◌, [], get_or}
use Rattle.std.proofs.lemmas.Option.{slice_get_read}
use Rattle.std.proofs.Math.Seq.{take_all}
use Rattle.worklist.proofs.Pushing.{gains_push, gains_more}
use Rattle.worklist.proofs.Rows.{gains_row}
use Rattle.worklist.proofs.list_graph.ListGraphGraph.push_next.Goals as goal

pub loop-other-preserved : goal.loop-other-preserved
loop-other-preserved c =
    let list = c.deref-other-items.result.now in
    let pushed : c.push.new.self.items ≡ c.loop-other.next.items ++ (get_or list c.loop-other.other-index 0) ∷ [] = search rules in
    gains_more list c.loop-other.other-index c.args.next.now.items c.loop-other.next.items c.push.new.self.items c.loop-other-test.true c.loop-other.invariant
    (rw pushed (gains_push c.loop-other.next.items (get_or list c.loop-other.other-index 0)))

pub returns : goal.returns
returns c =
    let list = c.deref-other-items.result.now in
    gains_row c.args.self.now.next.items c.args.node c.index.result.now list _ c.args.next.now.items c.loop-other.next.items
    (slice_get_read c.args.self.now.next.items _ c.args.node c.index.result.now c.args.self.now.next.ok.0 (search rules) c.index.ensures)
    c.deref-other-items.ensures.value (take_all c.loop-other.other-index list (omega arith)) c.loop-other.invariant
