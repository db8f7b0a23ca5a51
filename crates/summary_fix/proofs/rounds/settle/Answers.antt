use Rattle.std.proofs.Common.{arith, ⊎_elim, get_or}
use Rattle.std.proofs.lemmas.List.Elements.{All-contains_itself}
use Rattle.worklist.specs.Search.{IsMarked}
use Rattle.call_graph.proofs.ClassLemmas.{lent_whole}
use Rattle.summary_fix.proofs.Marking.{grows_then}
use Rattle.summary_fix.proofs.rounds.settle.Goals as goal

pub pass-requires-clause-order : goal.pass-requires-clause-order
pass-requires-clause-order c = λ k d lt.
    let order = c.order.result.now in (c.order.ensures c.args.m.now c.requires.graph (get_or order k d)).0 (All-contains_itself order k d lt)

pub returns-then-not-grew-clause-full : goal.returns-then-not-grew-clause-full
returns-then-not-grew-clause-full c = λ f fn want. ⊎_elim
    (λ full. full)
    (λ marked. absurd (c.in_ok-grew.ensures.full c.if-not-grew.true f ((c.order.ensures c.args.m.now c.requires.graph f).1 fn) marked))
    (c.in_ok-grew.ensures.settled.either f fn want)

pub loop-marks-preserved : goal.loop-marks-preserved
loop-marks-preserved c =
    let old = c.loop-marks.invariant in
    let made = c.in_ok-grew.ensures in
    let marks = c.loop-marks.marks in
    let was = old.settled.long in
    let is = made.settled.long in
    let before = old.sound.table.long in
    let after = made.sound.table.long in
    record {
      sound = made.sound;
      targets = made.targets;
      only = grows_then (IsMarked c.args.wanted.now) c.args.table.now c.loop-marks.table c.pass.new.table old.only made.only;
      settled = rw (lent_whole c.pass.new.marks marks.items marks.len (omega (arith, was, is, before, after)) marks.ok.0) made.settled;
    }

pub returns-then-not-grew-clause-only : goal.returns-then-not-grew-clause-only
returns-then-not-grew-clause-only c =
    grows_then (IsMarked c.args.wanted.now) c.args.table.now c.loop-marks.table c.pass.new.table c.loop-marks.invariant.only c.in_ok-grew.ensures.only
