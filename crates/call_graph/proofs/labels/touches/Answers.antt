use Rattle.std.proofs.Common.{rules, ◌≡◌, ◌++◌, ◌∷◌, [], get_or, sym}
use Rattle.std.proofs.lemmas.List.{get_or_default}
use Rattle.call_graph.specs.declared.acts.Act.{Act}
use Rattle.call_graph.specs.declared.deeds.Deed.TheVariants.{Calls}
use Rattle.call_graph.specs.Labels.{touch_root}
use Rattle.call_graph.proofs.Members.{picked_more, picked_skip}
use Rattle.call_graph.proofs.labels.touches.Goals as goal
use Rattle.call_graph.proofs.labels.touches.Goals.{in-Some+in_ok-map_err-in-Some, in-None}

pub loop-act-preserved : goal.loop-act-preserved
loop-act-preserved c =
    let d : Act = record { func = 0; deed = Calls 0 } in
    let i = c.loop-act.act-index in
    let act = get_or c.args.acts.now i d in
    let here : act ≡ get_or c.args.acts.now i act = get_or_default c.args.acts.now i d act c.loop-act-test.true in
    elim c.match-touched.branch [
      | in-Some+in_ok-map_err-in-Some w ↦
          let pushed : w.push.new.self.items ≡ c.loop-act.roots.items ++ w.in-Some.root ∷ [] = search rules in
          rw w.roots-is (picked_more touch_root c.args.acts.now i act c.loop-act-test.true here [] c.loop-act.roots.items
          c.loop-act.invariant w.in-Some.root w.push.new.self.items (sym w.in-Some.ensures) pushed)
      | in-None w ↦
          rw w.roots-is (picked_skip touch_root c.args.acts.now i act c.loop-act-test.true here [] c.loop-act.roots.items c.loop-act.invariant (sym w.in-None.ensures))
    ]
