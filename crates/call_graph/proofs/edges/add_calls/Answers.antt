use Rattle.std.proofs.Common.{rules, ◌≡◌, ◌++◌, ◌∷◌, [], get_or, sym}
use Rattle.std.proofs.lemmas.List.{get_or_default}
use Rattle.call_graph.specs.declared.acts.Act.{Act}
use Rattle.call_graph.specs.declared.deeds.Deed.TheVariants.{Calls}
use Rattle.call_graph.specs.declared.edges.Edge.{Edge}
use Rattle.call_graph.specs.Edges.{edge_of}
use Rattle.call_graph.proofs.EdgeLemmas.{edge_is, edge_none}
use Rattle.call_graph.proofs.Members.{picked_more, picked_skip}
use Rattle.call_graph.proofs.edges.add_calls.Goals as goal
use Rattle.call_graph.proofs.edges.add_calls.Goals.{in-Some+in_ok-map_err-in-Some, in-None}

pub loop-act-preserved : goal.loop-act-preserved
loop-act-preserved c =
    let classes = c.args.classes.now in
    let d : Act = record { func = 0; deed = Calls 0 } in
    let i = c.loop-act.act-index in
    let act = get_or c.args.acts.now i d in
    let here : act ≡ get_or c.args.acts.now i act = get_or_default c.args.acts.now i d act c.loop-act-test.true in
    elim c.match-target.branch [
      | in-Some+in_ok-map_err-in-Some w ↦
          let edge : Edge = record { from = act.func; to = w.in-Some.to } in
          let pushed : w.push.new.self.items ≡ c.loop-act.edges.items ++ edge ∷ [] = search rules in
          rw w.edges-is (picked_more (edge_of classes) c.args.acts.now i act c.loop-act-test.true here c.args.edges.now.items
          c.loop-act.edges.items c.loop-act.invariant edge w.push.new.self.items (edge_is classes act w.in-Some.to (sym w.in-Some.ensures)) pushed)
      | in-None w ↦
          rw w.edges-is (picked_skip (edge_of classes) c.args.acts.now i act c.loop-act-test.true here c.args.edges.now.items
          c.loop-act.edges.items c.loop-act.invariant (edge_none classes act (sym w.in-None.ensures)))
    ]
