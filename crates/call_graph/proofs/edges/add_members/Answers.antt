use Rattle.std.proofs.Common.{rules, ◌≡◌, ◌+◌, ◌<◌, ◌++◌, ◌∷◌, [], List, Option, None, Some, ℕ, length, get_or, sym, ap, ◌∙◌, arith}
use Rattle.std.specs.Prelude.{slice_get}
use Rattle.std.proofs.lemmas.Option.{slice_get-get_or, slice_get_within}
use Rattle.call_graph.specs.declared.edges.Edge.{Edge}
use Rattle.call_graph.specs.Edges.{functions}
use Rattle.call_graph.proofs.EdgeLemmas.{members_more, members_skip, members_all}
use Rattle.call_graph.proofs.edges.add_members.Goals as goal
use Rattle.call_graph.proofs.edges.add_members.Goals.{in-Some+in_ok-map_err-in-Some, in-None}

pub loop-func-preserved : goal.loop-func-preserved
loop-func-preserved c =
    let classes = c.args.classes.now in
    let i = c.loop-func.func in
    let same = c.deref-class-items.ensures.value in
    let long = ap length same in
    let lt : i < length classes.by_func.items = omega arith in
    let at : slice_get classes.by_func.items i ≡ Some (get_or c.deref-class-items.result.now i None) =
    slice_get-get_or classes.by_func.items i None lt ∙ ap (λ (xs : List (Option ℕ)). Some (get_or xs i None)) (sym same) in
    elim c.match-class.branch [
      | in-Some+in_ok-map_err-in-Some w ↦
          let edge : Edge = record { from = functions classes + w.in-Some.class; to = i } in
          let pushed : w.push.new.self.items ≡ c.loop-func.edges.items ++ edge ∷ [] = search rules in
          rw w.edges-is (members_more classes c.args.edges.now.items c.loop-func.edges.items i c.loop-func.invariant w.in-Some.class w.push.new.self.items
          (at ∙ ap Some w.in-Some.is) pushed)
      | in-None w ↦
          rw w.edges-is (members_skip classes c.args.edges.now.items c.loop-func.edges.items i c.loop-func.invariant (at ∙ ap Some w.in-None.is))
    ]

pub returns : goal.returns
returns c =
    let classes = c.args.classes.now in
    let long = ap length c.deref-class-items.ensures.value in
    members_all classes c.args.edges.now.items c.loop-func.edges.items c.loop-func.func (omega arith) c.loop-func.invariant
    (λ f k is. slice_get_within classes.by_func.items f (Some k) is)
