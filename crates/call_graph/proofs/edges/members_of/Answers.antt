use Rattle.std.proofs.Common.{◌≡◌, ◌<◌, List, Option, None, Some, ℕ, length, get_or, sym, ap, ◌∙◌, arith}
use Rattle.std.specs.Prelude.{slice_get}
use Rattle.std.proofs.lemmas.Option.{slice_get-get_or, slice_get_within}
use Rattle.worklist.specs.Lists.{Has}
use Rattle.call_graph.proofs.EdgeLemmas.{listed_more, listed_skip}
use Rattle.call_graph.proofs.edges.members_of.Goals as goal
use Rattle.call_graph.proofs.edges.members_of.Goals.{in-Some+in_ok-push_at-in-Some, in-None}

pub loop-func-init : goal.loop-func-init
loop-func-init c = record {
  count = c.in_ok-lists.ensures.length;
  exact = λ k f. (λ h. absurd (c.in_ok-lists.ensures.none k f h), λ p. let lt = p.0 in absurd (omega (arith, lt)));
}

pub push_at-requires : goal.push_at-requires
push_at-requires c =
    let classes = c.args.classes.now in
    let i = c.loop-func.func in
    let same = c.deref-class-items.ensures.value in
    let long = ap length same in
    let lt : i < length classes.by_func.items = omega arith in
    let at : slice_get classes.by_func.items i ≡ Some (get_or c.deref-class-items.result.now i None) =
    slice_get-get_or classes.by_func.items i None lt ∙ ap (λ (xs : List (Option ℕ)). Some (get_or xs i None)) (sym same) in
    let below = classes.below_func i c.in-Some.class (at ∙ ap Some c.in-Some.is) in
    let count = c.loop-func.invariant.count in
    omega (arith, below, count)

pub loop-func-preserved : goal.loop-func-preserved
loop-func-preserved c =
    let classes = c.args.classes.now in
    let i = c.loop-func.func in
    let same = c.deref-class-items.ensures.value in
    let long = ap length same in
    let lt : i < length classes.by_func.items = omega arith in
    let at : slice_get classes.by_func.items i ≡ Some (get_or c.deref-class-items.result.now i None) =
    slice_get-get_or classes.by_func.items i None lt ∙ ap (λ (xs : List (Option ℕ)). Some (get_or xs i None)) (sym same) in
    elim c.match-class.branch [
      | in-Some+in_ok-push_at-in-Some w ↦
          rw w.lists-is (record {
            count = w.in_ok-push_at-in-Some.ensures.length ∙ c.loop-func.invariant.count;
            exact =
                listed_more classes (Has c.loop-func.lists.items) i c.loop-func.invariant.exact w.in-Some.class (Has w.push_at.new.lists.items)
                (at ∙ ap Some w.in-Some.is) w.in_ok-push_at-in-Some.ensures.gains;
          })
      | in-None w ↦
          rw w.lists-is (record {
            count = c.loop-func.invariant.count;
            exact = listed_skip classes (Has c.loop-func.lists.items) i c.loop-func.invariant.exact (at ∙ ap Some w.in-None.is);
          })
    ]

pub returns : goal.returns
returns c =
    let classes = c.args.classes.now in
    let long = ap length c.deref-class-items.ensures.value in
    λ k f. (
      λ h. ((c.loop-func.invariant.exact k f).0 h).1,
      λ is. let lt = slice_get_within classes.by_func.items f (Some k) is in (c.loop-func.invariant.exact k f).1 (omega (arith, lt, long), is),
    )
