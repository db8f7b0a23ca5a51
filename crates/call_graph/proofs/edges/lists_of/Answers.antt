use Rattle.std.proofs.Common.{◌≡◌, ◌↔◌, ◌<◌, ◌⊎◌, ℕ, length, get_or, take, subst, ◌∙◌, arith}
use Rattle.std.specs.List.{Contains}
use Rattle.std.proofs.Math.Seq.{take_all}
use Rattle.std.proofs.lemmas.List.{get_or_default}
use Rattle.std.proofs.lemmas.List.Elements.{All-contains, Contains-get_or}
use Rattle.worklist.specs.Lists.{Has}
use Rattle.call_graph.specs.declared.edges.Edge.{Edge}
use Rattle.call_graph.specs.Edges.{edge_along}
use Rattle.call_graph.proofs.EdgeLemmas.{entry_below, list_below, lists_more}
use Rattle.call_graph.proofs.Listing.{rows_below}
use Rattle.call_graph.proofs.Members.{none_in}
use Rattle.call_graph.proofs.edges.lists_of.Goals as goal

pub loop-edge-init : goal.loop-edge-init
loop-edge-init c = record {
  count = c.in_ok-next.ensures.length;
  exact = λ x y. (
    λ h. absurd (c.in_ok-next.ensures.none x y h),
    λ h. absurd (none_in (edge_along c.args.way (let e : Edge = record { from = x; to = y } in e)) h),
  );
}

pub push_at-requires : goal.push_at-requires
push_at-requires c =
    let edges = c.args.edges.now in
    let i = c.loop-edge.edge-index in
    let d : Edge = record { from = 0; to = 0 } in
    let edge = get_or edges i d in
    let there = Contains-get_or edges i d c.loop-edge-test.true in
    let ends = All-contains (λ (e : Edge). (e.from < c.args.count) × (e.to < c.args.count)) edges edge c.requires there in
    let lt = list_below c.args.way c.args.count edge ends in
    let count = c.loop-edge.invariant.count in
    rw c.along-edge.ensures (omega (arith, lt, count))

pub loop-edge-preserved : goal.loop-edge-preserved
loop-edge-preserved c =
    let edges = c.args.edges.now in
    let i = c.loop-edge.edge-index in
    let d : Edge = record { from = 0; to = 0 } in
    let edge = get_or edges i d in
    let here : edge ≡ get_or edges i edge = get_or_default edges i d edge c.loop-edge-test.true in
    let Old = Has c.loop-edge.next.items in
    let New = Has c.push_at.new.lists.items in
    record {
      count = c.in_ok-push_at.ensures.length ∙ c.loop-edge.invariant.count;
      exact = lists_more edges i edge c.loop-edge-test.true here c.args.way Old New
          (subst (λ (z : Edge). (x y : ℕ) → New x y ↔ (Old x y ⊎ ((x ≡ z.from) × (y ≡ z.to)))) c.along-edge.ensures c.in_ok-push_at.ensures.gains)
          c.loop-edge.invariant.exact;
    }

pub returns-clause-exact : goal.returns-clause-exact
returns-clause-exact c = λ x y.
    let edges = c.args.edges.now in
    let whole : take c.loop-edge.edge-index edges ≡ edges = take_all c.loop-edge.edge-index edges (omega arith) in
    let edge : Edge = edge_along c.args.way (record { from = x; to = y }) in
    subst (λ es. Has c.loop-edge.next.items x y ↔ Contains es edge) whole (c.loop-edge.invariant.exact x y)

pub invariant_of-result : goal.invariant_of-result
invariant_of-result c =
    let edges = c.args.edges.now in
    let whole : take c.loop-edge.edge-index edges ≡ edges = take_all c.loop-edge.edge-index edges (omega arith) in
    let below : (x y : ℕ) → Has c.loop-edge.next.items x y → y < length c.loop-edge.next.items = λ x y h.
    let edge : Edge = edge_along c.args.way (record { from = x; to = y }) in
    let k : Contains edges edge = subst (λ es. Contains es edge) whole ((c.loop-edge.invariant.exact x y).0 h) in
    let ends = All-contains (λ (e : Edge). (e.from < c.args.count) × (e.to < c.args.count)) edges edge c.requires k in
    let lt = entry_below c.args.way c.args.count x y ends in
    let count = c.loop-edge.invariant.count in omega (arith, lt, count) in
    record { below = rows_below (length c.loop-edge.next.items) c.loop-edge.next.items below }
