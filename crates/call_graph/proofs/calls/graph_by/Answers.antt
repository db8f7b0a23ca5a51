use Rattle.std.proofs.Common.{◌≡◌, ◌↔◌, ◌<◌, ◌≤◌, ℕ, List, length, refl, sym, subst, ◌∙◌, arith}
use Rattle.std.specs.List.{Contains, filter_map}
use Rattle.worklist.specs.Lists.{Has}
use Rattle.call_graph.specs.declared.edges.Way.TheVariants.{Callees, Callers}
use Rattle.call_graph.specs.Edges.{functions}
use Rattle.call_graph.specs.Labels.{touch_root, write_root}
use Rattle.call_graph.proofs.BuildLemmas.{all_within, listed_by, spread_by, touch_nodes, write_nodes}
use Rattle.call_graph.proofs.calls.graph_by.Goals as goal

pub order_by-requires : goal.order_by-requires
order_by-requires c =
    let classes = c.args.classes in
    rw c.deref.ensures.value (all_within classes c.args.acts.now c.in_ok-edges.edges.items c.in_ok-edges.ensures c.requires classes.below_func
    classes.below_type c.count_nodes-nodes.result c.count_nodes-nodes.ensures)

pub lists_of-requires : goal.lists_of-requires
lists_of-requires c =
    let classes = c.args.classes in
    rw c.deref-2.ensures.value (all_within classes c.args.acts.now c.in_ok-edges.edges.items c.in_ok-edges.ensures c.requires classes.below_func
    classes.below_type c.count_nodes-nodes.result c.count_nodes-nodes.ensures)

pub lists_of-requires-2 : goal.lists_of-requires-2
lists_of-requires-2 c =
    let classes = c.args.classes in
    rw c.deref-3.ensures.value (all_within classes c.args.acts.now c.in_ok-edges.edges.items c.in_ok-edges.ensures c.requires classes.below_func
    classes.below_type c.count_nodes-nodes.result c.count_nodes-nodes.ensures)

pub spread-requires-clause-order : goal.spread-requires-clause-order
spread-requires-clause-order c = rw (c.deref-4.ensures.value, c.in_ok-callers.ensures.length) c.in_ok-order.ensures

pub spread-requires-2-clause-order : goal.spread-requires-2-clause-order
spread-requires-2-clause-order c = rw (c.deref-6.ensures.value, c.in_ok-callers.ensures.length) c.in_ok-order.ensures

pub spread-requires-clause-nodes : goal.spread-requires-clause-nodes
spread-requires-clause-nodes c =
    let nodes = c.count_nodes-nodes.result in
    let n = functions c.args.classes in
    let le : n ≤ nodes = omega (arith, c.count_nodes-nodes.ensures) in
    rw (c.deref-5.ensures.value, c.in_ok-callers.ensures.length) (touch_nodes c.args.acts.now n nodes le c.requires c.in_ok-touched.touched.items
    c.in_ok-touched.ensures)

pub spread-requires-2-clause-nodes : goal.spread-requires-2-clause-nodes
spread-requires-2-clause-nodes c =
    let nodes = c.count_nodes-nodes.result in
    let n = functions c.args.classes in
    let le : n ≤ nodes = omega (arith, c.count_nodes-nodes.ensures) in
    rw (c.deref-7.ensures.value, c.in_ok-callers.ensures.length) (write_nodes c.args.acts.now n nodes le c.requires c.in_ok-written.written.items
    c.in_ok-written.ensures)

pub returns : goal.returns
returns c =
    let classes = c.args.classes in
    let acts = c.args.acts.now in
    let edges = c.in_ok-edges.edges.items in
    let exact = c.in_ok-edges.ensures in
    let next = c.in_ok-callers.callers.next.items in
    let callees = c.in_ok-callees.callees.next.items in
    let count : c.len-count.result ≡ functions classes = c.len-count.ensures ∙ classes.by_func.ok.0 in
    let turned : (x y : ℕ) → Has next x y ↔ Contains edges (record { from = y; to = x }) =
    listed_by classes acts edges exact Callers next c.deref-3.result.now c.deref-3.ensures.value c.in_ok-callers.ensures.exact in
    let listed : (x y : ℕ) → Has callees x y ↔ Contains edges (record { from = x; to = y }) =
    listed_by classes acts edges exact Callees callees c.deref-2.result.now c.deref-2.ensures.value c.in_ok-callees.ensures.exact in
    record {
      same = refl;
      nodes = let long = c.in_ok-callees.ensures.length in let all = c.count_nodes-nodes.ensures in omega (arith, long, all);
      callees = λ f y. (
        λ h. (exact (record { from = f; to = y })).0 ((listed f y).0 h),
        λ e. (listed f y).1 ((exact (record { from = f; to = y })).1 e),
      );
      callers = λ f y. (
        λ h. (exact (record { from = f; to = y })).0 ((turned y f).0 h),
        λ e. (turned y f).1 ((exact (record { from = f; to = y })).1 e),
      );
      touches =
          spread_by classes acts edges exact next (filter_map touch_root acts) c.deref-5.result.now c.in_ok-touches.touches c.len-count.result count
          (c.deref-5.ensures.value ∙ c.in_ok-touched.ensures) turned c.in_ok-touches.ensures;
      writes =
          spread_by classes acts edges exact next (filter_map write_root acts) c.deref-7.result.now c.in_ok-writes.writes c.len-count.result count
          (c.deref-7.ensures.value ∙ c.in_ok-written.ensures) turned c.in_ok-writes.ensures;
      members = c.in_ok-members.ensures;
      order = λ f. (
        λ h. subst (λ (n : ℕ). f < n) count ((c.in_ok-functions.ensures f).0 h).1,
        λ lt.
            let within : f < c.count_nodes-nodes.result = omega (arith, lt, c.count_nodes-nodes.ensures) in
            (c.in_ok-functions.ensures f).1 (
              subst (λ (xs : List ℕ). Contains xs f) (sym c.deref-8.ensures.value) ((c.in_ok-order.ensures f).1 within),
              subst (λ (n : ℕ). f < n) (sym count) lt,
            ),
      );
    }
