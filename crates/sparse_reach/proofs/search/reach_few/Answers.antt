use Rattle.std.proofs.Common.{◌≡◌, [], length, sym, ◌∙◌, arith}
use Rattle.std.specs.List.{Contains}
use Rattle.worklist.proofs.Searching.{search_begins, search_ends, turn_ends, nothing_left}
use Rattle.sparse_reach.specs.Flags.{flags}
use Rattle.sparse_reach.proofs.Meeting.{turn_below, next_below}
use Rattle.sparse_reach.proofs.search.reach_few.Goals as goal

pub loop-node-init : goal.loop-node-init
loop-node-init g c = record {
  enough = omega (arith, c.in_ok-search.ensures.enough, c.in_ok-meet_each.ensures.length, c.node_count.ensures);
  searching =
      search_begins (Contains c.args.roots.now) (g.G.Graph.leads c.args.graph.now) (flags c.in_ok-search.search.marks.words)
      (flags c.meet_each.new.self.marks.words) c.meet_each.new.self.waiting.items
      c.in_ok-search.ensures.clear (rw c.in_ok-search.ensures.waiting at c.in_ok-meet_each.ensures.meets);
}

pub push_next-requires : goal.push_next-requires
push_next-requires g c =
    turn_below (g.G.Graph.leads c.args.graph.now) (g.G.Graph.node_count c.args.graph.now) c.args.roots.now c.requires
    (λ x y lt e. g.met.G.Graph.stays c.args.graph.now x y lt e) (flags c.loop-node.search.marks.words) c.loop-node.search.waiting.items
    c.pop.new.self.items c.in-Some.node c.in-Some.ensures.items c.loop-node.invariant.searching

pub meet_each-requires-in-Some : goal.meet_each-requires-in-Some
meet_each-requires-in-Some g c =
    next_below (g.G.Graph.leads c.args.graph.now) (g.G.Graph.node_count c.args.graph.now) (length (flags c.loop-node.search.marks.words)) c.in-Some.node
    (λ x y lt e. g.met.G.Graph.stays c.args.graph.now x y lt e) c.loop-node.invariant.enough
    (turn_below (g.G.Graph.leads c.args.graph.now) (g.G.Graph.node_count c.args.graph.now) c.args.roots.now c.requires
    (λ x y lt e. g.met.G.Graph.stays c.args.graph.now x y lt e) (flags c.loop-node.search.marks.words) c.loop-node.search.waiting.items
    c.pop.new.self.items c.in-Some.node c.in-Some.ensures.items c.loop-node.invariant.searching)
    c.clear.new.self.items c.push_next.new.next.items c.deref.result.now c.clear.ensures.items c.in_ok-push_next.ensures c.deref.ensures.value

pub loop-node-preserved : goal.loop-node-preserved
loop-node-preserved g c = record {
  enough = omega (arith, c.loop-node.invariant.enough, c.in_ok-meet_each-2.ensures.length);
  searching =
      turn_ends (Contains c.args.roots.now) (g.G.Graph.leads c.args.graph.now) (flags c.loop-node.search.marks.words) c.loop-node.search.waiting.items
      c.pop.new.self.items c.in-Some.node c.in-Some.ensures.items c.loop-node.invariant.searching
      c.clear.new.self.items c.push_next.new.next.items c.deref.result.now c.clear.ensures.items c.in_ok-push_next.ensures c.deref.ensures.value
      (flags c.meet_each-in-Some.new.self.marks.words) c.meet_each-in-Some.new.self.waiting.items c.in_ok-meet_each-2.ensures.meets;
}

pub returns-clause-exact : goal.returns-clause-exact
returns-clause-exact g c =
    let ended = c.in_default.ensures in
    let none : c.loop-node.search.waiting.items ≡ [] = nothing_left c.loop-node.search.waiting.items (sym c.loop-node.search.waiting.ok.0 ∙ ended.cases.0) in
    search_ends (Contains c.args.roots.now) (g.G.Graph.leads c.args.graph.now) (flags c.loop-node.search.marks.words)
    (rw none at c.loop-node.invariant.searching)
