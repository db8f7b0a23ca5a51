use Rattle.std.proofs.Common.{◌≡◌, sym, ◌∙◌, []}
use Rattle.std.specs.List.{Contains}
use Rattle.worklist.proofs.Searching.{search_begins, search_ends, turn_node, turn_below, turn_ends, nothing_left}
use Rattle.worklist.proofs.Listing.{lists_none}
use Rattle.worklist.proofs.search.Search.run.Goals as goal

pub loop-node-init : goal.loop-node-init
loop-node-init g c = record {
  length_is = c.in_ok-meet_each.ensures.length ∙ c.requires.length;
  searching =
      search_begins (Contains c.args.roots.now) (g.G.Graph.leads c.args.graph.now) c.args.self.now.marks.items c.meet_each.new.self.marks.items
      c.meet_each.new.self.waiting.items
      c.requires.clear (rw c.requires.waiting at c.in_ok-meet_each.ensures.meets);
  lists = c.in_ok-meet_each.ensures.lists (lists_none c.args.self.now.marks.items c.args.self.now.met.items c.requires.clear c.requires.met);
}

pub push_next-requires : goal.push_next-requires
push_next-requires g c =
    rw (← c.loop-node.invariant.length_is) (turn_node (Contains c.args.roots.now) (g.G.Graph.leads c.args.graph.now) c.loop-node.self.marks.items
    c.loop-node.self.waiting.items c.pop.new.self.items c.in-Some.node c.in-Some.ensures.items c.loop-node.invariant.searching)

pub meet_each-requires-in-Some : goal.meet_each-requires-in-Some
meet_each-requires-in-Some g c =
    turn_below (Contains c.args.roots.now) (g.G.Graph.leads c.args.graph.now) c.loop-node.self.marks.items c.loop-node.self.waiting.items c.pop.new.self.items
    c.in-Some.node c.in-Some.ensures.items c.loop-node.invariant.searching
    c.clear.new.self.items c.push_next.new.next.items c.deref.result.now c.clear.ensures.items c.in_ok-push_next.ensures c.deref.ensures.value
    (rw c.loop-node.invariant.length_is (λ x y lt e. g.met.G.Graph.stays c.args.graph.now x y lt e))

pub loop-node-preserved : goal.loop-node-preserved
loop-node-preserved g c = record {
  length_is = c.in_ok-meet_each-2.ensures.length ∙ c.loop-node.invariant.length_is;
  searching =
      turn_ends (Contains c.args.roots.now) (g.G.Graph.leads c.args.graph.now) c.loop-node.self.marks.items c.loop-node.self.waiting.items
      c.pop.new.self.items c.in-Some.node c.in-Some.ensures.items c.loop-node.invariant.searching
      c.clear.new.self.items c.push_next.new.next.items c.deref.result.now c.clear.ensures.items c.in_ok-push_next.ensures c.deref.ensures.value
      c.meet_each-in-Some.new.self.marks.items c.meet_each-in-Some.new.self.waiting.items c.in_ok-meet_each-2.ensures.meets;
  lists = c.in_ok-meet_each-2.ensures.lists c.loop-node.invariant.lists;
}

pub returns-clause-exact : goal.returns-clause-exact
returns-clause-exact g c =
    let ended = c.in_default.ensures in
    let none : c.loop-node.self.waiting.items ≡ [] = nothing_left c.loop-node.self.waiting.items (sym c.loop-node.self.waiting.ok.0 ∙ ended.cases.0) in
    search_ends (Contains c.args.roots.now) (g.G.Graph.leads c.args.graph.now) c.loop-node.self.marks.items (rw none at c.loop-node.invariant.searching)
