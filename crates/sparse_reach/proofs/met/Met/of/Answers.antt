use Rattle.std.proofs.Common.{◌≡◌, ℕ, List, [], sym, ◌∙◌, subst}
use Rattle.worklist.specs.declared.labels.Root.{Root}
use Rattle.worklist.proofs.Searching.{nothing_left}
use Rattle.sparse_reach.proofs.Numbering.{Asked, asked_none, asked_next, asked_below, starts_below, edges_below, by_number, waiting_last}
use Rattle.sparse_reach.proofs.met.Met.of.Goals as goal

pub loop-turn-init : goal.loop-turn-init
loop-turn-init g c =
    asked_none c.args.roots.now (g.G.Graph.leads c.args.graph.now) c.in_ok-met.met.nodes.keys c.in_ok-met.met.waiting.items c.in_ok-met.met.starts.items
    c.in_ok-met.met.edges.items c.in_ok-met.ensures.starts c.in_ok-met.ensures.edges

pub returns-in_default-clause-starts : goal.returns-in_default-clause-starts
returns-in_default-clause-starts g c =
    starts_below c.args.roots.now (g.G.Graph.leads c.args.graph.now) c.loop-turn.met.nodes.keys c.loop-turn.met.waiting.items c.loop-turn.met.starts.items
    c.loop-turn.met.edges.items c.loop-turn.invariant

pub returns-in_default-clause-edges : goal.returns-in_default-clause-edges
returns-in_default-clause-edges g c =
    edges_below c.args.roots.now (g.G.Graph.leads c.args.graph.now) c.loop-turn.met.nodes.keys c.loop-turn.met.waiting.items c.loop-turn.met.starts.items
    c.loop-turn.met.edges.items c.loop-turn.invariant

pub returns-in_default-clause-exact : goal.returns-in_default-clause-exact
returns-in_default-clause-exact g c =
    let none : c.loop-turn.met.waiting.items ≡ [] = nothing_left c.loop-turn.met.waiting.items (sym c.loop-turn.met.waiting.ok.0
    ∙ c.in_default.ensures.cases.0) in
    by_number c.args.roots.now (g.G.Graph.leads c.args.graph.now) c.loop-turn.met.nodes.keys c.loop-turn.met.waiting.items c.loop-turn.met.starts.items
    c.loop-turn.met.edges.items c.loop-turn.invariant none

pub node-requires : goal.node-requires
node-requires g c =
    waiting_last c.args.roots.now (g.G.Graph.leads c.args.graph.now) c.loop-turn.met.nodes.keys c.loop-turn.met.waiting.items c.loop-turn.met.starts.items
    c.loop-turn.met.edges.items c.loop-turn.invariant c.pop.new.self.items c.in-Some.number c.in-Some.ensures.items

pub push_next-requires : goal.push_next-requires
push_next-requires g c =
    asked_below c.args.roots.now (g.G.Graph.leads c.args.graph.now) c.loop-turn.met.nodes.keys c.loop-turn.met.waiting.items c.loop-turn.met.starts.items
    c.loop-turn.met.edges.items c.loop-turn.invariant (g.G.Graph.node_count c.args.graph.now) c.requires
    (λ x y lt e. g.met.G.Graph.stays c.args.graph.now x y lt e) c.node.result c.in-Some.number c.node.ensures

pub loop-turn-preserved : goal.loop-turn-preserved
loop-turn-preserved g c =
    let roots = c.args.roots.now in
    let Leads : ℕ → ℕ → Type 0 = g.G.Graph.leads c.args.graph.now in
    let new = c.lead_each.new.self in
    let asked = asked_next roots Leads c.loop-turn.met.waiting.items c.in-Some.number c.node.result c.loop-turn.met.nodes.keys new.nodes.keys
    c.pop.new.self.items new.waiting.items c.loop-turn.met.starts.items c.loop-turn.met.edges.items new.edges.items c.in-Some.ensures.items c.node.ensures
    c.loop-turn.invariant c.clear.new.self.items c.push_next.new.next.items c.deref.result.now c.clear.ensures.items c.in_ok-push_next.ensures
    c.deref.ensures.value c.in_ok-lead_each.ensures.leads in
    subst (λ (starts : List Root). Asked roots Leads new.nodes.keys new.waiting.items starts new.edges.items) (sym {A = List Root} c.in_ok-lead_each.ensures.starts) asked
