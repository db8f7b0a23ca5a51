use Rattle.std.proofs.Common.{◌<◌, ℕ}
use Rattle.sparse_reach.proofs.Batching.{bit_is_led, led_below}
use Rattle.sparse_reach.proofs.labels.reach_sparse.Goals as goal

pub returns-clause-exact : goal.returns-clause-exact
returns-clause-exact g c = λ x o lt.
    let roots = c.args.roots.now in
    let Leads : ℕ → ℕ → Type 0 = g.G.Graph.leads c.args.graph.now in
    let met = c.in_ok-nodes.field-0 in
    let nodes = met.nodes.keys in
    let labels = c.in_ok-labels.labels.items in
    let stays : (y z : ℕ) → y < g.G.Graph.node_count c.args.graph.now → Leads y z → z < g.G.Graph.node_count c.args.graph.now =
    λ y z below e. g.met.G.Graph.stays c.args.graph.now y z below e in
    let led = bit_is_led c.node_count.result c.args.labels nodes c.len.ensures.unique labels roots met.starts.items met.edges.items Leads
    c.in_ok-labels.ensures.enough (rw (c.deref.ensures.value, c.deref-2.ensures.value) at c.in_ok-labels.ensures.exact) c.in_ok-nodes.ensures.exact x o lt
    (λ y h. rw c.node_count.ensures (led_below (g.G.Graph.node_count c.args.graph.now) c.args.labels roots Leads c.requires stays o y h)) in
    rw (c.in_ok-table.ensures.words, c.in_ok-table.ensures.bits) led
