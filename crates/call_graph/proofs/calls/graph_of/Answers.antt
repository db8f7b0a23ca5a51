use Rattle.std.proofs.Common.{length}
use Rattle.call_graph.proofs.GraphLemmas.{graph_tells, acts_below}
use Rattle.call_graph.proofs.calls.graph_of.Goals as goal

pub returns : goal.returns
returns c =
    graph_tells c.args.m.now c.in_ok-classes.classes c.in_ok-classes.ensures.length c.in_ok-classes.ensures.exact c.in_ok-acts.acts.items c.in_ok-acts.ensures
    c.in_ok-classes.ensures.alike c.in_ok-graph.graph (rw c.deref.ensures.value at c.in_ok-graph.ensures)

pub graph_by-requires : goal.graph_by-requires
graph_by-requires c =
    rw c.deref.ensures.value (acts_below c.args.m.now (length c.in_ok-classes.classes.by_func.items) c.in_ok-acts.acts.items c.in_ok-classes.ensures.length
    c.in_ok-acts.ensures)
