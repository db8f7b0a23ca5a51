use Rattle.std.proofs.Common.{subst}
use Rattle.wasm_types.specs.declared.module.Module.{Module}
use Rattle.call_graph.specs.Graph.{IsCallGraph}
use Rattle.call_graph.proofs.FewLemmas.{few_functions, few_globals}
use Rattle.call_graph.proofs.calls.graph.Goals as goal

pub graph_of-requires : goal.graph_of-requires
graph_of-requires c =
    let m = c.args.m.now in
    rw c.module.ensures.same (record { funcs = few_functions m c.module.ensures.sealed; globals = few_globals m c.module.ensures.sealed })

pub returns : goal.returns
returns c = subst (λ (z : Module). IsCallGraph z c.in_ok-graph.graph) c.module.ensures.same c.in_ok-graph.ensures
