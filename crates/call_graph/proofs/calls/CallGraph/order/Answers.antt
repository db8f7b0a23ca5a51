use Rattle.std.proofs.Common.{◌↔◌, ℕ, List, subst, sym}
use Rattle.std.specs.List.{Contains}
use Rattle.wasm_types.specs.Hosts.{IsFunction}
use Rattle.call_graph.proofs.calls.CallGraph.order.Goals as goal

pub returns : goal.returns
returns c = λ m g f. subst (λ (xs : List ℕ). Contains xs f ↔ IsFunction m f) (sym c.deref.ensures.value) (g.order f)
