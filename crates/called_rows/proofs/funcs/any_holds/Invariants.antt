use Rattle.std.proofs.Common.{take}
use Rattle.wasm_types.specs.declared.module.Module.{Module}
use Rattle.call_graph.specs.Graph.{IsCallGraph}
use Rattle.called_rows.specs.Funcs.{AnyOf, HasEffect}
use Rattle.called_rows.proofs.funcs.any_holds.Given as goal

abbrev pub invariant-loop-func : goal.invariant-loop-func
invariant-loop-func l = (m : Module) → IsCallGraph m l.graph → AnyOf (take l.func-index l.funcs) (λ f. HasEffect m l.effect f l.loc) → ⊥
