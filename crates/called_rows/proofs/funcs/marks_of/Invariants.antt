use Rattle.std.proofs.Common.{◌≡◌, ◌↔◌, ◌<◌, length}
use Rattle.wasm_types.specs.declared.module.Module.{Module}
use Rattle.wasm_types.specs.declared.place.Loc.{Loc}
use Rattle.call_graph.specs.Graph.{IsCallGraph}
use Rattle.called_rows.specs.Locs.{loc_number}
use Rattle.called_rows.specs.Locs.{IsMarkedAt}
use Rattle.called_rows.specs.Funcs.{AnyOf, HasEffect}
use Rattle.called_rows.proofs.funcs.marks_of.Given as goal

abbrev pub invariant-loop-index : goal.invariant-loop-index
invariant-loop-index l = record {
  long : length l.marks.items ≡ l.index;
  exact : (m : Module) → IsCallGraph m l.graph → (x : Loc) → loc_number l.globals x < l.index
      → IsMarkedAt l.globals l.marks.items x ↔ AnyOf l.funcs (λ f. HasEffect m l.effect f x);
}
