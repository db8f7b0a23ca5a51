use Rattle.std.proofs.Common.{◌↔◌, ◌<◌, ◌⊎◌, ℕ, length, take}
use Rattle.std.specs.Prelude.{Any}
use Rattle.std.specs.List.{Contains}
use Rattle.wasm_types.specs.declared.module.Elem.{Elem}
use Rattle.worklist.specs.Search.{IsMarked}
use Rattle.call_graph.proofs.classes.mark_named.Given as goal

abbrev pub invariant-loop-elem : goal.invariant-loop-elem
invariant-loop-elem l =
    (f : ℕ) → f < length l.marks → IsMarked l.marks f ↔ (IsMarked l.initial.marks f ⊎ Any (λ (e : Elem). Contains e.funcs f) (take l.elem-index l.elems))
