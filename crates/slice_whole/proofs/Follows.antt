-- Slices follow their originals.
use Rattle.std.proofs.Common.{length, [], ◌∷◌}
use Rattle.wasm_types.specs.declared.module.Module.{Module}
use Rattle.wasm_types.specs.Validity.{IsValid}
use Rattle.wasm_types.specs.Subset.{HasNoFloat}
use Rattle.wasm_types.specs.Actions.{callees}
use Rattle.wasm_types.specs.Funcs.{unwatched}
use Rattle.flow_domain.specs.Sliced.{context_of}
use Rattle.flow_laws.specs.Calls.{HasHeights, AnyInstr}
use Rattle.flow_laws.proofs.KeptServes.{sliced_returns}
use Rattle.stack_repair.specs.Law.{HasTypes}
use Rattle.stack_repair.proofs.Bodies.{valid_has_heights}
use Rattle.stack_repair.proofs.Heights.{shaped_weaker}
use Rattle.slice_whole.specs.Law.{SliceFollows}

heights : (m : Module) → IsValid m → HasNoFloat m → HasHeights m
heights m valid integer f t b is has =
    shaped_weaker (callees m) (HasTypes (context_of m t b)) AnyInstr (λ op h. tt) (length t.results ∷ []) (length t.results) _ 0
    (valid_has_heights m t b (record { valid = valid; no_float = integer; func = f; kind_is = is; has_body = has }) unwatched)

pub slice_follows : SliceFollows
slice_follows m valid integer f i name new at sl = sliced_returns m valid (heights m valid integer) f i name new at sl
