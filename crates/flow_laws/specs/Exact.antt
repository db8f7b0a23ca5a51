-- A cover by the functions that a function reaches.
use Rattle.wasm_types.specs.declared.module.Module.{Module}
use Rattle.wasm_types.specs.Validity.{IsValid}
use Rattle.flow_domain.specs.Bounds.{Cover, bounds}
use Rattle.flow_domain.specs.Reach.{WritesExact}
use Rattle.flow_laws.specs.Calls.{ModuleOk, HasHeights}

-- The sets by the functions that are reached are sets that the laws ask for.
abbrev pub ExactServes : Type 0
ExactServes = (m : Module) (W : Cover) → IsValid m → HasHeights m → WritesExact m W → ModuleOk (bounds m W)
