-- Which bodies have points.
use Rattle.std.specs.Prelude.{◌≡◌, ℕ, Some}
use Rattle.wasm_types.specs.declared.module.Body.{Body}
use Rattle.wasm_types.specs.declared.module.Module.{Module}
use Rattle.wasm_types.specs.Spaces.{HasBody, body_of}
use Rattle.wasm_types.specs.Subset.{IsSealed}
use Rattle.block_cfg.specs.Points.{HasPoints}

-- each body of a sealed module
abbrev pub BodiesHavePoints : Type 0
BodiesHavePoints = (m : Module) (f : ℕ) (b : Body) → IsSealed m → HasBody m f b → HasPoints b

-- and so each that is answered for a function
abbrev pub AnsweredBodiesHavePoints : Type 0
AnsweredBodiesHavePoints = (m : Module) (f : ℕ) (b : Body) → IsSealed m → body_of m f ≡ Some b → HasPoints b
