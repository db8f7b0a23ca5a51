-- A sealed module has few functions and globals.
use Rattle.std.proofs.Common.{◌^◌, ◌<◌, length, refl, arith}
use Rattle.wasm_types.specs.declared.module.Module.{Module}
use Rattle.wasm_types.specs.declared.place.LimitKind.TheVariants as limit
use Rattle.wasm_types.specs.Spaces.{func_types, globals_of}
use Rattle.wasm_types.specs.Subset.{IsSealed}

pub few_functions : (m : Module) → IsSealed m → length (func_types m) < 2 ^ 32
few_functions m sealed = let le = sealed.limits limit.Functions 0 (length (func_types m)) (refl, refl) in omega (arith, le)

pub few_globals : (m : Module) → IsSealed m → length (globals_of m) < 2 ^ 32
few_globals m sealed = let le = sealed.limits limit.Globals 0 (length (globals_of m)) (refl, refl) in omega (arith, le)
