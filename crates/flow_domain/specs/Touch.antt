-- What the functions of a module touch, by the functions that they reach, and what decides whether calls stop (docs/ANALYSES.md, "What functions write").
use Rattle.std.specs.Prelude.{◌≡◌, ℕ, ◌||◌, Bool, true, Some}
use Rattle.wasm_types.specs.declared.module.Module.{Module}
use Rattle.wasm_types.specs.declared.instr.Instr.{Instr}
use Rattle.wasm_types.specs.declared.place.Loc.{Loc}
use Rattle.wasm_types.specs.Actions.{Action, Callee, Own, Through, Plain, form_of}
use Rattle.wasm_types.specs.Locations.{reads_in, checks_in, writes_in, is_outer}
use Rattle.wasm_types.specs.Hosts.{HostFunc, host_of, host_reads, host_writes}
use Rattle.wasm_types.specs.Funcs.{Func, func_of, text}
use Rattle.flow_domain.specs.Bounds.{Cover}
use Rattle.flow_domain.specs.Reach.{LiveIn, Reached, WritesExact}
use Rattle.flow_domain.specs.Rows.{Target}

-- the action reads, checks or writes the location
abbrev pub touches_in : Action → Loc → Bool
touches_in a x = reads_in a x || (checks_in a x || writes_in a x)

-- a call of the imported function does: what it reads it checks too
abbrev pub host_touches : HostFunc → Loc → Bool
host_touches H x = host_reads H x || host_writes H x

-- a reached function reads, checks or writes the location, locals left out
pub data MayTouch (m : Module) (f : ℕ) (x : Loc) : Type 0 where
  by_code : (g : ℕ) (F : Func) (op : Instr) (a : Action) → Reached m f g → func_of m g ≡ Some F → LiveIn op (text F) → form_of op ≡ Plain a
      → touches_in a x ≡ true → is_outer x ≡ true → MayTouch m f x
  by_host : (g : ℕ) (H : HostFunc) → Reached m f g → host_of m g ≡ Some H → host_touches H x ≡ true → MayTouch m f x

-- what decides whether a call itself stops: one by number is decided by its callee's row, one through the table by all that its targets touch
abbrev pub CalleeTouches : Module → Callee → Loc → Type 0
CalleeTouches m (Own f) x = ⊥
CalleeTouches m (Through t n) x = (f : ℕ) × Target m t f × MayTouch m f x

abbrev pub TouchExact : Module → Cover → Type 0
TouchExact m W = (g : Callee) (x : Loc) → (W.touch g x ≡ true → CalleeTouches m g x) × (CalleeTouches m g x → W.touch g x ≡ true)

-- the sets of a cover are just what callees write and what decides their calls
pub record IsExact (m : Module) (W : Cover) : Type 0 where
  pub writes : WritesExact m W
  pub touch : TouchExact m W
