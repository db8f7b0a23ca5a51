-- What the functions of a module write, by the functions that they reach (docs/ANALYSES.md, "What functions write").
use Rattle.std.specs.Prelude.{◌≡◌, ℕ, ◌⊎◌, true, Some}
use Rattle.wasm_types.specs.declared.module.Module.{Module}
use Rattle.wasm_types.specs.declared.instr.Instr.{Instr}
use Rattle.wasm_types.specs.declared.place.Loc.{Loc}
use Rattle.wasm_types.specs.Marked.{Marked, End, Do, Block, Loop, If, Br, BrIf, BrTable, Return, Unreachable}
use Rattle.wasm_types.specs.Actions.{Callee, Own, Through, Action, Plain, CallOf, CallBy, form_of}
use Rattle.wasm_types.specs.Locations.{writes_in, is_outer}
use Rattle.wasm_types.specs.Hosts.{HostFunc, host_of, host_writes}
use Rattle.wasm_types.specs.Funcs.{Func, func_of, text}
use Rattle.flow_domain.specs.Bounds.{Cover}
use Rattle.flow_domain.specs.Rows.{Target}

-- the instruction stands at a live position
abbrev pub LiveIn : Instr → Marked → Type 0
LiveIn op End = ⊥
LiveIn op (Do m o rest) = (o ≡ op) ⊎ LiveIn op rest
LiveIn op (Block m t body rest) = LiveIn op body ⊎ LiveIn op rest
LiveIn op (Loop m t body rest) = LiveIn op body ⊎ LiveIn op rest
LiveIn op (If m t x y rest) = LiveIn op x ⊎ (LiveIn op y ⊎ LiveIn op rest)
LiveIn op (Br m l rest) = ⊥
LiveIn op (BrIf m l rest) = LiveIn op rest
LiveIn op (BrTable m labels other rest) = ⊥
LiveIn op (Return m rest) = ⊥
LiveIn op (Unreachable m rest) = ⊥

-- function f calls function g at a live position, or g is a target of a call through the table there
pub data CallsFunc (m : Module) (f g : ℕ) : Type 0 where
  by_number : (F : Func) (op : Instr) → func_of m f ≡ Some F → LiveIn op (text F) → form_of op ≡ CallOf g → CallsFunc m f g
  by_table : (F : Func) (op : Instr) (t : ℕ) → func_of m f ≡ Some F → LiveIn op (text F) → form_of op ≡ CallBy t → Target m t g → CallsFunc m f g

-- by calls, one after another
pub data Reached (m : Module) : ℕ → ℕ → Type 0 where
  itself : {f : ℕ} → Reached m f f
  after_call : {f h : ℕ} (g : ℕ) → CallsFunc m f g → Reached m g h → Reached m f h

-- a reached function writes the location, locals left out
pub data MayWrite (m : Module) (f : ℕ) (x : Loc) : Type 0 where
  by_code : (g : ℕ) (F : Func) (op : Instr) (a : Action) → Reached m f g → func_of m g ≡ Some F → LiveIn op (text F) → form_of op ≡ Plain a
      → writes_in a x ≡ true → is_outer x ≡ true → MayWrite m f x
  by_host : (g : ℕ) (H : HostFunc) → Reached m f g → host_of m g ≡ Some H → host_writes H x ≡ true → MayWrite m f x

-- through the table one of the targets does
abbrev pub CalleeWrites : Module → Callee → Loc → Type 0
CalleeWrites m (Own f) x = MayWrite m f x
CalleeWrites m (Through t n) x = (f : ℕ) × Target m t f × MayWrite m f x

-- the callees' sets are just that
abbrev pub WritesExact : Module → Cover → Type 0
WritesExact m W = (g : Callee) (x : Loc) → (W.writes g x ≡ true → CalleeWrites m g x) × (CalleeWrites m g x → W.writes g x ≡ true)
