-- What a function does by itself, that those who call it do too (docs/ANALYSES.md, "What functions write").
use Rattle.std.specs.Prelude.{◌≡◌, ℕ, true, Some}
use Rattle.wasm_types.specs.declared.module.Module.{Module}
use Rattle.wasm_types.specs.declared.instr.Instr.{Instr}
use Rattle.wasm_types.specs.Actions.{Form, Plain, CallOf, CallBy, form_of}
use Rattle.wasm_types.specs.Locations.{writes_in, is_outer}
use Rattle.wasm_types.specs.Hosts.{HostFunc, host_of, host_writes}
use Rattle.wasm_types.specs.Funcs.{Func, func_of, text}
use Rattle.flow_domain.specs.Reach.{LiveIn}
use Rattle.flow_domain.specs.Touch.{touches_in, host_touches}
use Rattle.call_graph.specs.declared.deeds.Deed.{Deed}
use Rattle.call_graph.specs.declared.deeds.Deed.TheVariants.{Calls, CallsThrough, Touches, Writes}

-- an instruction of this form does it
abbrev pub IsDeed : Form → Deed → Type 0
IsDeed (CallOf f) (Calls g) = f ≡ g
IsDeed (CallBy t) (CallsThrough u) = t ≡ u
IsDeed (Plain a) (Touches x) = (touches_in a x ≡ true) × (is_outer x ≡ true)
IsDeed (Plain a) (Writes x) = (writes_in a x ≡ true) × (is_outer x ≡ true)
IsDeed _ _ = ⊥

-- a call of the imported function does it
abbrev pub HostDoes : HostFunc → Deed → Type 0
HostDoes H (Touches x) = host_touches H x ≡ true
HostDoes H (Writes x) = host_writes H x ≡ true
HostDoes H _ = ⊥

-- function f does it: an instruction at a live position does, or f is imported
pub data Does (m : Module) (f : ℕ) (d : Deed) : Type 0 where
  by_code : (F : Func) (op : Instr) → func_of m f ≡ Some F → LiveIn op (text F) → IsDeed (form_of op) d → Does m f d
  by_host : (H : HostFunc) → host_of m f ≡ Some H → HostDoes H d → Does m f d
