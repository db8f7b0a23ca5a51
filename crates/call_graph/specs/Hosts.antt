-- What a call of any imported function of a module does, by what the host sees.
use Rattle.std.specs.Prelude.{◌≡◌, ◌↔◌, ℕ, Bool, true, Some, List, slice_get}
use Rattle.std.specs.List.{Contains}
use Rattle.wasm_types.specs.declared.module.GlobalType.{GlobalType}
use Rattle.wasm_types.specs.declared.module.Module.{Module}
use Rattle.wasm_types.specs.declared.place.Loc.TheVariants as loc
use Rattle.wasm_types.specs.Hosts.{HostFunc, host_of, memory_visible, global_visible}
use Rattle.wasm_types.specs.Spaces.{globals_of}
use Rattle.call_graph.specs.declared.deeds.Deed.{Deed}
use Rattle.call_graph.specs.declared.deeds.Deed.TheVariants.{Touches, Writes}
use Rattle.call_graph.specs.Deeds.{HostDoes}

-- where the host sees the memory
abbrev pub MemoryDeed : Module → Deed → Type 0
MemoryDeed m (Touches loc.Mem) = memory_visible m ≡ true
MemoryDeed m (Touches loc.Size) = memory_visible m ≡ true
MemoryDeed m (Writes loc.Mem) = memory_visible m ≡ true
MemoryDeed m _ = ⊥

-- to global k, where the host sees it
abbrev pub GlobalDeed : Bool → ℕ → Deed → Type 0
GlobalDeed seen k (Touches (loc.Global j)) = (seen ≡ true) × (j ≡ k)
GlobalDeed seen k (Writes (loc.Global j)) = (seen ≡ true) × (j ≡ k)
GlobalDeed seen k _ = ⊥

-- to a global that the host sees
abbrev pub SeenDeed : Module → Deed → Type 0
SeenDeed m d = (k : ℕ) × ((g : GlobalType) × ((slice_get (globals_of m) k ≡ Some g) × GlobalDeed (global_visible m k g) k d))

-- these are what each imported function does
abbrev pub AreHostDeeds : Module → List Deed → Type 0
AreHostDeeds m deeds = (f : ℕ) (H : HostFunc) → host_of m f ≡ Some H → (d : Deed) → Contains deeds d ↔ HostDoes H d
