use Rattle.std.proofs.Common.{◌≡◌, ◌↔◌, ◌<◌, ◌⊎◌, ℕ, Some}
use Rattle.std.specs.Prelude.{slice_get}
use Rattle.std.specs.List.{Contains}
use Rattle.wasm_types.specs.declared.module.GlobalType.{GlobalType}
use Rattle.wasm_types.specs.Hosts.{global_visible}
use Rattle.wasm_types.specs.Spaces.{globals_of}
use Rattle.call_graph.specs.declared.deeds.Deed.{Deed}
use Rattle.call_graph.specs.Hosts.{GlobalDeed}
use Rattle.call_graph.proofs.hosts.add_globals.Given as goal

abbrev pub invariant-loop-global : goal.invariant-loop-global
invariant-loop-global l = (d : Deed) → Contains l.deeds.items d ↔ (Contains l.initial.deeds.items d
    ⊎ ((k : ℕ) × ((g : GlobalType) × ((k < l.global) × ((slice_get (globals_of l.m) k ≡ Some g) × GlobalDeed (global_visible l.m k g) k d)))))
