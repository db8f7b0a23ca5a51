-- When two stores are equal at a location (docs/ANALYSES.md, "Locations").
use Rattle.std.specs.Prelude.{◌≡◌, ℕ}
use Rattle.wasm_types.specs.declared.place.Loc.{Loc}
use Rattle.wasm_types.specs.declared.place.Loc.TheVariants.{Local, Global, Mem, Size, Host}
use Rattle.wasm_meaning.specs.State.{Store, byte_at, local_at, global_at}

-- All bytes of the memory are one location, the number of its pages is another. The host's is the host with the calls that it got.
abbrev pub EqAt : Loc → Store → Store → Type 0
EqAt (Local k) s s' = local_at s' k ≡ local_at s k
EqAt (Global k) s s' = global_at s' k ≡ global_at s k
EqAt Mem s s' = (a : ℕ) → byte_at s'.state a ≡ byte_at s.state a
EqAt Size s s' = s'.state.pages ≡ s.state.pages
EqAt Host s s' = (s'.state.host ≡ s.state.host) × (s'.state.host_calls ≡ s.state.host_calls)
