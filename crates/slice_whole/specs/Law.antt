-- What is proved of slices.
use Rattle.std.specs.Prelude.{ℕ, List}
use Rattle.wasm_types.specs.declared.module.Name.{Name}
use Rattle.wasm_types.specs.declared.module.Value.{Value}
use Rattle.wasm_types.specs.declared.module.Module.{Module}
use Rattle.wasm_types.specs.declared.run.Event.{Event}
use Rattle.wasm_types.specs.Validity.{IsValid}
use Rattle.wasm_types.specs.Subset.{HasNoFloat}
use Rattle.wasm_meaning.specs.State.{State}
use Rattle.wasm_meaning.specs.Fits.{Fits}
use Rattle.wasm_meaning.specs.Invoke.{Returns}
use Rattle.flow_domain.specs.Sliced.{func_count, IsSliced}
use Rattle.flow_laws.specs.Slices.{ReturnsToo}

-- whenever function f of m returns, function g of `new` returns from the same start, after no more turns and with the same events
abbrev pub Follows : (m : Module) (f i : ℕ) (new : Module) (g at : ℕ) → Type 0
Follows m f i new g at =
    (args : List Value) (s : State) → Fits m s
    → (n : ℕ) (results : List Value) (final : State) (events : List Event) → Returns m f i args s n results final events
    → ReturnsToo new g at args s n final events

-- In a valid module without floats the slice of a function follows it.
abbrev pub SliceFollows : Type 0
SliceFollows =
    (m : Module) → IsValid m → HasNoFloat m → (f i : ℕ) (name : Name) (new : Module) (at : ℕ)
    → IsSliced m f i name new at → Follows m f i new (func_count m) at
