-- The kept sets of a module keep the rules of slices, and so slices return where their functions do.
use Rattle.std.specs.Prelude.{ℕ, List, Bool}
use Rattle.wasm_types.specs.declared.module.Name.{Name}
use Rattle.wasm_types.specs.declared.module.Value.{Value}
use Rattle.wasm_types.specs.declared.module.Module.{Module}
use Rattle.wasm_types.specs.declared.place.Node.{Node}
use Rattle.wasm_types.specs.declared.run.Event.{Event}
use Rattle.wasm_types.specs.Validity.{IsValid}
use Rattle.wasm_types.specs.Sites.{Sites, EndAt}
use Rattle.wasm_meaning.specs.State.{State}
use Rattle.wasm_meaning.specs.Fits.{Fits}
use Rattle.wasm_meaning.specs.Invoke.{Returns}
use Rattle.flow_domain.specs.Bounds.{Cover, bounds}
use Rattle.flow_domain.specs.Kept.{Tells, KeptNode, KeptMaker}
use Rattle.flow_domain.specs.Sliced.{func_count, rows_in, IsSliced}
use Rattle.flow_laws.specs.Calls.{HasHeights}
use Rattle.flow_laws.specs.Cutting.{IsKept}
use Rattle.flow_laws.specs.Slices.{ReturnsToo}

-- What is kept, and what is kept for its value, keeps the rules of slices.
abbrev pub KeptServes : Type 0
KeptServes =
    (m : Module) (W : Cover) (S : Sites) (ends : List EndAt) (K M : Node → Bool) → Tells K (KeptNode (bounds m W) (rows_in m W) S ends)
    → Tells M (KeptMaker (bounds m W) (rows_in m W) S ends) → IsKept (bounds m W) (rows_in m W) S ends K M

-- So whenever a function of a valid module returns, its sliced module's function returns from the same start, after no more turns and with the same events.
abbrev pub SlicedReturns : Type 0
SlicedReturns =
    (m : Module) → IsValid m → HasHeights m → (f i : ℕ) (name : Name) (new : Module) (at : ℕ) → IsSliced m f i name new at
    → (args : List Value) (s : State) → Fits m s
    → (n : ℕ) (results : List Value) (final : State) (events : List Event) → Returns m f i args s n results final events
    → ReturnsToo new (func_count m) at args s n final events
