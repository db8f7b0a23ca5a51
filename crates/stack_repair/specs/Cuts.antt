-- The cut of a function's body (docs/ANALYSES.md, "The cut").
use Rattle.std.specs.Prelude.{◌≡◌, ℕ, Bool, Some}
use Rattle.wasm_types.specs.declared.module.ValType.{ValType}
use Rattle.wasm_types.specs.declared.module.FuncType.{FuncType}
use Rattle.wasm_types.specs.declared.module.Body.{Body}
use Rattle.wasm_types.specs.declared.module.Module.{Module}
use Rattle.wasm_types.specs.declared.place.Node.{Node}
use Rattle.wasm_types.specs.Marked.{watched_at}
use Rattle.wasm_types.specs.Spaces.{type_of_func, HasBody}
use Rattle.wasm_types.specs.Actions.{callees}
use Rattle.wasm_types.specs.Places.{TypesPlaces}
use Rattle.flow_domain.specs.Kept.{Tells}
use Rattle.flow_domain.specs.Presence.{IsNeeded}
use Rattle.flow_domain.specs.Sliced.{context_of, sites_at, ends_at, cut_of, with_code}

-- `made` is the body of function f of m, cut by these kept nodes and the places that they need, and position i went to `at`. The types of the places don't
-- matter to it.
abbrev pub IsCut : Module → ℕ → (Node → Bool) → ℕ → Body → ℕ → Type 0
IsCut m f K i made at =
    (t : FuncType) (b : Body) → type_of_func m f ≡ Some t → HasBody m f b
    → (P : Node → Bool) → Tells P (IsNeeded (callees m) (sites_at (callees m) t b i) (ends_at (callees m) t b i) K)
    → (T : Node → ValType) → TypesPlaces (context_of m t b) (sites_at (callees m) t b i) T
    → (made ≡ with_code (cut_of (callees m) K P T t b i) b) × (at ≡ watched_at (cut_of (callees m) K P T t b i))
