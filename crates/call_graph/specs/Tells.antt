-- What classes tell.
use Rattle.std.specs.Prelude.{◌≡◌, ◌↔◌, ℕ, Some, slice_get}
use Rattle.wasm_types.specs.declared.module.FuncType.{FuncType}
use Rattle.wasm_types.specs.declared.module.Module.{Module}
use Rattle.wasm_types.specs.Spaces.{type_of_func}
use Rattle.flow_domain.specs.Rows.{Target}
use Rattle.call_graph.specs.declared.classes.Classes.{Classes}

-- a type and a function are of one class
abbrev pub ShareClass : Classes → ℕ → ℕ → Type 0
ShareClass classes t f = (c : ℕ) × ((slice_get classes.by_type.items t ≡ Some (Some c)) × (slice_get classes.by_func.items f ≡ Some (Some c)))

abbrev pub TellsTargets : Module → Classes → Type 0
TellsTargets m classes = (t f : ℕ) → ShareClass classes t f ↔ Target m t f

-- a function is of a class
abbrev pub HasClass : Classes → ℕ → ℕ → Type 0
HasClass classes f c = slice_get classes.by_func.items f ≡ Some (Some c)

-- functions of one class have one type
abbrev pub AreAlike : Module → Classes → Type 0
AreAlike m classes =
    (c f g : ℕ) → HasClass classes f c → HasClass classes g c → (t : FuncType) × ((type_of_func m f ≡ Some t) × (type_of_func m g ≡ Some t))
