-- Classes of types, by the list of the shapes of those types that functions have which may stand in the table.
use Rattle.std.specs.Prelude.{◌≡◌, ℕ, List, Option, Some, None, slice_get}
use Rattle.wasm_types.specs.declared.module.FuncType.{FuncType}
use Rattle.wasm_types.specs.declared.module.Module.{Module}
use Rattle.wasm_types.specs.Hosts.{MayStand}
use Rattle.wasm_types.specs.Spaces.{type_of_func}
pub use Rattle.call_graph.specs.Shapes.{shape_of}

-- no shape stands twice
abbrev pub AreApart : List (List ℕ) → Type 0
AreApart shapes = (i j : ℕ) (s : List ℕ) → slice_get shapes i ≡ Some s → slice_get shapes j ≡ Some s → i ≡ j

-- what stood stands at its place
abbrev pub Keeps : List (List ℕ) → List (List ℕ) → Type 0
Keeps old new = (c : ℕ) (s : List ℕ) → slice_get old c ≡ Some s → slice_get new c ≡ Some s

-- where a shape stands
abbrev pub IsFound : List (List ℕ) → List ℕ → Option ℕ → Type 0
IsFound shapes s None = (c : ℕ) → slice_get shapes c ≡ Some s → ⊥
IsFound shapes s (Some c) = slice_get shapes c ≡ Some s

-- a function has a class exactly where it may stand in the table: that of its type
abbrev pub IsFuncClass : Module → List (List ℕ) → ℕ → Option ℕ → Type 0
IsFuncClass m shapes f None = (t : FuncType) → type_of_func m f ≡ Some t → MayStand m f → ⊥
IsFuncClass m shapes f (Some c) = (t : FuncType) × ((type_of_func m f ≡ Some t) × (MayStand m f × (slice_get shapes c ≡ Some (shape_of t))))

abbrev pub AreFuncClasses : Module → List (List ℕ) → List (Option ℕ) → Type 0
AreFuncClasses m shapes classes = (f : ℕ) (class : Option ℕ) → slice_get classes f ≡ Some class → IsFuncClass m shapes f class

abbrev pub AreTypeClasses : List FuncType → List (List ℕ) → List (Option ℕ) → Type 0
AreTypeClasses types shapes classes =
    (t : ℕ) (class : Option ℕ) (kind : FuncType) → slice_get classes t ≡ Some class → slice_get types t ≡ Some kind → IsFound shapes (shape_of kind) class
