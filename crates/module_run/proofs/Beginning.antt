-- How a run begins: the values of the imported globals have their types.
use Rattle.std.proofs.Common.{◌≡◌, ℕ, zero, suc, List, [], ◌∷◌, ◌++◌, map, Option, Some, None, slice_get, refl, subst}
use Rattle.wasm_types.specs.declared.module.Value.{Value}
use Rattle.wasm_types.specs.declared.module.ValType.{ValType}
use Rattle.wasm_types.specs.declared.module.GlobalType.{GlobalType}
use Rattle.wasm_types.specs.declared.module.ImportKind.{ImportKind}
use Rattle.wasm_types.specs.declared.module.ImportKind.TheVariants as import
use Rattle.wasm_types.specs.declared.module.Import.{Import}
use Rattle.wasm_types.specs.declared.module.Module.{Module}
use Rattle.wasm_types.specs.declared.place.Part.TheVariants as part
use Rattle.wasm_types.specs.Spaces.{imported, global_import}
use Rattle.wasm_types.specs.Subset.{IsIntegerImport, IsSealed}
use Rattle.wasm_meaning.specs.Fits.{HaveTypes, global_type}
use Rattle.wasm_meaning.specs.Invoke.{zero_value, results_from}
use Rattle.wasm_meaning.proofs.Values.{if_some, zero_fits}
use Rattle.module_run.specs.Runs.{first_values}

abbrev zeros : List GlobalType → List Value
zeros gs = map (λ (g : GlobalType). zero_value g.kind) gs

one_more : (k : ImportKind) (gs : List GlobalType) → IsIntegerImport k → HaveTypes (zeros gs) (map global_type gs)
    → HaveTypes (zeros (global_import k ++ gs)) (map global_type (global_import k ++ gs))
one_more (import.Func t) gs h later = later
one_more (import.Table l) gs h later = later
one_more (import.Memory l) gs h later = later
one_more (import.Global g) gs h later = (zero_fits g.kind h, later)

all_typed : (is : List Import) → ((k : ℕ) (i : Import) → slice_get is k ≡ Some i → IsIntegerImport i.kind)
    → HaveTypes (zeros (imported global_import is)) (map global_type (imported global_import is))
all_typed [] each = tt
all_typed (i ∷ is) each = one_more i.kind (imported global_import is) (each zero i refl) (all_typed is (λ k j at. each (suc k) j at))

pub first_typed : (m : Module) → IsSealed m → HaveTypes (first_values m) (map global_type (imported global_import m.imports))
first_typed m sealed =
    all_typed m.imports (λ k i at. if_some (slice_get m.imports k) i (λ (i : Import). IsIntegerImport i.kind) at (sealed.no_float (part.ImportAt k)))

-- what has the types of no result is none
pub none_typed : (value : Option Value) (ts : List ValType) → ts ≡ [] → HaveTypes (results_from value) ts → value ≡ None
none_typed None ts e h = refl
none_typed (Some v) ts e h = absurd (subst (HaveTypes (v ∷ [])) e h)
