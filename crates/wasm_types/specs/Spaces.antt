-- The numbers of a module's functions, tables, memories and globals: the imported ones come first (WebAssembly Core Specification 1.0, section 2.5.1).
use Rattle.std.specs.Prelude.{◌≡◌, ℕ, ◌+◌, ◌-◌, ◌≤◌, List, [], ◌∷◌, ◌++◌, length, map, replicate, Option, Some, None, Result, Ok, Err, slice_get, nat_lt, not, ◌||◌, if◌then◌else◌}
use Rattle.wasm_types.specs.declared.module.ValType.{ValType}
use Rattle.wasm_types.specs.declared.module.FuncType.{FuncType}
use Rattle.wasm_types.specs.declared.module.Limits.{Limits}
use Rattle.wasm_types.specs.declared.module.GlobalType.{GlobalType}
use Rattle.wasm_types.specs.declared.module.GlobalDef.{GlobalDef}
use Rattle.wasm_types.specs.declared.module.ImportKind.{ImportKind}
use Rattle.wasm_types.specs.declared.module.ImportKind.TheVariants as import
use Rattle.wasm_types.specs.declared.module.Import.{Import}
use Rattle.wasm_types.specs.declared.module.LocalRun.{LocalRun}
use Rattle.wasm_types.specs.declared.module.Body.{Body}
use Rattle.wasm_types.specs.declared.module.Module.{Module}

-- the type number of an imported function
abbrev pub func_import : ImportKind → List ℕ
func_import (import.Func type) = type ∷ []
func_import _ = []

abbrev pub table_import : ImportKind → List Limits
table_import (import.Table l) = l ∷ []
table_import _ = []

abbrev pub memory_import : ImportKind → List Limits
memory_import (import.Memory l) = l ∷ []
memory_import _ = []

abbrev pub global_import : ImportKind → List GlobalType
global_import (import.Global g) = g ∷ []
global_import _ = []

-- what the imports of one kind give, in their order
abbrev pub imported : {A : Type 0} → (ImportKind → List A) → List Import → List A
imported pick [] = []
imported pick (i ∷ is) = pick i.kind ++ imported pick is

-- how many functions are imported
abbrev pub import_count : Module → ℕ
import_count m = length (imported func_import m.imports)

-- the type number of each function
abbrev pub func_types : Module → List ℕ
func_types m = imported func_import m.imports ++ m.funcs

-- the type of a function, where there is a function of that number and a type of its
abbrev pub type_numbered : List FuncType → Option ℕ → Option FuncType
type_numbered types None = None
type_numbered types (Some t) = slice_get types t

abbrev pub type_of_func : Module → ℕ → Option FuncType
type_of_func m f = type_numbered m.types (slice_get (func_types m) f)

-- function f is the module's own, with this type number
abbrev pub IsOwnFunc : Module → ℕ → ℕ → Type 0
IsOwnFunc m f type = (import_count m ≤ f) × (slice_get m.funcs (f - import_count m) ≡ Some type)

-- function f is the module's own, with this body
abbrev pub HasBody : Module → ℕ → Body → Type 0
HasBody m f b = (import_count m ≤ f) × (slice_get m.bodies (f - import_count m) ≡ Some b)

-- the body of a function, where it is the module's own and has one
abbrev pub body_of : Module → ℕ → Option Body
body_of m f = if nat_lt f (import_count m) || not (nat_lt f (length (func_types m))) then None else slice_get m.bodies (f - import_count m)

-- What a search among the imported functions answers: the type number, or how far the number is past the last of them.
abbrev pub FindsImport : Result ℕ ℕ → ℕ → List ℕ → Type 0
FindsImport (Ok type) func types = slice_get types func ≡ Some type
FindsImport (Err left) func types = func ≡ left + length types

abbrev pub tables_of : Module → List Limits
tables_of m = imported table_import m.imports ++ m.tables

abbrev pub mems_of : Module → List Limits
mems_of m = imported memory_import m.imports ++ m.mems

abbrev pub global_kind : GlobalDef → GlobalType
global_kind g = g.kind

abbrev pub globals_of : Module → List GlobalType
globals_of m = imported global_import m.imports ++ map global_kind m.globals

-- the types of the locals that the runs declare
abbrev pub run_types : List LocalRun → List ValType
run_types [] = []
run_types (r ∷ rs) = replicate r.count r.kind ++ run_types rs

-- the parameters, and then the other locals
abbrev pub local_types : FuncType → Body → List ValType
local_types t b = t.params ++ run_types b.locals
