-- What the host sees of a module, which replies of it fit, and which locations a call of an imported function reads and writes (docs/MEANING.md, "The
-- host"; docs/ANALYSES.md, "Locations").
use Rattle.std.specs.Prelude.{◌≡◌, ℕ, ℤ, pos, negsuc, ◌+◌, ◌==◌, ◌<◌, ◌⊎◌, ◌&&◌, ◌||◌, Bool, true, false, if◌then◌else◌, List, [], ◌∷◌, length, Any, Contains, Option, Some, None, slice_get, nat_lt, nat_le, int_lt, int_le}
use Rattle.std.specs.List.{list_all, list_any}
use Rattle.wasm_types.specs.declared.module.ValType.{ValType}
use Rattle.wasm_types.specs.declared.module.ValType.TheVariants as type
use Rattle.wasm_types.specs.declared.module.FuncType.{FuncType}
use Rattle.wasm_types.specs.declared.module.GlobalType.{GlobalType}
use Rattle.wasm_types.specs.declared.module.ImportKind.{ImportKind}
use Rattle.wasm_types.specs.declared.module.ImportKind.TheVariants as import
use Rattle.wasm_types.specs.declared.module.Import.{Import}
use Rattle.wasm_types.specs.declared.module.ExportKind.{ExportKind}
use Rattle.wasm_types.specs.declared.module.ExportKind.TheVariants as export
use Rattle.wasm_types.specs.declared.module.Export.{Export}
use Rattle.wasm_types.specs.declared.module.Elem.{Elem}
use Rattle.wasm_types.specs.declared.module.Module.{Module}
use Rattle.wasm_types.specs.declared.place.Loc.{Loc}
use Rattle.wasm_types.specs.declared.place.Loc.TheVariants as loc
use Rattle.wasm_types.specs.declared.run.Reply.{Reply}
use Rattle.wasm_types.specs.Spaces.{imported, global_import, memory_import, import_count, func_types, type_of_func, globals_of}

-- ---- what the host sees

abbrev pub is_memory : ExportKind → Bool
is_memory export.Memory = true
is_memory _ = false

abbrev pub is_global : ExportKind → Bool
is_global export.Global = true
is_global _ = false

-- the memory is imported or exported
abbrev pub memory_visible : Module → Bool
memory_visible m = nat_lt 0 (length (imported memory_import m.imports)) || list_any (λ (e : Export). is_memory e.kind) m.exports

-- global k is mutable, and imported or exported
abbrev pub global_visible : Module → ℕ → GlobalType → Bool
global_visible m k g = g.mutable && (nat_lt k (length (imported global_import m.imports)) || list_any (λ (e : Export). is_global e.kind && (e.index == k)) m.exports)

-- the types of these globals, the first of which has number k, where the host sees them
abbrev pub seen_from : Module → ℕ → List GlobalType → List (Option ValType)
seen_from m k [] = []
seen_from m k (g ∷ gs) = (if global_visible m k g then Some g.kind else None) ∷ seen_from m (k + 1) gs

abbrev pub IsTableImport : ImportKind → Type 0
IsTableImport (import.Table l) = Unit {0}
IsTableImport _ = ⊥

-- the host sees the table
abbrev pub TableVisible : Module → Type 0
TableVisible m = Any (λ (i : Import). IsTableImport i.kind) m.imports ⊎ Any (λ (e : Export). e.kind ≡ export.Table) m.exports

-- the module has a function of that number
abbrev pub IsFunction : Module → ℕ → Type 0
IsFunction m f = f < length (func_types m)

-- a function of the module may stand in the table: an element segment names it, or the host sees the table
abbrev pub MayStand : Module → ℕ → Type 0
MayStand m f = IsFunction m f × (Any (λ (e : Elem). Contains e.funcs f) m.elems ⊎ TableVisible m)

-- ---- imported functions

-- an imported function: its number, its type, the types of the globals where the host sees them, and whether it sees the memory
pub record HostFunc : Type 0 where
  pub import : ℕ
  pub kind : FuncType
  pub globals : List (Option ValType)
  pub memory : Bool

abbrev pub host_from : Module → ℕ → Option FuncType → Option HostFunc
host_from m f None = None
host_from m f (Some t) = Some (record { import = f; kind = t; globals = seen_from m 0 (globals_of m); memory = memory_visible m })

-- the function of a number, where it is imported
abbrev pub host_of : Module → ℕ → Option HostFunc
host_of m f = if nat_lt f (import_count m) then host_from m f (type_of_func m f) else None

-- ---- what a call of one reads and writes

abbrev pub is_seen : Option (Option ValType) → Bool
is_seen (Some (Some t)) = true
is_seen _ = false

-- what the host is shown, and what decides whether its reply fits
abbrev pub host_reads : HostFunc → Loc → Bool
host_reads H (loc.Local k) = false
host_reads H (loc.Global k) = is_seen (slice_get H.globals k)
host_reads H loc.Mem = H.memory
host_reads H loc.Size = H.memory
host_reads H loc.Host = true

-- what a reply may write
abbrev pub host_writes : HostFunc → Loc → Bool
host_writes H (loc.Local k) = false
host_writes H (loc.Global k) = is_seen (slice_get H.globals k)
host_writes H loc.Mem = H.memory
host_writes H loc.Size = false
host_writes H loc.Host = true

-- ---- when a reply fits

-- A number may stand for a value of the type, a negative one for itself and 2 to the width.
abbrev pub in_range : ValType → ℤ → Bool
in_range type.I32 z = int_le (negsuc 2147483647) z && int_lt z (pos 4294967296)
in_range type.I64 z = int_le (negsuc 9223372036854775807) z && int_lt z (pos 18446744073709551616)
in_range _ z = false

abbrev pub result_fits : List ValType → Option ℤ → Bool
result_fits [] None = true
result_fits (t ∷ []) (Some z) = in_range t z
result_fits _ _ = false

abbrev pub global_fits : Option (Option ValType) → ℤ → Bool
global_fits (Some (Some t)) z = in_range t z
global_fits _ z = false

-- so many bytes from an address on lie within this length
abbrev pub is_within : ℕ → ℕ → ℕ → Bool
is_within at count long = nat_le (at + count) long

abbrev pub bytes_fit : Bool → ℕ → ℕ × List ℕ → Bool
bytes_fit visible long w = visible && (is_within w.0 (length w.1) long && list_all (λ b. nat_lt b 256) w.1)

-- a reply fits the function, where the memory has so many bytes
abbrev pub reply_fits : HostFunc → ℕ → Reply → Bool
reply_fits H long r =
    result_fits H.kind.results r.result && (list_all (λ w. global_fits (slice_get H.globals w.0) w.1) r.globals && list_all (bytes_fit H.memory long) r.bytes)
