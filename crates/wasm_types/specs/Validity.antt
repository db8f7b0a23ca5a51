-- Validity, as a relation on whole stacks of types, the top first (WebAssembly Core Specification 1.0, chapter 3; docs/VALIDITY.md).
use Rattle.std.specs.Prelude.{◌≡◌, ◌≢◌, ℕ, ◌-◌, ◌≤◌, ◌<◌, List, [], ◌∷◌, ◌++◌, length, Option, Some, None, IfSome, All, slice_get, false}
use Rattle.wasm_types.specs.declared.module.ValType.{ValType}
use Rattle.wasm_types.specs.declared.module.ValType.TheVariants.{I32, I64}
use Rattle.wasm_types.specs.declared.module.FuncType.{FuncType}
use Rattle.wasm_types.specs.declared.module.Limits.{Limits}
use Rattle.wasm_types.specs.declared.module.GlobalType.{GlobalType}
use Rattle.wasm_types.specs.declared.module.GlobalDef.{GlobalDef}
use Rattle.wasm_types.specs.declared.module.ImportKind.{ImportKind}
use Rattle.wasm_types.specs.declared.module.ImportKind.TheVariants as import
use Rattle.wasm_types.specs.declared.module.Import.{Import}
use Rattle.wasm_types.specs.declared.module.ExportKind.{ExportKind}
use Rattle.wasm_types.specs.declared.module.ExportKind.TheVariants as export
use Rattle.wasm_types.specs.declared.module.Export.{Export}
use Rattle.wasm_types.specs.declared.module.Elem.{Elem}
use Rattle.wasm_types.specs.declared.module.DataSegment.{DataSegment}
use Rattle.wasm_types.specs.declared.module.Body.{Body}
use Rattle.wasm_types.specs.declared.module.Module.{Module}
use Rattle.wasm_types.specs.declared.limits.TheConstants.{MOST_PAGES}
use Rattle.wasm_types.specs.declared.place.Part.{Part}
use Rattle.wasm_types.specs.declared.place.Part.TheVariants as part
use Rattle.wasm_types.specs.declared.instr.Instr.{Instr, Unreachable, Return, Br, BrIf, BrTable, GlobalGet, I32Const, I64Const}
use Rattle.wasm_types.specs.Code.{Code, done, one, block, repeat, branch, code_of}
use Rattle.wasm_types.specs.WellFormed.{IsWellFormed}
use Rattle.wasm_types.specs.Spaces.{imported, global_import, func_types, type_of_func, IsOwnFunc, HasBody, tables_of, mems_of, globals_of, local_types}
use Rattle.wasm_types.specs.Typing.{Context, Types}

-- ---- code (section 3.3)

-- the values of a block type
abbrev pub values_of : Option ValType → List ValType
values_of None = []
values_of (Some t) = t ∷ []

-- One instruction that holds no others leads from a stack to another; the labels' types are known, the innermost first. After a transfer of control
-- any stack may follow.
abbrev pub Passes : Context → List (List ValType) → Instr → List ValType → List ValType → Type 0
Passes c ls Unreachable s s' = Unit {0}
Passes c ls Return s s' = (r : List ValType) × (s ≡ c.result ++ r)
Passes c ls (Br l) s s' = (t r : List ValType) × (slice_get ls l ≡ Some t) × (s ≡ t ++ r)
Passes c ls (BrIf l) s s' = (t r : List ValType) × (slice_get ls l ≡ Some t) × (s ≡ I32 ∷ t ++ r) × (s' ≡ t ++ r)
Passes c ls (BrTable some l) s s' = (t r : List ValType) × (slice_get ls l ≡ Some t) × All (λ k. slice_get ls k ≡ Some t) some × (s ≡ I32 ∷ t ++ r)
Passes c ls i s s' = (t l r : List ValType) × Types c i t l × (s ≡ t ++ r) × (s' ≡ l ++ r)

-- a sequence leads from a stack to another
abbrev pub Leads : Context → List (List ValType) → Code → List ValType → List ValType → Type 0
Leads c ls done s s' = s ≡ s'
Leads c ls (one i rest) s s' = (m : List ValType) × Passes c ls i s m × Leads c ls rest m s'
Leads c ls (block kind inner rest) s s' = Leads c (values_of kind ∷ ls) inner [] (values_of kind) × Leads c ls rest (values_of kind ++ s) s'
Leads c ls (repeat kind inner rest) s s' = Leads c ([] ∷ ls) inner [] (values_of kind) × Leads c ls rest (values_of kind ++ s) s'
Leads c ls (branch kind first second rest) s s' = (r : List ValType) × (s ≡ I32 ∷ r) × Leads c (values_of kind ∷ ls) first [] (values_of kind) × Leads c (values_of kind ∷ ls) second [] (values_of kind) × Leads c ls rest (values_of kind ++ r) s'

-- a body of a function of this type
abbrev pub IsValidBody : Module → FuncType → Body → Type 0
IsValidBody m t b = Leads (record { inside = m; locals = local_types t b; result = t.results }) (t.results ∷ []) (code_of b.code) [] t.results

-- ---- the other parts of a module (section 3.4)

-- the minimum is at most the maximum, and both are at most this
abbrev pub LimitsWithin : ℕ → Limits → Type 0
LimitsWithin most l = (l.min ≤ most) × IfSome l.max (λ max. (l.min ≤ max) × (max ≤ most))

-- the minimum is at most the maximum
abbrev pub LimitsHold : Limits → Type 0
LimitsHold l = IfSome l.max (λ max. l.min ≤ max)

-- the greatest number of pages
abbrev pub most_pages : ℕ
most_pages = MOST_PAGES

abbrev pub ImportHolds : Module → ImportKind → Type 0
ImportHolds m (import.Func type) = type < length m.types
ImportHolds m (import.Table l) = LimitsHold l
ImportHolds m (import.Memory l) = LimitsWithin most_pages l
ImportHolds m (import.Global g) = Unit {0}

-- one constant of the type, or the value of an immutable global among these (section 3.3.7)
abbrev pub IsConstant : List GlobalType → ValType → List Instr → Type 0
IsConstant globals t (I32Const n ∷ []) = t ≡ I32
IsConstant globals t (I64Const n ∷ []) = t ≡ I64
IsConstant globals t (GlobalGet x ∷ []) = (g : GlobalType) × (slice_get globals x ≡ Some g) × (g.kind ≡ t) × (g.mutable ≡ false)
IsConstant globals t _ = ⊥

-- own global g
abbrev pub GlobalHolds : Module → GlobalDef → Type 0
GlobalHolds m g = IsConstant (imported global_import m.imports) g.kind.kind g.init

-- how many things of a kind there are
abbrev pub count_of_kind : Module → ExportKind → ℕ
count_of_kind m export.Func = length (func_types m)
count_of_kind m export.Table = length (tables_of m)
count_of_kind m export.Memory = length (mems_of m)
count_of_kind m export.Global = length (globals_of m)

-- the index is known, and no earlier export has the name
abbrev pub ExportHolds : Module → ℕ → Export → Type 0
ExportHolds m k e = (e.index < count_of_kind m e.kind) × ((j : ℕ) (other : Export) → j < k → slice_get m.exports j ≡ Some other → other.name.bytes ≢ e.name.bytes)

-- the function takes and leaves nothing
abbrev pub StartHolds : Module → ℕ → Type 0
StartHolds m f = (F : FuncType) × (type_of_func m f ≡ Some F) × (F.params ≡ []) × (F.results ≡ [])

-- A segment's offset may name any immutable global, also one of the module's own.
abbrev pub ElemHolds : Module → Elem → Type 0
ElemHolds m e = (e.table < length (tables_of m)) × IsConstant (globals_of m) I32 e.offset × All (λ f. f < length (func_types m)) e.funcs

abbrev pub SegmentHolds : Module → DataSegment → Type 0
SegmentHolds m d = (d.memory < length (mems_of m)) × IsConstant (globals_of m) I32 d.offset

-- a part of the module is valid; one that isn't there is
abbrev pub Holds : Module → Part → Type 0
Holds m (part.TypeAt k) = IfSome (slice_get m.types k) (λ (t : FuncType). length t.results ≤ 1)
Holds m (part.ImportAt k) = IfSome (slice_get m.imports k) (λ (i : Import). ImportHolds m i.kind)
Holds m (part.FuncTypeAt f) = (t : ℕ) → IsOwnFunc m f t → t < length m.types
Holds m part.TableAll = (length (tables_of m) ≤ 1) × All LimitsHold m.tables
Holds m part.MemoryAll = (length (mems_of m) ≤ 1) × All (LimitsWithin most_pages) m.mems
Holds m (part.GlobalAt g) = (own : GlobalDef) → length (imported global_import m.imports) ≤ g → slice_get m.globals (g - length (imported global_import m.imports)) ≡ Some own → GlobalHolds m own
Holds m (part.FuncAt f) = (F : FuncType) (b : Body) → type_of_func m f ≡ Some F → HasBody m f b → IsValidBody m F b
Holds m (part.ExportAt k) = IfSome (slice_get m.exports k) (ExportHolds m k)
Holds m part.StartAt = IfSome m.start (StartHolds m)
Holds m (part.ElemAt k) = IfSome (slice_get m.elems k) (ElemHolds m)
Holds m (part.DataAt k) = IfSome (slice_get m.segments k) (SegmentHolds m)

abbrev pub IsValid : Module → Type 0
IsValid m = IsWellFormed m × ((p : Part) → Holds m p)
