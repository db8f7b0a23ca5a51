-- The contents of sections (WebAssembly Core Specification 1.0, sections 5.5.3 to 5.5.14).
use Rattle.std.specs.Prelude.{◌≡◌, ℕ, ◌<◌, ◌^◌, List, [], ◌∷◌, sum_by, IsUtf8}
use Rattle.wasm_types.specs.declared.module.FuncType.{FuncType}
use Rattle.wasm_types.specs.declared.module.Limits.{Limits}
use Rattle.wasm_types.specs.declared.module.Name.{Name}
use Rattle.wasm_types.specs.declared.module.ImportKind.{ImportKind}
use Rattle.wasm_types.specs.declared.module.ImportKind.TheVariants as import
use Rattle.wasm_types.specs.declared.module.Import.{Import}
use Rattle.wasm_types.specs.declared.module.GlobalDef.{GlobalDef}
use Rattle.wasm_types.specs.declared.module.ExportKind.{ExportKind}
use Rattle.wasm_types.specs.declared.module.ExportKind.TheVariants as export
use Rattle.wasm_types.specs.declared.module.Export.{Export}
use Rattle.wasm_types.specs.declared.module.Elem.{Elem}
use Rattle.wasm_types.specs.declared.module.LocalRun.{LocalRun}
use Rattle.wasm_types.specs.declared.module.Body.{Body}
use Rattle.wasm_types.specs.declared.module.DataSegment.{DataSegment}
use Rattle.wasm_types.specs.Numbers.{SpellsU32}
use Rattle.wasm_types.specs.Parts.{Behind, Both, Counted, Raw, Sized, Within}
use Rattle.wasm_types.specs.Types.{SpellsValType, SpellsFuncType, SpellsLimits, SpellsTableType, SpellsGlobalType}
use Rattle.wasm_types.specs.Grammar.{SpellsInstrs}

-- names (5.2.4)
abbrev pub SpellsName : List ℕ → Name → Type 0
SpellsName text n = Sized text n.bytes × IsUtf8 n.bytes

-- a custom section: its name, and any bytes (5.5.3)
abbrev pub SpellsCustom : List ℕ → Name × List ℕ → Type 0
SpellsCustom = Both SpellsName Raw

-- the type section (5.5.4)
abbrev pub SpellsTypes : List ℕ → List FuncType → Type 0
SpellsTypes = Counted SpellsFuncType

-- the import section (5.5.5)
abbrev pub SpellsImportKind : List ℕ → ImportKind → Type 0
SpellsImportKind text (import.Func type) = Behind 0x00 (λ rest. SpellsU32 rest type) text
SpellsImportKind text (import.Table l) = Behind 0x01 (λ rest. SpellsTableType rest l) text
SpellsImportKind text (import.Memory l) = Behind 0x02 (λ rest. SpellsLimits rest l) text
SpellsImportKind text (import.Global g) = Behind 0x03 (λ rest. SpellsGlobalType rest g) text

abbrev pub SpellsImport : List ℕ → Import → Type 0
SpellsImport text i = Both SpellsName (Both SpellsName SpellsImportKind) text (i.module, (i.name, i.kind))

abbrev pub SpellsImports : List ℕ → List Import → Type 0
SpellsImports = Counted SpellsImport

-- the function section: a type number for each function (5.5.6)
abbrev pub SpellsFuncs : List ℕ → List ℕ → Type 0
SpellsFuncs = Counted SpellsU32

-- the table section (5.5.7)
abbrev pub SpellsTables : List ℕ → List Limits → Type 0
SpellsTables = Counted SpellsTableType

-- the memory section (5.5.8)
abbrev pub SpellsMems : List ℕ → List Limits → Type 0
SpellsMems = Counted SpellsLimits

-- the global section (5.5.9)
abbrev pub SpellsGlobal : List ℕ → GlobalDef → Type 0
SpellsGlobal text g = Both SpellsGlobalType SpellsInstrs text (g.kind, g.init)

abbrev pub SpellsGlobals : List ℕ → List GlobalDef → Type 0
SpellsGlobals = Counted SpellsGlobal

-- the export section (5.5.10)
abbrev pub export_byte : ExportKind → ℕ
export_byte export.Func = 0x00
export_byte export.Table = 0x01
export_byte export.Memory = 0x02
export_byte export.Global = 0x03

abbrev pub SpellsExportKind : List ℕ → ExportKind → Type 0
SpellsExportKind text k = text ≡ export_byte k ∷ []

abbrev pub SpellsExport : List ℕ → Export → Type 0
SpellsExport text e = Both SpellsName (Both SpellsExportKind SpellsU32) text (e.name, (e.kind, e.index))

abbrev pub SpellsExports : List ℕ → List Export → Type 0
SpellsExports = Counted SpellsExport

-- the start section is one function number, SpellsU32 (5.5.11)

-- the element section (5.5.12)
abbrev pub SpellsElem : List ℕ → Elem → Type 0
SpellsElem text e = Both SpellsU32 (Both SpellsInstrs (Counted SpellsU32)) text (e.table, (e.offset, e.funcs))

abbrev pub SpellsElems : List ℕ → List Elem → Type 0
SpellsElems = Counted SpellsElem

-- the code section: for each function its size, its locals in runs of one type, and its code (5.5.13)
abbrev pub SpellsRun : List ℕ → LocalRun → Type 0
SpellsRun text r = Both SpellsU32 SpellsValType text (r.count, r.kind)

abbrev pub local_count : List LocalRun → ℕ
local_count runs = sum_by (λ (r : LocalRun). r.count) runs

abbrev pub SpellsBody : List ℕ → Body → Type 0
SpellsBody text b = Both (Counted SpellsRun) SpellsInstrs text (b.locals, b.code) × (local_count b.locals < 2 ^ 32)

abbrev pub SpellsBodies : List ℕ → List Body → Type 0
SpellsBodies = Counted (Within SpellsBody)

-- the data section (5.5.14)
abbrev pub SpellsSegment : List ℕ → DataSegment → Type 0
SpellsSegment text d = Both SpellsU32 (Both SpellsInstrs Sized) text (d.memory, (d.offset, d.bytes))

abbrev pub SpellsSegments : List ℕ → List DataSegment → Type 0
SpellsSegments = Counted SpellsSegment
