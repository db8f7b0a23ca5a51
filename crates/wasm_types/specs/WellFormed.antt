-- Well-formed modules (docs/FORMAT.md): every number is in the range of its field, every name is UTF-8, there are as many type numbers of functions as
-- bodies, and every float instruction has an opcode of its form.
use Rattle.std.specs.Prelude.{◌≡◌, ℕ, ◌<◌, ◌^◌, List, length, All, IfSome, IsUtf8}
use Rattle.wasm_types.specs.declared.module.Limits.{Limits}
use Rattle.wasm_types.specs.declared.module.Name.{Name}
use Rattle.wasm_types.specs.declared.module.ImportKind.{ImportKind}
use Rattle.wasm_types.specs.declared.module.ImportKind.TheVariants as import
use Rattle.wasm_types.specs.declared.module.Import.{Import}
use Rattle.wasm_types.specs.declared.module.GlobalDef.{GlobalDef}
use Rattle.wasm_types.specs.declared.module.Export.{Export}
use Rattle.wasm_types.specs.declared.module.Elem.{Elem}
use Rattle.wasm_types.specs.declared.module.LocalRun.{LocalRun}
use Rattle.wasm_types.specs.declared.module.Body.{Body}
use Rattle.wasm_types.specs.declared.module.DataSegment.{DataSegment}
use Rattle.wasm_types.specs.declared.module.Module.{Module}
use Rattle.wasm_types.specs.declared.instr.Instr.{Instr}
use Rattle.wasm_types.specs.Code.{Code, done, one, block, repeat, branch, code_of}
use Rattle.wasm_types.specs.Plain.{Immediates, nothing, number, labels, signature, address, memory, signed_32, signed_64, raw_32, raw_64, bulk, never, immediates}
use Rattle.wasm_types.specs.Sections.{local_count}

abbrev pub IsU8 : ℕ → Type 0
IsU8 n = n < 2 ^ 8

abbrev pub IsU32 : ℕ → Type 0
IsU32 n = n < 2 ^ 32

abbrev pub IsU64 : ℕ → Type 0
IsU64 n = n < 2 ^ 64

-- a float instruction whose opcode isn't of its form has `never` behind it
abbrev pub ProperImmediates : Immediates → Type 0
ProperImmediates nothing = Unit {0}
ProperImmediates (number n) = IsU32 n
ProperImmediates (labels some label) = All IsU32 some × IsU32 label
ProperImmediates (signature type) = IsU32 type
ProperImmediates (address align offset) = IsU32 align × IsU32 offset
ProperImmediates memory = Unit {0}
ProperImmediates (signed_32 n) = IsU32 n
ProperImmediates (signed_64 n) = IsU64 n
ProperImmediates (raw_32 n) = IsU32 n
ProperImmediates (raw_64 n) = IsU64 n
ProperImmediates (bulk n) = IsU32 n
ProperImmediates never = ⊥

abbrev pub ProperCode : Code → Type 0
ProperCode done = Unit {0}
ProperCode (one i rest) = ProperImmediates (immediates i) × ProperCode rest
ProperCode (block kind inner rest) = ProperCode inner × ProperCode rest
ProperCode (repeat kind inner rest) = ProperCode inner × ProperCode rest
ProperCode (branch kind first second rest) = ProperCode first × ProperCode second × ProperCode rest

abbrev pub ProperInstrs : List Instr → Type 0
ProperInstrs is = ProperCode (code_of is)

abbrev pub ProperLimits : Limits → Type 0
ProperLimits l = IsU32 l.min × IfSome l.max IsU32

abbrev pub ProperName : Name → Type 0
ProperName n = All IsU8 n.bytes × IsUtf8 n.bytes

abbrev pub ProperImportKind : ImportKind → Type 0
ProperImportKind (import.Func type) = IsU32 type
ProperImportKind (import.Table l) = ProperLimits l
ProperImportKind (import.Memory l) = ProperLimits l
ProperImportKind (import.Global g) = Unit {0}

abbrev pub ProperImport : Import → Type 0
ProperImport i = ProperName i.module × ProperName i.name × ProperImportKind i.kind

abbrev pub ProperGlobal : GlobalDef → Type 0
ProperGlobal g = ProperInstrs g.init

abbrev pub ProperExport : Export → Type 0
ProperExport e = ProperName e.name × IsU32 e.index

abbrev pub ProperElem : Elem → Type 0
ProperElem e = IsU32 e.table × ProperInstrs e.offset × All IsU32 e.funcs

abbrev pub ProperBody : Body → Type 0
ProperBody b = All (λ (r : LocalRun). IsU32 r.count) b.locals × (local_count b.locals < 2 ^ 32) × ProperInstrs b.code

abbrev pub ProperSegment : DataSegment → Type 0
ProperSegment d = IsU32 d.memory × ProperInstrs d.offset × All IsU8 d.bytes

pub record IsWellFormed (m : Module) : Type 0 where
  pub imports : All ProperImport m.imports
  pub funcs : All IsU32 m.funcs
  pub tables : All ProperLimits m.tables
  pub mems : All ProperLimits m.mems
  pub globals : All ProperGlobal m.globals
  pub exports : All ProperExport m.exports
  pub start : IfSome m.start IsU32
  pub elems : All ProperElem m.elems
  pub bodies : All ProperBody m.bodies
  pub segments : All ProperSegment m.segments
  pub names : IfSome m.names (λ (bytes : List ℕ). All IsU8 bytes)
  pub same : length m.funcs ≡ length m.bodies
