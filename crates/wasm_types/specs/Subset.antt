-- Which modules are analysed: those with no float type or float instruction, within the limits, that nest no deeper than the greatest nesting.
use Rattle.std.specs.Prelude.{◌≡◌, ℕ, ◌+◌, ◌-◌, ◌*◌, ◌≤◌, length, Option, Some, None, All, IfSome, slice_get}
use Rattle.wasm_types.specs.declared.module.ValType.{ValType}
use Rattle.wasm_types.specs.declared.module.ValType.TheVariants.{I32, I64, F32, F64}
use Rattle.wasm_types.specs.declared.module.FuncType.{FuncType}
use Rattle.wasm_types.specs.declared.module.Limits.{Limits}
use Rattle.wasm_types.specs.declared.module.ImportKind.{ImportKind}
use Rattle.wasm_types.specs.declared.module.ImportKind.TheVariants as import
use Rattle.wasm_types.specs.declared.module.Import.{Import}
use Rattle.wasm_types.specs.declared.module.GlobalDef.{GlobalDef}
use Rattle.wasm_types.specs.declared.module.Elem.{Elem}
use Rattle.wasm_types.specs.declared.module.LocalRun.{LocalRun}
use Rattle.wasm_types.specs.declared.module.Body.{Body}
use Rattle.wasm_types.specs.declared.module.DataSegment.{DataSegment}
use Rattle.wasm_types.specs.declared.module.Module.{Module}
use Rattle.wasm_types.specs.declared.place.Part.{Part}
use Rattle.wasm_types.specs.declared.place.Part.TheVariants as part
use Rattle.wasm_types.specs.declared.limits.TheConstants.{MOST_FUNCTIONS, MOST_PARAMS, MOST_GLOBALS, MOST_ENTRIES, MOST_LOCALS, MOST_POSITIONS, MOST_NESTING}
use Rattle.wasm_types.specs.declared.place.LimitKind.{LimitKind}
use Rattle.wasm_types.specs.declared.place.LimitKind.TheVariants as limit
use Rattle.wasm_types.specs.declared.instr.Instr.{Instr, Float}
use Rattle.wasm_types.specs.Code.{Code, done, one, block, repeat, branch, code_of, nest}
use Rattle.wasm_types.specs.Sections.{local_count}
use Rattle.wasm_types.specs.Sizes.{HasAtMost, positions}
use Rattle.wasm_types.specs.Spaces.{func_types, tables_of, globals_of, imported, global_import, HasBody}
use Rattle.wasm_types.specs.Validity.{IsValid}

-- ---- floats

abbrev pub IsInteger : ValType → Type 0
IsInteger I32 = Unit {0}
IsInteger I64 = Unit {0}
IsInteger F32 = ⊥
IsInteger F64 = ⊥

abbrev pub IsIntegerKind : Option ValType → Type 0
IsIntegerKind None = Unit {0}
IsIntegerKind (Some t) = IsInteger t

abbrev pub IsIntegerInstr : Instr → Type 0
IsIntegerInstr (Float f) = ⊥
IsIntegerInstr _ = Unit {0}

abbrev pub IsIntegerCode : Code → Type 0
IsIntegerCode done = Unit {0}
IsIntegerCode (one i rest) = IsIntegerInstr i × IsIntegerCode rest
IsIntegerCode (block kind inner rest) = IsIntegerKind kind × IsIntegerCode inner × IsIntegerCode rest
IsIntegerCode (repeat kind inner rest) = IsIntegerKind kind × IsIntegerCode inner × IsIntegerCode rest
IsIntegerCode (branch kind first second rest) = IsIntegerKind kind × IsIntegerCode first × IsIntegerCode second × IsIntegerCode rest

abbrev pub IsIntegerFunc : FuncType → Type 0
IsIntegerFunc t = All IsInteger t.params × All IsInteger t.results

abbrev pub IsIntegerImport : ImportKind → Type 0
IsIntegerImport (import.Global g) = IsInteger g.kind
IsIntegerImport _ = Unit {0}

abbrev pub IsIntegerGlobal : GlobalDef → Type 0
IsIntegerGlobal g = IsInteger g.kind.kind × IsIntegerCode (code_of g.init)

abbrev pub IsIntegerElem : Elem → Type 0
IsIntegerElem e = IsIntegerCode (code_of e.offset)

-- a run of no locals has a type too
abbrev pub IsIntegerBody : Body → Type 0
IsIntegerBody b = All (λ (r : LocalRun). IsInteger r.kind) b.locals × IsIntegerCode (code_of b.code)

abbrev pub IsIntegerSegment : DataSegment → Type 0
IsIntegerSegment d = IsIntegerCode (code_of d.offset)

-- a part of the module has no float; one that isn't there has none
abbrev pub HasNoFloatIn : Module → Part → Type 0
HasNoFloatIn m (part.TypeAt k) = IfSome (slice_get m.types k) IsIntegerFunc
HasNoFloatIn m (part.ImportAt k) = IfSome (slice_get m.imports k) (λ (i : Import). IsIntegerImport i.kind)
HasNoFloatIn m (part.GlobalAt g) = (own : GlobalDef) → length (imported global_import m.imports) ≤ g → slice_get m.globals (g - length (imported global_import m.imports)) ≡ Some own → IsIntegerGlobal own
HasNoFloatIn m (part.FuncAt f) = (b : Body) → HasBody m f b → IsIntegerBody b
HasNoFloatIn m (part.ElemAt k) = IfSome (slice_get m.elems k) IsIntegerElem
HasNoFloatIn m (part.DataAt k) = IfSome (slice_get m.segments k) IsIntegerSegment
HasNoFloatIn m _ = Unit {0}

abbrev pub HasNoFloat : Module → Type 0
HasNoFloat m = (p : Part) → HasNoFloatIn m p

-- ---- limits

-- the k-th number that a limit is on, imported functions and tables first
abbrev pub Counts : Module → LimitKind → ℕ → ℕ → Type 0
Counts m limit.Functions k n = (k ≡ 0) × (n ≡ length (func_types m))
Counts m limit.Params k n = (t : FuncType) × (slice_get m.types k ≡ Some t) × (n ≡ length t.params)
Counts m limit.Globals k n = (k ≡ 0) × (n ≡ length (globals_of m))
Counts m limit.TableSize k n = (l : Limits) × (slice_get (tables_of m) k ≡ Some l) × (n ≡ l.min)
Counts m limit.Locals k n = (b : Body) × HasBody m k b × (n ≡ local_count b.locals)
Counts m limit.Positions k n = (b : Body) × HasBody m k b × (n ≡ positions b.code)

-- the greatest numbers of a module that is read
abbrev pub most_read : LimitKind → ℕ
most_read limit.Functions = MOST_FUNCTIONS
most_read limit.Params = MOST_PARAMS
most_read limit.Globals = MOST_GLOBALS
most_read limit.TableSize = MOST_ENTRIES
most_read limit.Locals = MOST_LOCALS
most_read limit.Positions = MOST_POSITIONS

-- those of a module that is answered, which may have one function more, of twice the positions
abbrev pub most_answered : LimitKind → ℕ
most_answered limit.Functions = MOST_FUNCTIONS + 1
most_answered limit.Positions = 2 * MOST_POSITIONS
most_answered which = most_read which

abbrev pub WithinLimits : (LimitKind → ℕ) → Module → Type 0
WithinLimits most m = (which : LimitKind) (k n : ℕ) → Counts m which k n → n ≤ most which

-- ---- nesting

-- each sequence of instructions nests at most so many blocks, loops and ifs
pub record NestsAtMost (most : ℕ) (m : Module) : Type 0 where
  pub globals : All (λ (g : GlobalDef). nest (code_of g.init) ≤ most) m.globals
  pub elems : All (λ (e : Elem). nest (code_of e.offset) ≤ most) m.elems
  pub bodies : All (λ (b : Body). nest (code_of b.code) ≤ most) m.bodies
  pub segments : All (λ (d : DataSegment). nest (code_of d.offset) ≤ most) m.segments

-- the greatest nesting
abbrev pub most_nesting : ℕ
most_nesting = MOST_NESTING

-- a module of the subset
pub record InSubset (m : Module) : Type 0 where
  pub no_float : HasNoFloat m
  pub limits : WithinLimits most_read m
  pub nesting : NestsAtMost most_nesting m

-- what holds of each module that is answered
pub record IsSealed (m : Module) : Type 0 where
  pub valid : IsValid m
  pub no_float : HasNoFloat m
  pub limits : WithinLimits most_answered m
  pub nesting : NestsAtMost most_nesting m
  pub entries : HasAtMost 0xFFFF_FFFF m
