-- What summaries say: for each output of a function the inputs that it may depend on (docs/ANALYSES.md, "Rows").
use Rattle.std.specs.Prelude.{◌≡◌, ◌↔◌, ◌⊎◌, ℕ, ◌+◌, ◌*◌, ◌/◌, ◌-◌, ◌^◌, ◌<◌, List, Option, Some, None, IsSome, length, sum, nat_lt, if◌then◌else◌, slice_get}
use Rattle.std.specs.List.{sum_by}
use Rattle.wasm_types.specs.declared.module.FuncType.{FuncType}
use Rattle.wasm_types.specs.declared.module.Module.{Module}
use Rattle.wasm_types.specs.declared.place.Loc.{Loc}
use Rattle.wasm_types.specs.declared.place.Loc.TheVariants.{Local, Global, Mem, Size, Host}
use Rattle.wasm_types.specs.Spaces.{func_types, globals_of, import_count, type_of_func}
use Rattle.worklist.specs.Bits.{HasBit}
use Rattle.flow_domain.specs.declared.summary.Input.{Input}
use Rattle.flow_domain.specs.declared.summary.Input.TheVariants as inp
use Rattle.flow_domain.specs.declared.summary.Output.{Output as Asked}
use Rattle.flow_domain.specs.declared.summary.Output.TheVariants as out
use Rattle.flow_domain.specs.declared.summary.Summary.{Summary}
use Rattle.flow_domain.specs.declared.summary_table.SummaryTable.{SummaryTable}
use Rattle.flow_domain.specs.Rows.{Output, Ret, Final, Done, Rows, ImportRows}

-- the location at the entry that an input is
abbrev pub place_of : Input → Loc
place_of (inp.Param k) = Local k
place_of (inp.Global k) = Global k
place_of inp.Mem = Mem
place_of inp.Size = Size
place_of inp.Host = Host

-- what is asked for by an output: the results, a location at the end, or that the run returns
abbrev pub asked : Asked → Output
asked out.Ret = Ret
asked (out.Global k) = Final (Global k)
asked out.Mem = Final Mem
asked out.Size = Final Size
asked out.Host = Final Host
asked out.Done = Done

-- ---- rows and columns

-- the k-th of so many, where there are so many before them
abbrev pub among : ℕ → ℕ → ℕ → Option ℕ
among before count k = if nat_lt k count then Some (before + k) else None

abbrev pub final_number : ℕ → Loc → Option ℕ
final_number globals (Local k) = None
final_number globals (Global k) = among 5 globals k
final_number globals Mem = Some 2
final_number globals Size = Some 3
final_number globals Host = Some 4

-- the row of an output in a summary with so many globals, if it has one
abbrev pub row_number : ℕ → Output → Option ℕ
row_number globals Done = Some 0
row_number globals Ret = Some 1
row_number globals (Final x) = final_number globals x

-- the column of an input in a summary with so many globals and parameters, if it has one
abbrev pub column_number : ℕ → ℕ → Loc → Option ℕ
column_number globals params Mem = Some 0
column_number globals params Size = Some 1
column_number globals params Host = Some 2
column_number globals params (Global k) = among 3 globals k
column_number globals params (Local k) = among (3 + globals) params k

-- the output has a row: the results, completion, and at the end a global of the module, the memory, its size, the host
abbrev pub IsKnown : ℕ → Output → Type 0
IsKnown globals o = IsSome (row_number globals o)

-- a row has a bit for each column, in words of 64 bits
abbrev pub word_count : ℕ → ℕ → ℕ
word_count globals params = (globals + params + 2) / 64 + 1

-- ---- one function

-- both are there, and the bit is set
abbrev pub IsSet : ℕ → List ℕ → Option ℕ → Option ℕ → Type 0
IsSet words bits (Some row) (Some column) = HasBit words bits row column
IsSet words bits _ _ = ⊥

abbrev pub HasInput : Summary → Output → Loc → Type 0
HasInput s o x = IsSet (word_count s.globals s.params) s.bits.items (row_number s.globals o) (column_number s.globals s.params x)

-- it has the rows and columns of a function with so many parameters, in a module with so many globals
pub record IsShape (globals params : ℕ) (s : Summary) : Type 0 where
  pub globals_is : s.globals ≡ globals
  pub params_is : s.params ≡ params

-- how much its words can grow
abbrev pub room : Summary → ℕ
room s = length s.bits.items * 2 ^ 64 - sum s.bits.items

-- ---- a module's functions

abbrev pub TableRows : SummaryTable → Rows
TableRows t f o x = (s : Summary) × ((slice_get t.rows.items f ≡ Some s) × HasInput s o x)

-- a table of a module: a summary of its shape for each function, imported ones with their rows
pub record IsTableOf (m : Module) (t : SummaryTable) : Type 0 where
  pub long : length t.rows.items ≡ length (func_types m)
  pub shapes : (f : ℕ) (kind : FuncType) (s : Summary) → type_of_func m f ≡ Some kind → slice_get t.rows.items f ≡ Some s
      → IsShape (length (globals_of m)) (length kind.params) s
  pub imports : (f : ℕ) (o : Output) (x : Loc) → f < import_count m → IsKnown (length (globals_of m)) o → TableRows t f o x ↔ ImportRows m f o x

-- function f has its old rows and those of s, the others have theirs
pub record IsMerged (f : ℕ) (s : Summary) (old new : SummaryTable) : Type 0 where
  pub long : length new.rows.items ≡ length old.rows.items
  pub shapes : (g : ℕ) (a b : Summary) → slice_get old.rows.items g ≡ Some a → slice_get new.rows.items g ≡ Some b → IsShape a.globals a.params b
  pub rows : (g : ℕ) (o : Output) (x : Loc) → TableRows new g o x ↔ (TableRows old g o x ⊎ ((g ≡ f) × HasInput s o x))

-- how much its words can grow
abbrev pub table_room : SummaryTable → ℕ
table_room t = sum_by room t.rows.items
