-- The state that a module starts from, its segments written and its start function not run yet (WebAssembly Core Specification 1.0, section 4.5.4).
use Rattle.std.specs.Prelude.{◌≡◌, ℕ, ◌+◌, ◌*◌, ◌≤◌, true, List, [], ◌∷◌, ◌++◌, length, map, replicate, All, Option, Some, None}
use Rattle.wasm_types.specs.declared.module.Value.{Value}
use Rattle.wasm_types.specs.declared.module.Value.TheVariants as value
use Rattle.wasm_types.specs.declared.module.Limits.{Limits}
use Rattle.wasm_types.specs.declared.module.GlobalDef.{GlobalDef}
use Rattle.wasm_types.specs.declared.module.Elem.{Elem}
use Rattle.wasm_types.specs.declared.module.DataSegment.{DataSegment}
use Rattle.wasm_types.specs.declared.module.Module.{Module}
use Rattle.wasm_types.specs.declared.instr.Instr.{Instr, GlobalGet, I32Const, I64Const}
use Rattle.wasm_types.specs.Spaces.{imported, global_import, tables_of, mems_of}
use Rattle.wasm_types.specs.Validity.{IsValid}
use Rattle.wasm_meaning.specs.State.{State, Host}
use Rattle.wasm_meaning.specs.Fits.{Fits, HaveTypes, global_type}
use Rattle.wasm_meaning.specs.Cells.{cell, put}
use Rattle.wasm_meaning.specs.Operations.{number_of}
use Rattle.wasm_meaning.specs.Memory.{written, memory_length}
use Rattle.wasm_types.specs.Hosts.{is_within}

-- the value of a constant expression, of the globals' values
abbrev pub constant : List Value → List Instr → Value
constant gs (I32Const n ∷ []) = value.I32 n
constant gs (I64Const n ∷ []) = value.I64 n
constant gs (GlobalGet x ∷ []) = cell (value.I32 0) gs x
constant gs _ = value.I32 0

-- the imported globals' values, and those of the module's own
abbrev pub first_globals : Module → List Value → List Value
first_globals m gs = gs ++ map (λ (g : GlobalDef). constant gs g.init) m.globals

-- the declared minimum, and 0 where there is no memory or table
abbrev pub least : List Limits → ℕ
least [] = 0
least (l ∷ ls) = l.min

-- before the segments are written
abbrev pub bare : Module → List Value → ℕ → Host → State
bare m gs cap host = record {
  globals = first_globals m gs;
  pages = least (mems_of m);
  bytes = replicate (65536 * least (mems_of m)) 0;
  table = replicate (least (tables_of m)) None;
  cap = cap;
  host = host;
  host_calls = [];
  turns = 0;
}

-- where a segment begins
abbrev pub begins : List Value → List Instr → ℕ
begins gs code = number_of (constant gs code)

abbrev pub ElemFits : State → Elem → Type 0
ElemFits s e = is_within (begins s.globals e.offset) (length e.funcs) (length s.table) ≡ true

abbrev pub SegmentFits : State → DataSegment → Type 0
SegmentFits s d = is_within (begins s.globals d.offset) (length d.bytes) (memory_length s) ≡ true

-- the table with these functions from an entry on
abbrev pub named : ℕ → List ℕ → List (Option ℕ) → List (Option ℕ)
named at [] table = table
named at (f ∷ fs) table = named (at + 1) fs (put None at (Some f) table)

-- the segments in their order
abbrev pub table_after : List Value → List Elem → List (Option ℕ) → List (Option ℕ)
table_after gs [] table = table
table_after gs (e ∷ es) table = table_after gs es (named (begins gs e.offset) e.funcs table)

abbrev pub data_after : List Value → List DataSegment → List ℕ → List ℕ
data_after gs [] bytes = bytes
data_after gs (d ∷ ds) bytes = data_after gs ds (written (begins gs d.offset) d.bytes bytes)

abbrev pub started : Module → State → State
started m s = record s { table = table_after s.globals m.elems s.table; bytes = data_after s.globals m.segments s.bytes }

-- The imported globals' values have their types, the memory may have its minimum, and each segment fits.
pub record CanStart (m : Module) (gs : List Value) (cap : ℕ) (host : Host) : Type 0 where
  pub globals : HaveTypes gs (map global_type (imported global_import m.imports))
  pub pages : least (mems_of m) ≤ cap
  pub elems : All (ElemFits (bare m gs cap host)) m.elems
  pub segments : All (SegmentFits (bare m gs cap host)) m.segments

-- the start of a valid module fits it
abbrev pub StartsFit : Type 0
StartsFit = (m : Module) → IsValid m → (gs : List Value) (cap : ℕ) (host : Host) → CanStart m gs cap host → Fits m (started m (bare m gs cap host))
