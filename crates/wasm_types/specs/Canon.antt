-- The canonical spelling (docs/FORMAT.md): every number in its shortest spelling, no empty section, no byte for else before an empty arm,
-- the sections in rising order of id, and the payload of `name` last.
use Rattle.std.specs.Prelude.{ℕ, ◌/◌, ◌%◌, List, [], ◌∷◌, ◌++◌, length, Option, Some, None, codes}
use Rattle.wasm_types.specs.declared.module.ValType.{ValType}
use Rattle.wasm_types.specs.declared.module.FuncType.{FuncType}
use Rattle.wasm_types.specs.declared.module.Limits.{Limits}
use Rattle.wasm_types.specs.declared.module.GlobalType.{GlobalType}
use Rattle.wasm_types.specs.declared.module.Name.{Name}
use Rattle.wasm_types.specs.declared.module.ImportKind.{ImportKind}
use Rattle.wasm_types.specs.declared.module.ImportKind.TheVariants as import
use Rattle.wasm_types.specs.declared.module.Import.{Import}
use Rattle.wasm_types.specs.declared.module.GlobalDef.{GlobalDef}
use Rattle.wasm_types.specs.declared.module.Export.{Export}
use Rattle.wasm_types.specs.declared.module.Elem.{Elem}
use Rattle.wasm_types.specs.declared.module.LocalRun.{LocalRun}
use Rattle.wasm_types.specs.declared.module.Body.{Body}
use Rattle.wasm_types.specs.declared.module.DataSegment.{DataSegment}
use Rattle.wasm_types.specs.declared.module.Module.{Module}
use Rattle.wasm_types.specs.declared.instr.Instr.{Instr}
use Rattle.wasm_types.specs.Code.{Code, done, one, block, repeat, branch, code_of}
use Rattle.wasm_types.specs.Numbers.{shortest_u32, shortest_s32, shortest_s64}
use Rattle.wasm_types.specs.Types.{type_byte, kind_byte, mutable_byte}
use Rattle.wasm_types.specs.Plain.{Immediates, nothing, number, labels, signature, address, memory, signed_32, signed_64, raw_32, raw_64, bulk, never, memories_of, opcode, immediates}
use Rattle.wasm_types.specs.Sections.{export_byte}
use Rattle.wasm_types.specs.Modules.{header}

-- ---- lists

-- the texts of the items, one after another
abbrev pub canon_each : {A : Type 0} → (A → List ℕ) → List A → List ℕ
canon_each canon [] = []
canon_each canon (x ∷ xs) = canon x ++ canon_each canon xs

abbrev pub canon_counted : {A : Type 0} → (A → List ℕ) → List A → List ℕ
canon_counted canon xs = shortest_u32 (length xs) ++ canon_each canon xs

abbrev pub canon_sized : List ℕ → List ℕ
canon_sized bytes = shortest_u32 (length bytes) ++ bytes

-- ---- code

abbrev pub canon_numbers : List ℕ → List ℕ
canon_numbers ns = canon_each shortest_u32 ns

abbrev pub canon_raw_32 : ℕ → List ℕ
canon_raw_32 n = n % 256 ∷ n / 256 % 256 ∷ n / 65536 % 256 ∷ n / 16777216 ∷ []

abbrev pub canon_immediates : Immediates → List ℕ
canon_immediates nothing = []
canon_immediates (number n) = shortest_u32 n
canon_immediates (labels some label) = canon_counted shortest_u32 some ++ shortest_u32 label
canon_immediates (signature type) = shortest_u32 type ++ shortest_u32 0
canon_immediates (address align offset) = shortest_u32 align ++ shortest_u32 offset
canon_immediates memory = 0x00 ∷ []
canon_immediates (signed_32 n) = shortest_s32 n
canon_immediates (signed_64 n) = shortest_s64 n
canon_immediates (raw_32 n) = canon_raw_32 n
canon_immediates (raw_64 n) = canon_raw_32 (n % 4294967296) ++ canon_raw_32 (n / 4294967296)
canon_immediates (bulk n) = shortest_u32 n ++ memories_of n
canon_immediates never = []

abbrev pub canon_plain : Instr → List ℕ
canon_plain i = opcode i ∷ canon_immediates (immediates i)

-- the byte for else before the text of the second arm, where it has one
abbrev pub else_part : List ℕ → List ℕ
else_part [] = []
else_part (b ∷ bs) = 0x05 ∷ b ∷ bs

abbrev pub canon_code : Code → List ℕ
canon_code done = []
canon_code (one i rest) = canon_plain i ++ canon_code rest
canon_code (block kind inner rest) = (0x02 ∷ kind_byte kind ∷ canon_code inner ++ 0x0B ∷ []) ++ canon_code rest
canon_code (repeat kind inner rest) = (0x03 ∷ kind_byte kind ∷ canon_code inner ++ 0x0B ∷ []) ++ canon_code rest
canon_code (branch kind first second rest) = (0x04 ∷ kind_byte kind ∷ canon_code first ++ (else_part (canon_code second) ++ 0x0B ∷ [])) ++ canon_code rest

abbrev pub canon_instrs : List Instr → List ℕ
canon_instrs is = canon_code (code_of is) ++ 0x0B ∷ []

-- ---- types

abbrev pub canon_type : ValType → List ℕ
canon_type t = type_byte t ∷ []

abbrev pub canon_func_type : FuncType → List ℕ
canon_func_type t = 0x60 ∷ (canon_counted canon_type t.params ++ canon_counted canon_type t.results)

abbrev pub canon_limits_from : ℕ → Option ℕ → List ℕ
canon_limits_from min None = 0x00 ∷ shortest_u32 min
canon_limits_from min (Some max) = 0x01 ∷ (shortest_u32 min ++ shortest_u32 max)

abbrev pub canon_limits : Limits → List ℕ
canon_limits l = canon_limits_from l.min l.max

abbrev pub canon_table_type : Limits → List ℕ
canon_table_type l = 0x70 ∷ canon_limits l

abbrev pub canon_global_type : GlobalType → List ℕ
canon_global_type g = type_byte g.kind ∷ mutable_byte g.mutable ∷ []

-- ---- the contents of sections

abbrev pub canon_name : Name → List ℕ
canon_name n = canon_sized n.bytes

abbrev pub canon_import_kind : ImportKind → List ℕ
canon_import_kind (import.Func type) = 0x00 ∷ shortest_u32 type
canon_import_kind (import.Table l) = 0x01 ∷ canon_table_type l
canon_import_kind (import.Memory l) = 0x02 ∷ canon_limits l
canon_import_kind (import.Global g) = 0x03 ∷ canon_global_type g

abbrev pub canon_import : Import → List ℕ
canon_import i = canon_name i.module ++ (canon_name i.name ++ canon_import_kind i.kind)

abbrev pub canon_global : GlobalDef → List ℕ
canon_global g = canon_global_type g.kind ++ canon_instrs g.init

abbrev pub canon_export : Export → List ℕ
canon_export e = canon_name e.name ++ export_byte e.kind ∷ shortest_u32 e.index

abbrev pub canon_elem : Elem → List ℕ
canon_elem e = shortest_u32 e.table ++ (canon_instrs e.offset ++ canon_counted shortest_u32 e.funcs)

abbrev pub canon_run : LocalRun → List ℕ
canon_run r = shortest_u32 r.count ++ canon_type r.kind

abbrev pub canon_body : Body → List ℕ
canon_body b = canon_counted canon_run b.locals ++ canon_instrs b.code

abbrev pub canon_entry : Body → List ℕ
canon_entry b = canon_sized (canon_body b)

abbrev pub canon_segment : DataSegment → List ℕ
canon_segment d = shortest_u32 d.memory ++ (canon_instrs d.offset ++ canon_sized d.bytes)

-- ---- sections

abbrev pub canon_section : ℕ → List ℕ → List ℕ
canon_section id contents = id ∷ canon_sized contents

-- the section of a list, and nothing for an empty one
abbrev pub canon_list : {A : Type 0} → ℕ → (A → List ℕ) → List A → List ℕ
canon_list id canon [] = []
canon_list id canon (x ∷ xs) = canon_section id (canon_counted canon (x ∷ xs))

abbrev pub canon_start : Option ℕ → List ℕ
canon_start None = []
canon_start (Some func) = canon_section 8 (shortest_u32 func)

abbrev pub canon_names : Option (List ℕ) → List ℕ
canon_names None = []
canon_names (Some payload) = canon_section 0 (canon_sized (codes "name") ++ payload)

abbrev pub canon : Module → List ℕ
canon m =
    header ++ canon_list 1 canon_func_type m.types ++ canon_list 2 canon_import m.imports ++ canon_list 3 shortest_u32 m.funcs
    ++ canon_list 4 canon_table_type m.tables ++ canon_list 5 canon_limits m.mems ++ canon_list 6 canon_global m.globals
    ++ canon_list 7 canon_export m.exports ++ canon_start m.start ++ canon_list 9 canon_elem m.elems
    ++ canon_list 10 canon_entry m.bodies ++ canon_list 11 canon_segment m.segments ++ canon_names m.names
