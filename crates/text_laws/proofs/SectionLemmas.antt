-- A text spells at most one of each part of a module, and none begins a text of another.
use Rattle.std.proofs.Common.{◌≡◌, ◌==◌, ℕ, inl, Bool, true, false, List, [], ◌∷◌, ◌++◌, length, Option, Some, None, refl, sym, ap, ◌∙◌, append_assoc, arith}
use Rattle.std.specs.Prelude.{if◌then◌else◌}
use Rattle.wasm_types.specs.declared.module.ValType.{ValType}
use Rattle.wasm_types.specs.declared.module.ValType.TheVariants as type
use Rattle.wasm_types.specs.declared.module.FuncType.{FuncType}
use Rattle.wasm_types.specs.declared.module.Limits.{Limits}
use Rattle.wasm_types.specs.declared.module.GlobalType.{GlobalType}
use Rattle.wasm_types.specs.declared.module.Name.{Name}
use Rattle.wasm_types.specs.declared.module.ImportKind.{ImportKind}
use Rattle.wasm_types.specs.declared.module.ImportKind.TheVariants as import
use Rattle.wasm_types.specs.declared.module.Import.{Import}
use Rattle.wasm_types.specs.declared.module.GlobalDef.{GlobalDef}
use Rattle.wasm_types.specs.declared.module.ExportKind.{ExportKind}
use Rattle.wasm_types.specs.declared.module.ExportKind.TheVariants as export
use Rattle.wasm_types.specs.declared.module.Export.{Export}
use Rattle.wasm_types.specs.declared.module.Elem.{Elem}
use Rattle.wasm_types.specs.declared.module.LocalRun.{LocalRun}
use Rattle.wasm_types.specs.declared.module.Body.{Body}
use Rattle.wasm_types.specs.declared.module.DataSegment.{DataSegment}
use Rattle.wasm_types.specs.declared.instr.Instr.{Instr}
use Rattle.wasm_types.specs.Numbers.{SpellsU32}
use Rattle.wasm_types.specs.Code.{code_of}
use Rattle.wasm_types.specs.Parts.{Behind, Both, Counted, Raw, Sized, Within}
use Rattle.wasm_types.specs.Types.{type_byte, SpellsValType, SpellsFuncType, LimitsFrom, SpellsLimits, SpellsTableType, mutable_byte, SpellsMutable, SpellsGlobalType}
use Rattle.wasm_types.specs.Grammar.{SpellsInstrs}
use Rattle.wasm_types.specs.Sections.{SpellsName, SpellsCustom, SpellsTypes, SpellsImportKind, SpellsImport, SpellsImports, SpellsFuncs, SpellsTables, SpellsMems, SpellsGlobal, SpellsGlobals, export_byte, SpellsExportKind, SpellsExport, SpellsExports, SpellsElem, SpellsElems, SpellsRun, SpellsBody, SpellsBodies, SpellsSegment, SpellsSegments}
use Rattle.wasm_types.proofs.CodeLemmas.{code_of-injective}
use Rattle.text_laws.proofs.CodeUnique.{one_code}
use Rattle.text_laws.proofs.Once.{IsOnce, after, once_then, once_both, once_counted, once_u32, pair_is}

-- ---- ways to make one relation of another

-- the same text of a value that is seen otherwise
pub once_seen : {A B : Type 0} (P : List ℕ → B → Type 0) (see : A → B) (back : B → A) → ((v : A) → back (see v) ≡ v) → IsOnce P
    → IsOnce (λ text (v : A). P text (see v))
once_seen P see back is once a b x y m n p q e = let r = once a b x y (see m) (see n) p q e in (r.0, sym (is m) ∙ ap back r.1 ∙ is n)

pub once_behind : {A : Type 0} (byte : ℕ) (P : List ℕ → A → Type 0) → IsOnce P → IsOnce (λ text v. Behind byte (λ rest. P rest v) text)
once_behind byte P once a b x y m n p q e =
    let h : byte ∷ (p.rest ++ x) ≡ byte ∷ (q.rest ++ y) = ap (λ (t : List ℕ). t ++ x) (sym p.parts) ∙ e ∙ ap (λ (t : List ℕ). t ++ y) q.parts in
    let r = once p.rest q.rest x y m n p.spelled q.spelled cc in
    (p.parts ∙ ap (λ (t : List ℕ). byte ∷ t) r.0 ∙ sym q.parts, r.1)

-- one byte that tells the value
pub once_byte : {A : Type 0} (byte : A → ℕ) (back : ℕ → A) → ((v : A) → back (byte v) ≡ v) → IsOnce (λ text v. text ≡ byte v ∷ [])
once_byte byte back is a b x y m n p q e =
    let h : byte m ∷ x ≡ byte n ∷ y = ap (λ (t : List ℕ). t ++ x) (sym p) ∙ e ∙ ap (λ (t : List ℕ). t ++ y) q in
    let same : byte m ≡ byte n = cc in
    (p ∙ ap (λ (c : ℕ). c ∷ []) same ∙ sym q, sym (is m) ∙ ap back same ∙ is n)

-- a fact beside the text says nothing of it
pub once_with : {A : Type 0} (P : List ℕ → A → Type 0) (Q : A → Type 0) → IsOnce P → IsOnce (λ text v. P text v × Q v)
once_with P Q once a b x y m n p q e = once a b x y m n p.0 q.0 e

same_length : (c d x y : List ℕ) → length c ≡ length d → c ++ x ≡ d ++ y → c ≡ d
same_length [] [] x y l e = refl
same_length [] (b ∷ bs) x y l e = absurd (omega arith)
same_length (a ∷ cs) [] x y l e = absurd (omega arith)
same_length (a ∷ cs) (b ∷ bs) x y l e = let t : cs ++ x ≡ bs ++ y = cc in let h : a ≡ b = cc in cc (h, same_length cs bs x y (omega arith) t)

pub once_sized : IsOnce Sized
once_sized a b x y m n s t e =
    let r = once_then SpellsU32 Raw a b x y (length m) (length n) m n once_u32 (λ c d same u v h. let g : c ≡ d = same_length c d x y (ap length u ∙ same ∙ sym (ap length v)) h in (g, sym u ∙ g ∙ v)) s t e in
    (r.0, r.2)

-- so many bytes, which spell the value to their end
pub once_within : {A : Type 0} (P : List ℕ → A → Type 0) → IsOnce P → IsOnce (Within P)
once_within P once a b x y m n p q e =
    let r = once_sized a b x y p.inner q.inner p.sized q.sized e in
    let s = once p.inner q.inner [] [] m n p.spelled q.spelled (ap (λ (t : List ℕ). t ++ []) r.1) in
    (r.0, s.1)

-- two texts to their end
pub whole_is : {A : Type 0} (P : List ℕ → A → Type 0) → IsOnce P → (text : List ℕ) (m n : A) → P text m → P text n → m ≡ n
whole_is P once text m n p q = (once text text [] [] m n p q refl).1

-- ---- types

abbrev pub type_of : ℕ → ValType
type_of n = if n == 0x7F then type.I32 else (if n == 0x7E then type.I64 else (if n == 0x7D then type.F32 else type.F64))

pub type_back : (t : ValType) → type_of (type_byte t) ≡ t
type_back type.I32 = refl
type_back type.I64 = refl
type_back type.F32 = refl
type_back type.F64 = refl

pub once_type : IsOnce SpellsValType
once_type = once_byte type_byte type_of type_back

abbrev func_type_of : List ValType × List ValType → FuncType
func_type_of v = record { params = v.0; results = v.1 }

pub once_func_type : IsOnce SpellsFuncType
once_func_type =
    let each = once_counted SpellsValType once_type in
    once_seen (λ text (v : List ValType × List ValType). Behind 0x60 (λ rest. Both (Counted SpellsValType) (Counted SpellsValType) rest v) text) (λ (t : FuncType). (t.params, t.results)) func_type_of (λ t. refl)
    (once_behind 0x60 (Both (Counted SpellsValType) (Counted SpellsValType)) (once_both (Counted SpellsValType) (Counted SpellsValType) each each))

first_bytes : (c d : ℕ) (r s a b x y : List ℕ) → a ≡ c ∷ r → b ≡ d ∷ s → a ++ x ≡ b ++ y → c ≡ d
first_bytes c d r s a b x y p q e = let h : c ∷ (r ++ x) ≡ d ∷ (s ++ y) = ap (λ (t : List ℕ). t ++ x) (sym p) ∙ e ∙ ap (λ (t : List ℕ). t ++ y) q in cc

limits_once : (a b x y : List ℕ) (m n : ℕ) (k l : Option ℕ) → LimitsFrom m k a → LimitsFrom n l b → a ++ x ≡ b ++ y → (a ≡ b) × (m ≡ n) × (k ≡ l)
limits_once a b x y m n None None p q e = let r = once_behind 0x00 SpellsU32 once_u32 a b x y m n p q e in (r.0, r.1, refl)
limits_once a b x y m n None (Some l) p q e = absurd (omega (arith, first_bytes 0x00 0x01 p.rest q.rest a b x y p.parts q.parts e))
limits_once a b x y m n (Some k) None p q e = absurd (omega (arith, first_bytes 0x01 0x00 p.rest q.rest a b x y p.parts q.parts e))
limits_once a b x y m n (Some k) (Some l) p q e =
    let r = once_behind 0x01 (Both SpellsU32 SpellsU32) (once_both SpellsU32 SpellsU32 once_u32 once_u32) a b x y (m, k) (n, l) p q e in
    (r.0, ap (λ (v : ℕ × ℕ). v.0) r.1, ap (λ (v : ℕ × ℕ). Some v.1) r.1)

abbrev limits_of : ℕ × Option ℕ → Limits
limits_of v = record { min = v.0; max = v.1 }

pub once_limits : IsOnce SpellsLimits
once_limits a b x y m n p q e =
    let r = limits_once a b x y m.min n.min m.max n.max p q e in
    (r.0, ap (λ (v : ℕ × Option ℕ). limits_of v) (pair_is (m.min, m.max) (n.min, n.max) r.1 r.2))

pub once_table_type : IsOnce SpellsTableType
once_table_type = once_behind 0x70 SpellsLimits once_limits

abbrev mutable_of : ℕ → Bool
mutable_of n = if n == 0x01 then true else false

mutable_back : (b : Bool) → mutable_of (mutable_byte b) ≡ b
mutable_back false = refl
mutable_back true = refl

pub once_mutable : IsOnce SpellsMutable
once_mutable = once_byte mutable_byte mutable_of mutable_back

abbrev global_type_of : ValType × Bool → GlobalType
global_type_of v = record { kind = v.0; mutable = v.1 }

pub once_global_type : IsOnce SpellsGlobalType
once_global_type = once_seen (Both SpellsValType SpellsMutable) (λ (g : GlobalType). (g.kind, g.mutable)) global_type_of (λ g. refl) (once_both SpellsValType SpellsMutable once_type once_mutable)

-- ---- expressions

pub once_instrs : IsOnce SpellsInstrs
once_instrs a b x y m n p q e =
    let h : p.inner ++ 0x0B ∷ x ≡ q.inner ++ 0x0B ∷ y = sym (append_assoc p.inner (0x0B ∷ []) x) ∙ ap (λ (t : List ℕ). t ++ x) (sym p.parts) ∙ e ∙ ap (λ (t : List ℕ). t ++ y) q.parts ∙ append_assoc q.inner (0x0B ∷ []) y in
    let r = one_code (code_of m) (code_of n) p.inner q.inner x y 0x0B 0x0B p.contents q.contents (inl refl) (inl refl) h in
    (p.parts ∙ ap (λ (t : List ℕ). t ++ 0x0B ∷ []) r.1 ∙ sym q.parts, code_of-injective m n r.0)

-- ---- names and custom sections

abbrev name_of : List ℕ → Name
name_of bytes = record { bytes = bytes }

pub once_name : IsOnce SpellsName
once_name a b x y m n p q e = let r = once_sized a b x y m.bytes n.bytes p.0 q.0 e in (r.0, ap (λ (v : List ℕ). name_of v) r.1)

pub one_custom : (text : List ℕ) (m n : Name × List ℕ) → SpellsCustom text m → SpellsCustom text n → m ≡ n
one_custom text m n p q =
    let e : p.front ++ p.back ≡ q.front ++ q.back = sym p.parts ∙ q.parts in
    let r = once_name p.front q.front p.back q.back m.0 n.0 p.first q.first e in
    pair_is m n r.1 (sym p.second ∙ after p.front q.front p.back q.back r.0 e ∙ q.second)

-- ---- the contents of sections

pub once_types : IsOnce SpellsTypes
once_types = once_counted SpellsFuncType once_func_type

pub once_import_kind : IsOnce SpellsImportKind
once_import_kind a b x y (import.Func m) (import.Func n) p q e = let r = once_behind 0x00 SpellsU32 once_u32 a b x y m n p q e in (r.0, ap import.Func r.1)
once_import_kind a b x y (import.Table m) (import.Table n) p q e = let r = once_behind 0x01 SpellsTableType once_table_type a b x y m n p q e in (r.0, ap import.Table r.1)
once_import_kind a b x y (import.Memory m) (import.Memory n) p q e = let r = once_behind 0x02 SpellsLimits once_limits a b x y m n p q e in (r.0, ap import.Memory r.1)
once_import_kind a b x y (import.Global m) (import.Global n) p q e = let r = once_behind 0x03 SpellsGlobalType once_global_type a b x y m n p q e in (r.0, ap import.Global r.1)
once_import_kind a b x y (import.Func m) (import.Table n) p q e = absurd (omega (arith, first_bytes 0x00 0x01 p.rest q.rest a b x y p.parts q.parts e))
once_import_kind a b x y (import.Func m) (import.Memory n) p q e = absurd (omega (arith, first_bytes 0x00 0x02 p.rest q.rest a b x y p.parts q.parts e))
once_import_kind a b x y (import.Func m) (import.Global n) p q e = absurd (omega (arith, first_bytes 0x00 0x03 p.rest q.rest a b x y p.parts q.parts e))
once_import_kind a b x y (import.Table m) (import.Func n) p q e = absurd (omega (arith, first_bytes 0x01 0x00 p.rest q.rest a b x y p.parts q.parts e))
once_import_kind a b x y (import.Table m) (import.Memory n) p q e = absurd (omega (arith, first_bytes 0x01 0x02 p.rest q.rest a b x y p.parts q.parts e))
once_import_kind a b x y (import.Table m) (import.Global n) p q e = absurd (omega (arith, first_bytes 0x01 0x03 p.rest q.rest a b x y p.parts q.parts e))
once_import_kind a b x y (import.Memory m) (import.Func n) p q e = absurd (omega (arith, first_bytes 0x02 0x00 p.rest q.rest a b x y p.parts q.parts e))
once_import_kind a b x y (import.Memory m) (import.Table n) p q e = absurd (omega (arith, first_bytes 0x02 0x01 p.rest q.rest a b x y p.parts q.parts e))
once_import_kind a b x y (import.Memory m) (import.Global n) p q e = absurd (omega (arith, first_bytes 0x02 0x03 p.rest q.rest a b x y p.parts q.parts e))
once_import_kind a b x y (import.Global m) (import.Func n) p q e = absurd (omega (arith, first_bytes 0x03 0x00 p.rest q.rest a b x y p.parts q.parts e))
once_import_kind a b x y (import.Global m) (import.Table n) p q e = absurd (omega (arith, first_bytes 0x03 0x01 p.rest q.rest a b x y p.parts q.parts e))
once_import_kind a b x y (import.Global m) (import.Memory n) p q e = absurd (omega (arith, first_bytes 0x03 0x02 p.rest q.rest a b x y p.parts q.parts e))

abbrev import_of : Name × (Name × ImportKind) → Import
import_of v = record { «module» = v.0; name = v.1.0; kind = v.1.1 }

pub once_import : IsOnce SpellsImport
once_import =
    once_seen (Both SpellsName (Both SpellsName SpellsImportKind)) (λ (i : Import). (i.module, (i.name, i.kind))) import_of (λ i. refl)
    (once_both SpellsName (Both SpellsName SpellsImportKind) once_name (once_both SpellsName SpellsImportKind once_name once_import_kind))

pub once_imports : IsOnce SpellsImports
once_imports = once_counted SpellsImport once_import

pub once_funcs : IsOnce SpellsFuncs
once_funcs = once_counted SpellsU32 once_u32

pub once_tables : IsOnce SpellsTables
once_tables = once_counted SpellsTableType once_table_type

pub once_mems : IsOnce SpellsMems
once_mems = once_counted SpellsLimits once_limits

abbrev global_of : GlobalType × List Instr → GlobalDef
global_of v = record { kind = v.0; init = v.1 }

pub once_global : IsOnce SpellsGlobal
once_global = once_seen (Both SpellsGlobalType SpellsInstrs) (λ (g : GlobalDef). (g.kind, g.init)) global_of (λ g. refl) (once_both SpellsGlobalType SpellsInstrs once_global_type once_instrs)

pub once_globals : IsOnce SpellsGlobals
once_globals = once_counted SpellsGlobal once_global

abbrev pub export_of : ℕ → ExportKind
export_of n = if n == 0x00 then export.Func else (if n == 0x01 then export.Table else (if n == 0x02 then export.Memory else export.Global))

pub export_back : (k : ExportKind) → export_of (export_byte k) ≡ k
export_back export.Func = refl
export_back export.Table = refl
export_back export.Memory = refl
export_back export.Global = refl

pub once_export_kind : IsOnce SpellsExportKind
once_export_kind = once_byte export_byte export_of export_back

abbrev export_with : Name × (ExportKind × ℕ) → Export
export_with v = record { name = v.0; kind = v.1.0; index = v.1.1 }

pub once_export : IsOnce SpellsExport
once_export =
    once_seen (Both SpellsName (Both SpellsExportKind SpellsU32)) (λ (x : Export). (x.name, (x.kind, x.index))) export_with (λ x. refl)
    (once_both SpellsName (Both SpellsExportKind SpellsU32) once_name (once_both SpellsExportKind SpellsU32 once_export_kind once_u32))

pub once_exports : IsOnce SpellsExports
once_exports = once_counted SpellsExport once_export

abbrev elem_of : ℕ × (List Instr × List ℕ) → Elem
elem_of v = record { table = v.0; offset = v.1.0; funcs = v.1.1 }

pub once_elem : IsOnce SpellsElem
once_elem =
    once_seen (Both SpellsU32 (Both SpellsInstrs (Counted SpellsU32))) (λ (x : Elem). (x.table, (x.offset, x.funcs))) elem_of (λ x. refl)
    (once_both SpellsU32 (Both SpellsInstrs (Counted SpellsU32)) once_u32 (once_both SpellsInstrs (Counted SpellsU32) once_instrs once_funcs))

pub once_elems : IsOnce SpellsElems
once_elems = once_counted SpellsElem once_elem

abbrev run_of : ℕ × ValType → LocalRun
run_of v = record { count = v.0; kind = v.1 }

pub once_run : IsOnce SpellsRun
once_run =
    once_seen (Both SpellsU32 SpellsValType) (λ (r : LocalRun). (r.count, r.kind)) run_of (λ r. refl) (once_both SpellsU32 SpellsValType once_u32 once_type)

abbrev body_of : List LocalRun × List Instr → Body
body_of v = record { locals = v.0; code = v.1 }

pub once_body : IsOnce SpellsBody
once_body a b x y m n p q e =
    let runs = once_counted SpellsRun once_run in
    let r = once_both (Counted SpellsRun) SpellsInstrs runs once_instrs a b x y (m.locals, m.code) (n.locals, n.code) p.0 q.0 e in
    (r.0, ap (λ (v : List LocalRun × List Instr). body_of v) r.1)

pub once_bodies : IsOnce SpellsBodies
once_bodies = once_counted (Within SpellsBody) (once_within SpellsBody once_body)

abbrev segment_of : ℕ × (List Instr × List ℕ) → DataSegment
segment_of v = record { memory = v.0; offset = v.1.0; bytes = v.1.1 }

pub once_segment : IsOnce SpellsSegment
once_segment =
    once_seen (Both SpellsU32 (Both SpellsInstrs Sized)) (λ (x : DataSegment). (x.memory, (x.offset, x.bytes))) segment_of (λ x. refl)
    (once_both SpellsU32 (Both SpellsInstrs Sized) once_u32 (once_both SpellsInstrs Sized once_instrs once_sized))

pub once_segments : IsOnce SpellsSegments
once_segments = once_counted SpellsSegment once_segment
