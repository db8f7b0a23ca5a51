-- The canonical spelling is a spelling, if it is no longer than a section may be.
use Rattle.std.proofs.Common.{ℕ, ◌/◌, ◌%◌, ◌<◌, ◌^◌, ◌≤◌, inl, inr, List, [], ◌∷◌, ◌++◌, length, Option, Some, None, refl, arith, length-append}
use Rattle.std.specs.Prelude.{All, IfSome}
use Rattle.std.proofs.lemmas.List.Elements.{All-head, All-tail}
use Rattle.wasm_types.specs.declared.module.ValType.{ValType}
use Rattle.wasm_types.specs.declared.module.FuncType.{FuncType}
use Rattle.wasm_types.specs.declared.module.Limits.{Limits}
use Rattle.wasm_types.specs.declared.module.GlobalType.{GlobalType}
use Rattle.wasm_types.specs.declared.module.ImportKind.{ImportKind}
use Rattle.wasm_types.specs.declared.module.ImportKind.TheVariants as import
use Rattle.wasm_types.specs.declared.module.Import.{Import}
use Rattle.wasm_types.specs.declared.module.GlobalDef.{GlobalDef}
use Rattle.wasm_types.specs.declared.module.Export.{Export}
use Rattle.wasm_types.specs.declared.module.Elem.{Elem}
use Rattle.wasm_types.specs.declared.module.LocalRun.{LocalRun}
use Rattle.wasm_types.specs.declared.module.Body.{Body}
use Rattle.wasm_types.specs.declared.module.DataSegment.{DataSegment}
use Rattle.wasm_types.specs.Numbers.{SpellsU32, shortest_u32}
use Rattle.wasm_types.specs.Parts.{Behind, Both, Each, Counted, Sized, Within}
use Rattle.wasm_types.specs.Code.{Code, done, one, block, repeat, branch, code_of}
use Rattle.wasm_types.specs.Types.{kind_byte, SpellsValType, SpellsFuncType, LimitsFrom, SpellsLimits, SpellsTableType, mutable_byte, SpellsGlobalType}
use Rattle.wasm_types.specs.Plain.{Immediates, nothing, number, labels, signature, address, memory, signed_32, signed_64, raw_32, raw_64, bulk, never, memories_of, immediates, SpellsRaw32, SpellsImmediates}
use Rattle.wasm_types.specs.Grammar.{HasArms, SpellsCode, SpellsInstrs}
use Rattle.wasm_types.specs.Sections.{export_byte, SpellsName, SpellsImportKind, SpellsImport, SpellsGlobal, SpellsExport, SpellsElem, SpellsRun, SpellsBody, SpellsSegment}
use Rattle.wasm_types.specs.WellFormed.{IsU32, ProperImmediates, ProperCode, ProperInstrs, ProperLimits, ProperName, ProperImportKind, ProperImport, ProperGlobal, ProperExport, ProperElem, ProperBody, ProperSegment}
use Rattle.wasm_types.specs.Canon.{canon_each, canon_counted, canon_sized, canon_raw_32, canon_immediates, canon_plain, else_part, canon_code, canon_instrs, canon_type, canon_func_type, canon_limits_from, canon_limits, canon_table_type, canon_global_type, canon_name, canon_import_kind, canon_import, canon_global, canon_export, canon_elem, canon_run, canon_body, canon_entry, canon_segment}
use Rattle.text_laws.proofs.NumberLemmas.{shortest_spells, signed_spells, shortest_some}

-- ---- lengths

pub left : (a b : List ℕ) → length (a ++ b) < 2 ^ 32 → length a < 2 ^ 32
left a b lt = omega (arith, length-append a b)

pub right : (a b : List ℕ) → length (a ++ b) < 2 ^ 32 → length b < 2 ^ 32
right a b lt = omega (arith, length-append a b)

pub some_u32 : (n : ℕ) → 1 ≤ length (shortest_u32 n)
some_u32 n = shortest_some 4 n

-- a text that begins with some
pub some_front : (a b : List ℕ) → 1 ≤ length a → 1 ≤ length (a ++ b)
some_front a b some = omega (arith, length-append a b)

-- a list is no longer than the text of its items
pub each_long : {A : Type 0} (f : A → List ℕ) → ((x : A) → 1 ≤ length (f x)) → (xs : List A) → length xs ≤ length (canon_each f xs)
each_long f some [] = omega arith
each_long f some (x ∷ xs) = omega (arith, some x, each_long f some xs, length-append (f x) (canon_each f xs))

-- ---- numbers and lists

-- the canonical text of each value of the kind is a text of it, unless it is too long
abbrev pub IsSpelled : {A : Type 0} → (List ℕ → A → Type 0) → (A → List ℕ) → (A → Type 0) → Type 0
IsSpelled {A} P f Q = (v : A) → Q v → length (f v) < 2 ^ 32 → P (f v) v

pub u32_spelled : (n : ℕ) → n < 2 ^ 32 → SpellsU32 (shortest_u32 n) n
u32_spelled n lt = shortest_spells 4 n (omega arith)

pub spelled_u32 : IsSpelled SpellsU32 shortest_u32 IsU32
spelled_u32 n h lt = u32_spelled n h

both : {A B : Type 0} (P : List ℕ → A → Type 0) (Q : List ℕ → B → Type 0) (a b : List ℕ) (v : A × B) → P a v.0 → Q b v.1 → Both P Q (a ++ b) v
both P Q a b v p q = record { front = a; back = b; parts = refl; first = p; second = q }

behind : (byte : ℕ) (P : List ℕ → Type 0) (a : List ℕ) → P a → Behind byte P (byte ∷ a)
behind byte P a p = record { rest = a; parts = refl; spelled = p }

each_spelled : {A : Type 0} (P : List ℕ → A → Type 0) (f : A → List ℕ) (Q : A → Type 0) → IsSpelled P f Q → (xs : List A) → All Q xs
    → length (canon_each f xs) < 2 ^ 32 → Each P (canon_each f xs) xs
each_spelled P f Q law [] h lt = refl
each_spelled P f Q law (x ∷ xs) h lt = record {
  front = f x;
  back = canon_each f xs;
  parts = refl;
  first = law x (All-head Q x xs h) (left (f x) (canon_each f xs) lt);
  second = each_spelled P f Q law xs (All-tail Q x xs h) (right (f x) (canon_each f xs) lt);
}

pub counted_spelled : {A : Type 0} (P : List ℕ → A → Type 0) (f : A → List ℕ) (Q : A → Type 0) → IsSpelled P f Q → ((x : A) → 1 ≤ length (f x))
    → IsSpelled (Counted P) (canon_counted f) (All Q)
counted_spelled P f Q law some xs h lt =
    let rest : length (canon_each f xs) < 2 ^ 32 = right (shortest_u32 (length xs)) (canon_each f xs) lt in
    record {
      front = shortest_u32 (length xs);
      back = canon_each f xs;
      parts = refl;
      first = u32_spelled (length xs) (omega (arith, each_long f some xs, rest));
      second = each_spelled P f Q law xs h rest;
    }

pub sized_spelled : (bytes : List ℕ) → length (canon_sized bytes) < 2 ^ 32 → Sized (canon_sized bytes) bytes
sized_spelled bytes lt = record {
  front = shortest_u32 (length bytes);
  back = bytes;
  parts = refl;
  first = u32_spelled (length bytes) (right (shortest_u32 (length bytes)) bytes lt);
  second = refl;
}

pub spelled_u32s : IsSpelled (Counted SpellsU32) (canon_counted shortest_u32) (All IsU32)
spelled_u32s = counted_spelled SpellsU32 shortest_u32 IsU32 spelled_u32 some_u32

-- ---- code

raw_spelled : (n : ℕ) → n < 2 ^ 32 → SpellsRaw32 (canon_raw_32 n) n
raw_spelled n lt = (omega arith, omega arith, omega arith, omega arith, omega arith)

pub immediates_spelled : (t : Immediates) → ProperImmediates t → length (canon_immediates t) < 2 ^ 32 → SpellsImmediates (canon_immediates t) t
immediates_spelled nothing h lt = refl
immediates_spelled (number n) h lt = u32_spelled n h
immediates_spelled (labels some label) h lt = both (Counted SpellsU32) SpellsU32 (canon_counted shortest_u32 some) (shortest_u32 label) (some, label) (spelled_u32s some h.0 (left (canon_counted shortest_u32 some) (shortest_u32 label) lt)) (u32_spelled label h.1)
immediates_spelled (signature type) h lt =
    both SpellsU32 SpellsU32 (shortest_u32 type) (shortest_u32 0) (type, 0) (u32_spelled type h) (u32_spelled 0 (omega arith))
immediates_spelled (address align offset) h lt =
    both SpellsU32 SpellsU32 (shortest_u32 align) (shortest_u32 offset) (align, offset) (u32_spelled align h.0) (u32_spelled offset h.1)
immediates_spelled memory h lt = refl
immediates_spelled (signed_32 n) h lt = signed_spells 8 4 n (omega arith) (omega arith) (omega (arith, h))
immediates_spelled (signed_64 n) h lt = signed_spells 1 9 n (omega arith) (omega arith) (omega (arith, h))
immediates_spelled (raw_32 n) h lt = raw_spelled n h
immediates_spelled (raw_64 n) h lt =
    (n % 4294967296, n / 4294967296, both SpellsRaw32 SpellsRaw32 (canon_raw_32 (n % 4294967296)) (canon_raw_32 (n / 4294967296)) (n % 4294967296, n / 4294967296) (raw_spelled (n % 4294967296) (omega arith)) (raw_spelled (n / 4294967296) (omega (arith, h))), omega arith)
immediates_spelled (bulk n) h lt = record { front = shortest_u32 n; back = memories_of n; parts = refl; first = u32_spelled n h; second = refl }
immediates_spelled never h lt = absurd h

pub else_long : (text : List ℕ) → length text ≤ length (else_part text)
else_long [] = omega arith
else_long (b ∷ bs) = omega arith

arms_spelled : (k : Option ValType) (P Q : List ℕ → Type 0) (most others : List ℕ) → P most → Q others
    → HasArms k P Q (0x04 ∷ kind_byte k ∷ most ++ (else_part others ++ 0x0B ∷ []))
arms_spelled k P Q most [] p q = record { yes = most; first = p; others = inl (refl, q) }
arms_spelled k P Q most (b ∷ bs) p q = record { yes = most; first = p; others = inr (b ∷ bs, q, refl) }

-- what stands inside an opcode and a block type
inside : (op k : ℕ) (text : List ℕ) → length (op ∷ k ∷ text) < 2 ^ 32 → length text < 2 ^ 32
inside op k text lt = omega arith

pub code_spelled : (c : Code) → ProperCode c → length (canon_code c) < 2 ^ 32 → SpellsCode c (canon_code c)
code_spelled done h lt = refl
code_spelled (one i rest) h lt =
    let whole : length (canon_immediates (immediates i)) < 2 ^ 32 = omega (arith, left (canon_plain i) (canon_code rest) lt) in
    record {
      front = canon_plain i;
      back = canon_code rest;
      parts = refl;
      first = record { rest = canon_immediates (immediates i); parts = refl; spelled = immediates_spelled (immediates i) h.0 whole };
      second = code_spelled rest h.1 (right (canon_plain i) (canon_code rest) lt);
    }
code_spelled (block k inner rest) h lt =
    let text : List ℕ = 0x02 ∷ kind_byte k ∷ canon_code inner ++ 0x0B ∷ [] in
    let fits = inside 0x02 (kind_byte k) (canon_code inner ++ 0x0B ∷ []) (left text (canon_code rest) lt) in
    record {
      front = text;
      back = canon_code rest;
      parts = refl;
      first = record { inner = canon_code inner; parts = refl; contents = code_spelled inner h.0 (left (canon_code inner) (0x0B ∷ []) fits) };
      second = code_spelled rest h.1 (right text (canon_code rest) lt);
    }
code_spelled (repeat k inner rest) h lt =
    let text : List ℕ = 0x03 ∷ kind_byte k ∷ canon_code inner ++ 0x0B ∷ [] in
    let fits = inside 0x03 (kind_byte k) (canon_code inner ++ 0x0B ∷ []) (left text (canon_code rest) lt) in
    record {
      front = text;
      back = canon_code rest;
      parts = refl;
      first = record { inner = canon_code inner; parts = refl; contents = code_spelled inner h.0 (left (canon_code inner) (0x0B ∷ []) fits) };
      second = code_spelled rest h.1 (right text (canon_code rest) lt);
    }
code_spelled (branch k m n rest) h lt =
    let ends : List ℕ = else_part (canon_code n) ++ 0x0B ∷ [] in
    let text : List ℕ = 0x04 ∷ kind_byte k ∷ canon_code m ++ ends in
    let fits = inside 0x04 (kind_byte k) (canon_code m ++ ends) (left text (canon_code rest) lt) in
    let other = left (else_part (canon_code n)) (0x0B ∷ []) (right (canon_code m) ends fits) in
    record {
      front = text;
      back = canon_code rest;
      parts = refl;
      first = arms_spelled k (SpellsCode m) (SpellsCode n) (canon_code m) (canon_code n) (code_spelled m h.0 (left (canon_code m) ends fits)) (code_spelled n h.1 (omega (arith, else_long (canon_code n), other)));
      second = code_spelled rest h.2 (right text (canon_code rest) lt);
    }

pub spelled_instrs : IsSpelled SpellsInstrs canon_instrs ProperInstrs
spelled_instrs is h lt = record { inner = canon_code (code_of is); parts = refl; contents = code_spelled (code_of is) h (left (canon_code (code_of is)) (0x0B ∷ []) lt) }

-- ---- types

abbrev pub Any : {A : Type 0} → A → Type 0
Any v = Unit {0}

pub any_of : {A : Type 0} (xs : List A) → All (λ (x : A). Any x) xs
any_of xs k d lt = tt

types_spelled : IsSpelled (Counted SpellsValType) (canon_counted canon_type) (All (λ (t : ValType). Any t))
types_spelled = counted_spelled SpellsValType canon_type (λ (t : ValType). Any t) (λ t h lt. refl) (λ t. omega arith)

pub spelled_func_type : IsSpelled SpellsFuncType canon_func_type (λ (t : FuncType). Any t)
spelled_func_type t h lt =
    let params : List ℕ = canon_counted canon_type t.params in
    let results : List ℕ = canon_counted canon_type t.results in
    let fits : length (params ++ results) < 2 ^ 32 = omega arith in
    behind 0x60 (λ rest. Both (Counted SpellsValType) (Counted SpellsValType) rest (t.params, t.results)) (params ++ results)
    (both (Counted SpellsValType) (Counted SpellsValType) params results (t.params, t.results) (types_spelled t.params (any_of t.params) (left params results fits)) (types_spelled t.results (any_of t.results) (right params results fits)))

limits_spelled : (min : ℕ) (most : Option ℕ) → IsU32 min → IfSome most IsU32 → LimitsFrom min most (canon_limits_from min most)
limits_spelled min None h g = behind 0x00 (λ rest. SpellsU32 rest min) (shortest_u32 min) (u32_spelled min h)
limits_spelled min (Some most) h g = behind 0x01 (λ rest. Both SpellsU32 SpellsU32 rest (min, most)) (shortest_u32 min ++ shortest_u32 most) (both SpellsU32 SpellsU32 (shortest_u32 min) (shortest_u32 most) (min, most) (u32_spelled min h) (u32_spelled most g))

pub spelled_limits : IsSpelled SpellsLimits canon_limits ProperLimits
spelled_limits l h lt = limits_spelled l.min l.max h.0 h.1

pub spelled_table_type : IsSpelled SpellsTableType canon_table_type ProperLimits
spelled_table_type l h lt = behind 0x70 (λ rest. SpellsLimits rest l) (canon_limits l) (limits_spelled l.min l.max h.0 h.1)

global_type_spelled : (g : GlobalType) → SpellsGlobalType (canon_global_type g) g
global_type_spelled g = record { front = canon_type g.kind; back = mutable_byte g.mutable ∷ []; parts = refl; first = refl; second = refl }

-- ---- the contents of sections

pub spelled_name : IsSpelled SpellsName canon_name ProperName
spelled_name n h lt = (sized_spelled n.bytes lt, h.1)

import_kind_spelled : (k : ImportKind) → ProperImportKind k → SpellsImportKind (canon_import_kind k) k
import_kind_spelled (import.Func type) h = behind 0x00 (λ rest. SpellsU32 rest type) (shortest_u32 type) (u32_spelled type h)
import_kind_spelled (import.Table l) h = behind 0x01 (λ rest. SpellsTableType rest l) (canon_table_type l) (behind 0x70 (λ rest. SpellsLimits rest l) (canon_limits l) (limits_spelled l.min l.max h.0 h.1))
import_kind_spelled (import.Memory l) h = behind 0x02 (λ rest. SpellsLimits rest l) (canon_limits l) (limits_spelled l.min l.max h.0 h.1)
import_kind_spelled (import.Global g) h = behind 0x03 (λ rest. SpellsGlobalType rest g) (canon_global_type g) (global_type_spelled g)

pub spelled_import : IsSpelled SpellsImport canon_import ProperImport
spelled_import i h lt =
    let of : List ℕ = canon_name i.module in
    let name : List ℕ = canon_name i.name in
    let kind : List ℕ = canon_import_kind i.kind in
    let rest = right of (name ++ kind) lt in
    both SpellsName (Both SpellsName SpellsImportKind) of (name ++ kind) (i.module, (i.name, i.kind)) (spelled_name i.module h.0 (left of (name ++ kind) lt))
    (both SpellsName SpellsImportKind name kind (i.name, i.kind) (spelled_name i.name h.1 (left name kind rest)) (import_kind_spelled i.kind h.2))

pub spelled_global : IsSpelled SpellsGlobal canon_global ProperGlobal
spelled_global g h lt = both SpellsGlobalType SpellsInstrs (canon_global_type g.kind) (canon_instrs g.init) (g.kind, g.init) (global_type_spelled g.kind) (spelled_instrs g.init h (right (canon_global_type g.kind) (canon_instrs g.init) lt))

pub spelled_export : IsSpelled SpellsExport canon_export ProperExport
spelled_export e h lt =
    let ends : List ℕ = export_byte e.kind ∷ shortest_u32 e.index in
    record {
      front = canon_name e.name;
      back = ends;
      parts = refl;
      first = spelled_name e.name h.0 (left (canon_name e.name) ends lt);
      second = record { front = export_byte e.kind ∷ []; back = shortest_u32 e.index; parts = refl; first = refl; second = u32_spelled e.index h.1 };
    }

pub spelled_elem : IsSpelled SpellsElem canon_elem ProperElem
spelled_elem e h lt =
    let place : List ℕ = canon_instrs e.offset in
    let funcs : List ℕ = canon_counted shortest_u32 e.funcs in
    let rest = right (shortest_u32 e.table) (place ++ funcs) lt in
    both SpellsU32 (Both SpellsInstrs (Counted SpellsU32)) (shortest_u32 e.table) (place ++ funcs) (e.table, (e.offset, e.funcs)) (u32_spelled e.table h.0)
    (both SpellsInstrs (Counted SpellsU32) place funcs (e.offset, e.funcs) (spelled_instrs e.offset h.1 (left place funcs rest)) (spelled_u32s e.funcs h.2 (right place funcs rest)))

spelled_run : IsSpelled SpellsRun canon_run (λ (r : LocalRun). IsU32 r.count)
spelled_run r h lt = both SpellsU32 SpellsValType (shortest_u32 r.count) (canon_type r.kind) (r.count, r.kind) (u32_spelled r.count h) refl

pub some_run : (r : LocalRun) → 1 ≤ length (canon_run r)
some_run r = some_front (shortest_u32 r.count) (canon_type r.kind) (some_u32 r.count)

pub spelled_body : IsSpelled SpellsBody canon_body ProperBody
spelled_body b h lt =
    let locals : List ℕ = canon_counted canon_run b.locals in
    let code : List ℕ = canon_instrs b.code in (
      both (Counted SpellsRun) SpellsInstrs locals code (b.locals, b.code) (counted_spelled SpellsRun canon_run (λ (r : LocalRun). IsU32 r.count) spelled_run some_run b.locals h.0 (left locals code lt)) (spelled_instrs b.code h.2 (right locals code lt)),
      h.1,
    )

pub spelled_entry : IsSpelled (Within SpellsBody) canon_entry ProperBody
spelled_entry b h lt = record { inner = canon_body b; sized = sized_spelled (canon_body b) lt; spelled = spelled_body b h (right (shortest_u32 (length (canon_body b))) (canon_body b) lt) }

pub spelled_segment : IsSpelled SpellsSegment canon_segment ProperSegment
spelled_segment d h lt =
    let place : List ℕ = canon_instrs d.offset in
    let bytes : List ℕ = canon_sized d.bytes in
    let rest = right (shortest_u32 d.memory) (place ++ bytes) lt in
    both SpellsU32 (Both SpellsInstrs Sized) (shortest_u32 d.memory) (place ++ bytes) (d.memory, (d.offset, d.bytes)) (u32_spelled d.memory h.0)
    (both SpellsInstrs Sized place bytes (d.offset, d.bytes) (spelled_instrs d.offset h.1 (left place bytes rest)) (sized_spelled d.bytes (right place bytes rest)))

-- ---- no item is without a text

pub some_sized : (bytes : List ℕ) → 1 ≤ length (canon_sized bytes)
some_sized bytes = some_front (shortest_u32 (length bytes)) bytes (some_u32 (length bytes))

pub some_func_type : (t : FuncType) → 1 ≤ length (canon_func_type t)
some_func_type t = omega arith

pub some_import : (i : Import) → 1 ≤ length (canon_import i)
some_import i = some_front (canon_name i.module) (canon_name i.name ++ canon_import_kind i.kind) (some_sized i.module.bytes)

pub some_table_type : (l : Limits) → 1 ≤ length (canon_table_type l)
some_table_type l = omega arith

some_limits_from : (min : ℕ) (most : Option ℕ) → 1 ≤ length (canon_limits_from min most)
some_limits_from min None = omega arith
some_limits_from min (Some most) = omega arith

pub some_limits : (l : Limits) → 1 ≤ length (canon_limits l)
some_limits l = some_limits_from l.min l.max

pub some_global : (g : GlobalDef) → 1 ≤ length (canon_global g)
some_global g = some_front (canon_global_type g.kind) (canon_instrs g.init) (omega arith)

pub some_export : (e : Export) → 1 ≤ length (canon_export e)
some_export e = some_front (canon_name e.name) (export_byte e.kind ∷ shortest_u32 e.index) (some_sized e.name.bytes)

pub some_elem : (e : Elem) → 1 ≤ length (canon_elem e)
some_elem e = some_front (shortest_u32 e.table) (canon_instrs e.offset ++ canon_counted shortest_u32 e.funcs) (some_u32 e.table)

pub some_entry : (b : Body) → 1 ≤ length (canon_entry b)
some_entry b = some_sized (canon_body b)

pub some_segment : (d : DataSegment) → 1 ≤ length (canon_segment d)
some_segment d = some_front (shortest_u32 d.memory) (canon_instrs d.offset ++ canon_sized d.bytes) (some_u32 d.memory)
