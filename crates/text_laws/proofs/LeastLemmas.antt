-- No spelling of a module is shorter than the canonical one.
use Rattle.std.proofs.Common.{◌≡◌, ◌≢◌, ◌==◌, ℕ, zero, suc, ◌+◌, ◌≤◌, inl, inr, Bool, true, false, List, [], ◌∷◌, ◌++◌, length, Option, Some, None, refl, sym, ap, subst, ◌∙◌, arith, length-append}
use Rattle.std.specs.Prelude.{codes, bytes_eq, if◌then◌else◌}
use Rattle.std.proofs.lemmas.Bool.{cases_eq}
use Rattle.std.proofs.lemmas.Bool.Decides.{nat_tests}
use Rattle.std.proofs.lemmas.Slice.Eq.{bytes_eq-Decides}
use Rattle.wasm_types.specs.declared.module.ValType.{ValType}
use Rattle.wasm_types.specs.declared.module.Name.{Name}
use Rattle.wasm_types.specs.declared.module.ImportKind.TheVariants as import
use Rattle.wasm_types.specs.declared.module.Module.{Module}
use Rattle.wasm_types.specs.Numbers.{SpellsU32, shortest_u32}
use Rattle.wasm_types.specs.Parts.{Both, Each, Counted, Sized, Within}
use Rattle.wasm_types.specs.Code.{Code, done, one, block, repeat, branch, code_of}
use Rattle.wasm_types.specs.Types.{kind_byte, mutable_byte, SpellsValType, SpellsFuncType, LimitsFrom, SpellsLimits, SpellsTableType, SpellsGlobalType}
use Rattle.wasm_types.specs.Plain.{Immediates, nothing, number, labels, signature, address, memory, signed_32, signed_64, raw_32, raw_64, bulk, never, memories_of, opcode, immediates, SpellsRaw32, SpellsImmediates}
use Rattle.wasm_types.specs.Grammar.{Encloses, SpellsCode, SpellsInstrs}
use Rattle.wasm_types.specs.Sections.{export_byte, SpellsName, SpellsCustom, SpellsImportKind, SpellsImport, SpellsGlobal, SpellsExport, SpellsElem, SpellsRun, SpellsBody, SpellsSegment}
use Rattle.wasm_types.specs.Modules.{header, SpellsFrame, contents_of, ListIs, OptionIs, named_payload, later_of, NamesAre, Spells}
use Rattle.wasm_types.specs.Canon.{canon_each, canon_counted, canon_sized, canon_raw_32, canon_immediates, canon_plain, else_part, canon_code, canon_instrs, canon_type, canon_func_type, canon_limits_from, canon_limits, canon_table_type, canon_global_type, canon_name, canon_import_kind, canon_import, canon_global, canon_export, canon_elem, canon_run, canon_body, canon_entry, canon_segment, canon_section, canon_list, canon_start, canon_names, canon}
use Rattle.text_laws.proofs.NumberLemmas.{shortest_is_least, signed_is_least, shortest_grows}

-- the canonical text of a value is no longer than any text of it
abbrev pub IsLeast : {A : Type 0} → (List ℕ → A → Type 0) → (A → List ℕ) → Type 0
IsLeast {A} P f = (text : List ℕ) (v : A) → P text v → length (f v) ≤ length text

-- ---- parts

pub two_parts : (text front back a b : List ℕ) → text ≡ front ++ back → length a ≤ length front → length b ≤ length back → length (a ++ b) ≤ length text
two_parts text front back a b e p q = omega (arith, ap length e, length-append front back, length-append a b)

pub after_byte : (text rest a : List ℕ) (c d : ℕ) → text ≡ c ∷ rest → length a ≤ length rest → length (d ∷ a) ≤ length text
after_byte text rest a c d e p = omega (arith, ap length e)

pub same_size : (text a : List ℕ) → text ≡ a → length a ≤ length text
same_size text a e = omega (arith, ap length e)

pub least_u32 : IsLeast SpellsU32 shortest_u32
least_u32 text n p = shortest_is_least 4 n text p

u32_grows : (m n : ℕ) → m ≤ n → length (shortest_u32 m) ≤ length (shortest_u32 n)
u32_grows m n le = shortest_grows 4 m n le

pub both_least : {A B : Type 0} (P : List ℕ → A → Type 0) (Q : List ℕ → B → Type 0) (f : A → List ℕ) (g : B → List ℕ) → IsLeast P f → IsLeast Q g
    → (text : List ℕ) (v : A × B) → Both P Q text v → length (f v.0 ++ g v.1) ≤ length text
both_least P Q f g p q text v s = two_parts text s.front s.back (f v.0) (g v.1) s.parts (p s.front v.0 s.first) (q s.back v.1 s.second)

each_least : {A : Type 0} (P : List ℕ → A → Type 0) (f : A → List ℕ) → IsLeast P f → (text : List ℕ) (xs : List A) → Each P text xs
    → length (canon_each f xs) ≤ length text
each_least P f law text [] s = omega arith
each_least P f law text (x ∷ xs) s =
    two_parts text s.front s.back (f x) (canon_each f xs) s.parts (law s.front x s.first) (each_least P f law s.back xs s.second)

pub counted_least : {A : Type 0} (P : List ℕ → A → Type 0) (f : A → List ℕ) → IsLeast P f → IsLeast (Counted P) (canon_counted f)
counted_least P f law text xs s = two_parts text s.front s.back (shortest_u32 (length xs)) (canon_each f xs) s.parts (least_u32 s.front (length xs) s.first) (each_least P f law s.back xs s.second)

-- fewer bytes with their size are no longer
sized_grows : (a b : List ℕ) → length a ≤ length b → length (canon_sized a) ≤ length (canon_sized b)
sized_grows a b le = omega (arith, le, u32_grows (length a) (length b) le, length-append (shortest_u32 (length a)) a, length-append (shortest_u32 (length b)) b)

pub least_sized : IsLeast Sized canon_sized
least_sized text bytes s =
    two_parts text s.front s.back (shortest_u32 (length bytes)) bytes s.parts (least_u32 s.front (length bytes) s.first) (same_size s.back bytes s.second)

-- ---- code

least_u32s : IsLeast (Counted SpellsU32) (canon_counted shortest_u32)
least_u32s = counted_least SpellsU32 shortest_u32 least_u32

least_raw : IsLeast SpellsRaw32 canon_raw_32
least_raw (a ∷ b ∷ c ∷ d ∷ []) n p = omega arith
least_raw _ n p = absurd p

immediates_least : (text : List ℕ) (t : Immediates) → SpellsImmediates text t → length (canon_immediates t) ≤ length text
immediates_least text nothing p = omega arith
immediates_least text (number n) p = least_u32 text n p
immediates_least text (labels some label) p =
    both_least (Counted SpellsU32) SpellsU32 (canon_counted shortest_u32) shortest_u32 least_u32s least_u32 text (some, label) p
immediates_least text (signature type) p = both_least SpellsU32 SpellsU32 shortest_u32 shortest_u32 least_u32 least_u32 text (type, 0) p
immediates_least text (address align offset) p = both_least SpellsU32 SpellsU32 shortest_u32 shortest_u32 least_u32 least_u32 text (align, offset) p
immediates_least text memory p = same_size text (0x00 ∷ []) p
immediates_least text (signed_32 n) p = signed_is_least 8 4 n text (omega arith) (omega arith) p
immediates_least text (signed_64 n) p = signed_is_least 1 9 n text (omega arith) (omega arith) p
immediates_least text (raw_32 n) p = least_raw text n p
immediates_least text (raw_64 n) p = both_least SpellsRaw32 SpellsRaw32 canon_raw_32 canon_raw_32 least_raw least_raw text (p.0, p.1) p.2
immediates_least text (bulk n) p =
    two_parts text p.front p.back (shortest_u32 n) (memories_of n) p.parts (least_u32 p.front n p.first) (same_size p.back (memories_of n) p.second)
immediates_least text never p = absurd p

else_short : (text : List ℕ) → (length text ≤ 0 → length (else_part text) ≤ 0) × (length (else_part text) ≤ 1 + length text)
else_short [] = (λ h. omega arith, omega arith)
else_short (b ∷ bs) = (λ h. absurd (omega (arith, h)), omega arith)

enclosed_least : (op : ℕ) (k : Option ValType) (inner text : List ℕ) (C : List ℕ → Type 0) (p : Encloses op k C text) → length inner ≤ length p.inner
    → length (op ∷ kind_byte k ∷ inner ++ 0x0B ∷ []) ≤ length text
enclosed_least op k inner text C p le = omega (arith, ap length p.parts, length-append p.inner (0x0B ∷ []), length-append inner (0x0B ∷ []))

no_else : (k : ℕ) (front most other text : List ℕ) → text ≡ 0x04 ∷ k ∷ front ++ 0x0B ∷ [] → length most ≤ length front → length other ≤ 0
    → length (0x04 ∷ k ∷ most ++ (else_part other ++ 0x0B ∷ [])) ≤ length text
no_else k front most other text e p q = omega (arith, (else_short other).0 q, ap length e, length-append front (0x0B ∷ []), length-append most (else_part other ++ 0x0B ∷ []), length-append (else_part other) (0x0B ∷ []))

with_else : (k : ℕ) (front back most other text : List ℕ) → text ≡ 0x04 ∷ k ∷ front ++ 0x05 ∷ (back ++ 0x0B ∷ []) → length most ≤ length front
    → length other ≤ length back → length (0x04 ∷ k ∷ most ++ (else_part other ++ 0x0B ∷ [])) ≤ length text
with_else k front back most other text e p q =
    omega (arith, (else_short other).1, ap length e, length-append front (0x05 ∷ (back ++ 0x0B ∷ [])), length-append back (0x0B ∷ []), length-append most (else_part other ++ 0x0B ∷ []), length-append (else_part other) (0x0B ∷ []))

pub code_least : (c : Code) (text : List ℕ) → SpellsCode c text → length (canon_code c) ≤ length text
code_least done text p = omega arith
code_least (one i rest) text p =
    two_parts text p.front p.back (canon_plain i) (canon_code rest) p.parts (after_byte p.front p.first.rest (canon_immediates (immediates i)) (opcode i) (opcode i) p.first.parts (immediates_least p.first.rest (immediates i) p.first.spelled)) (code_least rest p.back p.second)
code_least (block k inner rest) text p =
    two_parts text p.front p.back (0x02 ∷ kind_byte k ∷ canon_code inner ++ 0x0B ∷ []) (canon_code rest) p.parts (enclosed_least 0x02 k (canon_code inner) p.front (SpellsCode inner) p.first (code_least inner p.first.inner p.first.contents)) (code_least rest p.back p.second)
code_least (repeat k inner rest) text p =
    two_parts text p.front p.back (0x03 ∷ kind_byte k ∷ canon_code inner ++ 0x0B ∷ []) (canon_code rest) p.parts (enclosed_least 0x03 k (canon_code inner) p.front (SpellsCode inner) p.first (code_least inner p.first.inner p.first.contents)) (code_least rest p.back p.second)
code_least (branch k m n rest) text p =
    let most = code_least m p.first.yes p.first.first in
    let arms : length (0x04 ∷ kind_byte k ∷ canon_code m ++ (else_part (canon_code n) ++ 0x0B ∷ [])) ≤ length p.front = elim p.first.others [
      | inl q ↦ no_else (kind_byte k) p.first.yes (canon_code m) (canon_code n) p.front q.0 most (code_least n [] q.1)
      | inr q ↦ with_else (kind_byte k) p.first.yes q.0 (canon_code m) (canon_code n) p.front q.2 most (code_least n q.0 q.1)
    ] in
    two_parts text p.front p.back (0x04 ∷ kind_byte k ∷ canon_code m ++ (else_part (canon_code n) ++ 0x0B ∷ [])) (canon_code rest) p.parts arms (code_least rest p.back p.second)

pub least_instrs : IsLeast SpellsInstrs canon_instrs
least_instrs text is p =
    two_parts text p.inner (0x0B ∷ []) (canon_code (code_of is)) (0x0B ∷ []) p.parts (code_least (code_of is) p.inner p.contents) (omega arith)

-- ---- types

least_type : IsLeast SpellsValType canon_type
least_type text t p = same_size text (canon_type t) p

least_types : IsLeast (Counted SpellsValType) (canon_counted canon_type)
least_types = counted_least SpellsValType canon_type least_type

pub least_func_type : IsLeast SpellsFuncType canon_func_type
least_func_type text t p =
    after_byte text p.rest (canon_counted canon_type t.params ++ canon_counted canon_type t.results) 0x60 0x60 p.parts
    (both_least (Counted SpellsValType) (Counted SpellsValType) (canon_counted canon_type) (canon_counted canon_type) least_types least_types p.rest (t.params, t.results) p.spelled)

limits_least : (min : ℕ) (most : Option ℕ) (text : List ℕ) → LimitsFrom min most text → length (canon_limits_from min most) ≤ length text
limits_least min None text p = after_byte text p.rest (shortest_u32 min) 0x00 0x00 p.parts (least_u32 p.rest min p.spelled)
limits_least min (Some most) text p = after_byte text p.rest (shortest_u32 min ++ shortest_u32 most) 0x01 0x01 p.parts (both_least SpellsU32 SpellsU32 shortest_u32 shortest_u32 least_u32 least_u32 p.rest (min, most) p.spelled)

pub least_limits : IsLeast SpellsLimits canon_limits
least_limits text l p = limits_least l.min l.max text p

pub least_table_type : IsLeast SpellsTableType canon_table_type
least_table_type text l p = after_byte text p.rest (canon_limits l) 0x70 0x70 p.parts (least_limits p.rest l p.spelled)

least_global_type : IsLeast SpellsGlobalType canon_global_type
least_global_type text g p = two_parts text p.front p.back (canon_type g.kind) (mutable_byte g.mutable ∷ []) p.parts (same_size p.front (canon_type g.kind) p.first) (same_size p.back (mutable_byte g.mutable ∷ []) p.second)

-- ---- the contents of sections

least_name : IsLeast SpellsName canon_name
least_name text n p = least_sized text n.bytes p.0

least_import_kind : IsLeast SpellsImportKind canon_import_kind
least_import_kind text (import.Func type) p = after_byte text p.rest (shortest_u32 type) 0x00 0x00 p.parts (least_u32 p.rest type p.spelled)
least_import_kind text (import.Table l) p = after_byte text p.rest (canon_table_type l) 0x01 0x01 p.parts (least_table_type p.rest l p.spelled)
least_import_kind text (import.Memory l) p = after_byte text p.rest (canon_limits l) 0x02 0x02 p.parts (least_limits p.rest l p.spelled)
least_import_kind text (import.Global g) p = after_byte text p.rest (canon_global_type g) 0x03 0x03 p.parts (least_global_type p.rest g p.spelled)

pub least_import : IsLeast SpellsImport canon_import
least_import text i p =
    two_parts text p.front p.back (canon_name i.module) (canon_name i.name ++ canon_import_kind i.kind) p.parts (least_name p.front i.module p.first)
    (both_least SpellsName SpellsImportKind canon_name canon_import_kind least_name least_import_kind p.back (i.name, i.kind) p.second)

pub least_global : IsLeast SpellsGlobal canon_global
least_global text g p = both_least SpellsGlobalType SpellsInstrs canon_global_type canon_instrs least_global_type least_instrs text (g.kind, g.init) p

pub least_export : IsLeast SpellsExport canon_export
least_export text e p =
    two_parts text p.front p.back (canon_name e.name) (export_byte e.kind ∷ shortest_u32 e.index) p.parts (least_name p.front e.name p.first)
    (two_parts p.back p.second.front p.second.back (export_byte e.kind ∷ []) (shortest_u32 e.index) p.second.parts (same_size p.second.front (export_byte e.kind ∷ []) p.second.first) (least_u32 p.second.back e.index p.second.second))

pub least_elem : IsLeast SpellsElem canon_elem
least_elem text e p =
    two_parts text p.front p.back (shortest_u32 e.table) (canon_instrs e.offset ++ canon_counted shortest_u32 e.funcs) p.parts (least_u32 p.front e.table p.first)
    (both_least SpellsInstrs (Counted SpellsU32) canon_instrs (canon_counted shortest_u32) least_instrs least_u32s p.back (e.offset, e.funcs) p.second)

least_run : IsLeast SpellsRun canon_run
least_run text r p = both_least SpellsU32 SpellsValType shortest_u32 canon_type least_u32 least_type text (r.count, r.kind) p

pub least_body : IsLeast SpellsBody canon_body
least_body text b p = both_least (Counted SpellsRun) SpellsInstrs (canon_counted canon_run) canon_instrs (counted_least SpellsRun canon_run least_run) least_instrs text (b.locals, b.code) p.0

-- so many bytes that spell the value, of which the canonical ones are no more
within_least : (text inner short : List ℕ) → Sized text inner → length short ≤ length inner → length (canon_sized short) ≤ length text
within_least text inner short s le = omega (arith, sized_grows short inner le, least_sized text inner s)

pub least_entry : IsLeast (Within SpellsBody) canon_entry
least_entry text b p = within_least text p.inner (canon_body b) p.sized (least_body p.inner b p.spelled)

pub least_segment : IsLeast SpellsSegment canon_segment
least_segment text d p =
    two_parts text p.front p.back (shortest_u32 d.memory) (canon_instrs d.offset ++ canon_sized d.bytes) p.parts (least_u32 p.front d.memory p.first)
    (both_least SpellsInstrs Sized canon_instrs canon_sized least_instrs least_sized p.back (d.offset, d.bytes) p.second)

-- ---- sums over the ids of sections

abbrev up_to : ℕ → (ℕ → ℕ) → ℕ
up_to zero g = 0
up_to (suc n) g = up_to n g + g (suc n)

same_sum : (n : ℕ) (g h : ℕ → ℕ) → ((j : ℕ) → 1 ≤ j → j ≤ n → h j ≡ g j) → up_to n h ≡ up_to n g
same_sum zero g h same = refl
same_sum (suc n) g h same = omega (arith, same_sum n g h (λ j some le. same j some (omega (arith, le))), same (suc n) (omega arith) (omega arith))

-- one of them has grown by no more than so much
more_sum : (n k c : ℕ) (g h : ℕ → ℕ) → ((j : ℕ) → j ≢ k → h j ≡ g j) → h k ≤ c → up_to n h ≤ up_to n g + c
more_sum zero k c g h same le = omega arith
more_sum (suc n) k c g h same le =
    elim (cases_eq (suc n) k) [
      | inl e ↦ omega (arith, same_sum n g h (λ j some low. same j (λ f. omega (arith, e, f, low))), subst (λ (i : ℕ). h i ≤ c) (sym e) le)
      | inr off ↦ omega (arith, more_sum n k c g h same le, same (suc n) off)
    ]

-- ---- sections

abbrev cost : Option (List ℕ) → ℕ
cost None = 0
cost (Some contents) = length (canon_section 0 contents)

section_grows : (i j : ℕ) (a b : List ℕ) → length a ≤ length b → length (canon_section i a) ≤ length (canon_section j b)
section_grows i j a b le = omega (arith, sized_grows a b le)

frame_least : (text : List ℕ) (f : ℕ × List ℕ) → SpellsFrame text f → cost (Some f.1) ≤ length text
frame_least text f p = after_byte text p.rest (canon_sized f.1) f.0 0 p.parts (least_sized p.rest f.1 p.spelled)

abbrev size_of : Option (List ℕ) → ℕ
size_of names = length (canon_names names)

later_least : (late early : Option (List ℕ)) → size_of (later_of late early) ≤ size_of late + size_of early
later_least (Some late) early = omega arith
later_least None early = omega arith

named_least : (found : Bool) (contents front payload : List ℕ) → contents ≡ front ++ payload
    → (found ≡ true → length (canon_sized (codes "name")) ≤ length front)
    → size_of (if found then Some payload else None) ≤ cost (Some contents)
named_least true contents front payload e least = section_grows 0 0 (canon_sized (codes "name") ++ payload) contents (two_parts contents front payload (canon_sized (codes "name")) payload e (least refl) (omega arith))
named_least false contents front payload e least = omega arith

payload_least : (contents : List ℕ) (c : Name × List ℕ) → SpellsCustom contents c → size_of (named_payload c) ≤ cost (Some contents)
payload_least contents c p =
    named_least (bytes_eq c.0.bytes (codes "name")) contents p.front c.1 (p.parts ∙ ap (λ (t : List ℕ). p.front ++ t) p.second)
    (λ e. let is : c.0.bytes ≡ codes "name" = (bytes_eq-Decides c.0.bytes (codes "name")).0 e in subst (λ (bytes : List ℕ). length (canon_sized bytes) ≤ length p.front) is (least_name p.front c.0 p.first))

-- another section takes nothing from the contents of the others
other_contents : (f : ℕ × List ℕ) (fs : List (ℕ × List ℕ)) (id : ℕ) → id ≢ f.0 → contents_of id (f ∷ fs) ≡ contents_of id fs
other_contents f fs id off = let no_match : (f.0 == id) ≡ false = grind (arith, nat_tests, off) in rw no_match refl

own_contents : (f : ℕ × List ℕ) (fs : List (ℕ × List ℕ)) → contents_of f.0 (f ∷ fs) ≡ Some f.1
own_contents f fs = let match_here : (f.0 == f.0) ≡ true = grind (arith, nat_tests) in rw match_here refl

abbrev costs : List (ℕ × List ℕ) → ℕ
costs fs = up_to 11 (λ id. cost (contents_of id fs))

frames_least : (text : List ℕ) (fs : List (ℕ × List ℕ)) (names : Option (List ℕ)) → Each SpellsFrame text fs → NamesAre fs names
    → costs fs + size_of names ≤ length text
frames_least text [] names s h = omega (arith, ap size_of h)
frames_least text (f ∷ fs) names s h =
    let rest = frames_least s.back fs h.0 s.second h.1 in
    let here = frame_least s.front f s.first in
    let size : length text ≡ length s.front + length s.back = ap length s.parts ∙ length-append s.front s.back in
    elim h.2 [
      | inl a ↦ let more : costs (f ∷ fs) ≤ costs fs + cost (Some f.1) =
          more_sum 11 f.0 (cost (Some f.1)) (λ id. cost (contents_of id fs)) (λ id. cost (contents_of id (f ∷ fs))) (λ id off. ap cost (other_contents f fs id off)) (omega (arith, ap cost (own_contents f fs))) in
          omega (arith, rest, here, size, more, ap size_of a.1)
      | inr a ↦ let same : costs (f ∷ fs) ≡ costs fs =
          same_sum 11 (λ id. cost (contents_of id fs)) (λ id. cost (contents_of id (f ∷ fs))) (λ id some le. ap cost (other_contents f fs id (λ e. omega (arith, some, e, a.0)))) in
          omega (arith, rest, here, size, same, ap size_of a.3, later_least h.0 (named_payload a.1), payload_least f.1 a.1 a.2)
    ]

-- ---- the module

list_least : {A : Type 0} (P : List ℕ → A → Type 0) (f : A → List ℕ) (id : ℕ) → IsLeast P f → (xs : List A) (o : Option (List ℕ))
    → ListIs (Counted P) xs o → length (canon_list id f xs) ≤ cost o
list_least {A} P f id law xs None p = omega (arith, ap (λ (l : List A). length (canon_list id f l)) p)
list_least P f id law [] (Some contents) p = omega arith
list_least P f id law (x ∷ xs) (Some contents) p = section_grows id 0 (canon_counted f (x ∷ xs)) contents (counted_least P f law contents (x ∷ xs) p)

start_least : (start : Option ℕ) (o : Option (List ℕ)) → OptionIs SpellsU32 start o → length (canon_start start) ≤ cost o
start_least start None p = omega (arith, ap (λ (l : Option ℕ). length (canon_start l)) p)
start_least None (Some contents) p = absurd p
start_least (Some func) (Some contents) p = section_grows 8 0 (shortest_u32 func) contents (least_u32 contents func p)

lengths : (h a b c d e f g i j k l n : List ℕ) → length (h ++ a ++ b ++ c ++ d ++ e ++ f ++ g ++ i ++ j ++ k ++ l ++ n)
    ≡ length h + length a + length b + length c + length d + length e + length f + length g + length i + length j + length k + length l + length n
lengths h a b c d e f g i j k l n = simp length-append refl

pub canon_lengths : (m : Module)
    → length (canon m) ≡ 8 + length (canon_list 1 canon_func_type m.types) + length (canon_list 2 canon_import m.imports) + length (canon_list 3 shortest_u32 m.funcs) + length (canon_list 4 canon_table_type m.tables)
    + length (canon_list 5 canon_limits m.mems) + length (canon_list 6 canon_global m.globals) + length (canon_list 7 canon_export m.exports) + length (canon_start m.start) + length (canon_list 9 canon_elem m.elems)
    + length (canon_list 10 canon_entry m.bodies) + length (canon_list 11 canon_segment m.segments) + length (canon_names m.names)
canon_lengths m =
    lengths header (canon_list 1 canon_func_type m.types) (canon_list 2 canon_import m.imports) (canon_list 3 shortest_u32 m.funcs) (canon_list 4 canon_table_type m.tables) (canon_list 5 canon_limits m.mems) (canon_list 6 canon_global m.globals)
    (canon_list 7 canon_export m.exports) (canon_start m.start) (canon_list 9 canon_elem m.elems) (canon_list 10 canon_entry m.bodies) (canon_list 11 canon_segment m.segments) (canon_names m.names)

pub canon_is_least : (bytes : List ℕ) (m : Module) → Spells bytes m → length (canon m) ≤ length bytes
canon_is_least bytes m p =
    let sections = frames_least p.rest p.frames m.names p.framed.0 p.names in
    let size : length bytes ≡ 8 + length p.rest = ap length p.begun ∙ length-append header p.rest in
    let types = list_least SpellsFuncType canon_func_type 1 least_func_type m.types (contents_of 1 p.frames) p.types in
    let imports = list_least SpellsImport canon_import 2 least_import m.imports (contents_of 2 p.frames) p.imports in
    let funcs = list_least SpellsU32 shortest_u32 3 least_u32 m.funcs (contents_of 3 p.frames) p.funcs in
    let tables = list_least SpellsTableType canon_table_type 4 least_table_type m.tables (contents_of 4 p.frames) p.tables in
    let mems = list_least SpellsLimits canon_limits 5 least_limits m.mems (contents_of 5 p.frames) p.mems in
    let globals = list_least SpellsGlobal canon_global 6 least_global m.globals (contents_of 6 p.frames) p.globals in
    let exports = list_least SpellsExport canon_export 7 least_export m.exports (contents_of 7 p.frames) p.exports in
    let start = start_least m.start (contents_of 8 p.frames) p.start in
    let elems = list_least SpellsElem canon_elem 9 least_elem m.elems (contents_of 9 p.frames) p.elems in
    let bodies = list_least (Within SpellsBody) canon_entry 10 least_entry m.bodies (contents_of 10 p.frames) p.bodies in
    let segments = list_least SpellsSegment canon_segment 11 least_segment m.segments (contents_of 11 p.frames) p.segments in
    omega (arith, canon_lengths m, sections, size, types, imports, funcs, tables, mems, globals, exports, start, elems, bodies, segments)
