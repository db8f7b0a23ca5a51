-- A module that bytes spell is well formed.
use Rattle.std.proofs.Common.{◌≡◌, ◌==◌, ℕ, ◌<◌, ◌^◌, inl, inr, Bool, true, false, List, [], ◌∷◌, ◌++◌, Option, Some, None, sym, subst, arith}
use Rattle.std.specs.Prelude.{All, IfSome, codes, bytes_eq, if◌then◌else◌}
use Rattle.std.proofs.lemmas.List.Elements.{All-nil, All-cons, All-head, All-tail}
use Rattle.wasm_types.specs.declared.module.Name.{Name}
use Rattle.wasm_types.specs.declared.module.ImportKind.{ImportKind}
use Rattle.wasm_types.specs.declared.module.ImportKind.TheVariants as import
use Rattle.wasm_types.specs.declared.module.LocalRun.{LocalRun}
use Rattle.wasm_types.specs.declared.module.Module.{Module}
use Rattle.wasm_types.specs.declared.instr.Instr.{Instr}
use Rattle.wasm_types.specs.Numbers.{SpellsU32}
use Rattle.wasm_types.specs.Parts.{Each, Counted, Sized, Within}
use Rattle.wasm_types.specs.Code.{Code, done, one, block, repeat, branch, code_of}
use Rattle.wasm_types.specs.Types.{LimitsFrom, SpellsLimits, SpellsTableType}
use Rattle.wasm_types.specs.Plain.{Immediates, nothing, number, labels, signature, address, memory, signed_32, signed_64, raw_32, raw_64, bulk, never, immediates, SpellsRaw32, SpellsImmediates}
use Rattle.wasm_types.specs.Grammar.{SpellsCode, SpellsInstrs}
use Rattle.wasm_types.specs.Sections.{SpellsName, SpellsCustom, SpellsImportKind, SpellsImport, SpellsGlobal, SpellsExport, SpellsElem, SpellsRun, SpellsBody, SpellsSegment}
use Rattle.wasm_types.specs.Modules.{header, SpellsFrame, contents_of, ListIs, OptionIs, named_payload, later_of, NamesAre, Spells}
use Rattle.wasm_types.specs.WellFormed.{IsU8, IsU32, ProperImmediates, ProperCode, ProperInstrs, ProperLimits, ProperName, ProperImportKind, ProperImport, ProperGlobal, ProperExport, ProperElem, ProperBody, ProperSegment, IsWellFormed}
use Rattle.text_laws.proofs.NumberLemmas.{unsigned_below, signed_below}

-- what bytes spell is proper
abbrev pub IsProper : {A : Type 0} → (List ℕ → A → Type 0) → (A → Type 0) → Type 0
IsProper {A} P Q = (text : List ℕ) (v : A) → P text v → All IsU8 text → Q v

-- ---- bytes of parts

left_bytes : (a b : List ℕ) → All IsU8 (a ++ b) → All IsU8 a
left_bytes [] b h = All-nil IsU8
left_bytes (x ∷ xs) b h = All-cons IsU8 x xs (All-head IsU8 x (xs ++ b) h) (left_bytes xs b (All-tail IsU8 x (xs ++ b) h))

right_bytes : (a b : List ℕ) → All IsU8 (a ++ b) → All IsU8 b
right_bytes [] b h = h
right_bytes (x ∷ xs) b h = right_bytes xs b (All-tail IsU8 x (xs ++ b) h)

front_bytes : (text a b : List ℕ) → text ≡ a ++ b → All IsU8 text → All IsU8 a
front_bytes text a b e h = left_bytes a b (subst (All IsU8) e h)

back_bytes : (text a b : List ℕ) → text ≡ a ++ b → All IsU8 text → All IsU8 b
back_bytes text a b e h = right_bytes a b (subst (All IsU8) e h)

rest_bytes : (text rest : List ℕ) (byte : ℕ) → text ≡ byte ∷ rest → All IsU8 text → All IsU8 rest
rest_bytes text rest byte e h = All-tail IsU8 byte rest (subst (All IsU8) e h)

-- ---- numbers and lists

u32_proper : (text : List ℕ) (n : ℕ) → SpellsU32 text n → IsU32 n
u32_proper text n p = omega (arith, unsigned_below 4294967296 text n p)

proper_u32 : IsProper SpellsU32 IsU32
proper_u32 text n p bytes = u32_proper text n p

each_proper : {A : Type 0} (P : List ℕ → A → Type 0) (Q : A → Type 0) → IsProper P Q → (text : List ℕ) (xs : List A) → Each P text xs → All IsU8 text → All Q xs
each_proper P Q law text [] s bytes = All-nil Q
each_proper P Q law text (x ∷ xs) s bytes = All-cons Q x xs (law s.front x s.first (front_bytes text s.front s.back s.parts bytes)) (each_proper P Q law s.back xs s.second (back_bytes text s.front s.back s.parts bytes))

counted_proper : {A : Type 0} (P : List ℕ → A → Type 0) (Q : A → Type 0) → IsProper P Q → IsProper (Counted P) (All Q)
counted_proper P Q law text xs s bytes = each_proper P Q law s.back xs s.second (back_bytes text s.front s.back s.parts bytes)

-- numbers need nothing of the bytes
u32s_each : (text : List ℕ) (ns : List ℕ) → Each SpellsU32 text ns → All IsU32 ns
u32s_each text [] s = All-nil IsU32
u32s_each text (n ∷ ns) s = All-cons IsU32 n ns (u32_proper s.front n s.first) (u32s_each s.back ns s.second)

proper_sized : IsProper Sized (All IsU8)
proper_sized text v s bytes = subst (All IsU8) s.second (back_bytes text s.front s.back s.parts bytes)

-- ---- code

raw_below : (text : List ℕ) (n : ℕ) → SpellsRaw32 text n → n < 2 ^ 32
raw_below (a ∷ b ∷ c ∷ d ∷ []) n p = omega (arith, p.0, p.1, p.2, p.3, p.4)
raw_below _ n p = absurd p

immediates_proper : (text : List ℕ) (t : Immediates) → SpellsImmediates text t → ProperImmediates t
immediates_proper text nothing p = tt
immediates_proper text (number n) p = u32_proper text n p
immediates_proper text (labels some label) p = (u32s_each p.first.back some p.first.second, u32_proper p.back label p.second)
immediates_proper text (signature type) p = u32_proper p.front type p.first
immediates_proper text (address align offset) p = (u32_proper p.front align p.first, u32_proper p.back offset p.second)
immediates_proper text memory p = tt
immediates_proper text (signed_32 n) p = omega (arith, signed_below 2147483648 text n p)
immediates_proper text (signed_64 n) p = omega (arith, signed_below 9223372036854775808 text n p)
immediates_proper text (raw_32 n) p = raw_below text n p
immediates_proper text (raw_64 n) p = omega (arith, raw_below p.2.front p.0 p.2.first, raw_below p.2.back p.1 p.2.second, p.3)
immediates_proper text (bulk n) p = u32_proper p.front n p.first
immediates_proper text never p = absurd p

pub code_proper : (c : Code) (text : List ℕ) → SpellsCode c text → ProperCode c
code_proper done text p = tt
code_proper (one i rest) text p = (immediates_proper p.first.rest (immediates i) p.first.spelled, code_proper rest p.back p.second)
code_proper (block k inner rest) text p = (code_proper inner p.first.inner p.first.contents, code_proper rest p.back p.second)
code_proper (repeat k inner rest) text p = (code_proper inner p.first.inner p.first.contents, code_proper rest p.back p.second)
code_proper (branch k m n rest) text p =
    let other : ProperCode n = elim p.first.others [ inl q ↦ code_proper n [] q.1 | inr q ↦ code_proper n q.0 q.1 ] in
    (code_proper m p.first.yes p.first.first, other, code_proper rest p.back p.second)

instrs_proper : (text : List ℕ) (is : List Instr) → SpellsInstrs text is → ProperInstrs is
instrs_proper text is p = code_proper (code_of is) p.inner p.contents

-- ---- the contents of sections

limits_proper : (min : ℕ) (most : Option ℕ) (text : List ℕ) → LimitsFrom min most text → IsU32 min × IfSome most IsU32
limits_proper min None text p = (u32_proper p.rest min p.spelled, tt)
limits_proper min (Some most) text p = (u32_proper p.spelled.front min p.spelled.first, u32_proper p.spelled.back most p.spelled.second)

proper_limits : IsProper SpellsLimits ProperLimits
proper_limits text l p bytes = limits_proper l.min l.max text p

proper_table_type : IsProper SpellsTableType ProperLimits
proper_table_type text l p bytes = limits_proper l.min l.max p.rest p.spelled

proper_name : IsProper SpellsName ProperName
proper_name text n p bytes = (proper_sized text n.bytes p.0 bytes, p.1)

import_kind_proper : (text : List ℕ) (k : ImportKind) → SpellsImportKind text k → ProperImportKind k
import_kind_proper text (import.Func type) p = u32_proper p.rest type p.spelled
import_kind_proper text (import.Table l) p = limits_proper l.min l.max p.spelled.rest p.spelled.spelled
import_kind_proper text (import.Memory l) p = limits_proper l.min l.max p.rest p.spelled
import_kind_proper text (import.Global g) p = tt

proper_import : IsProper SpellsImport ProperImport
proper_import text i p bytes =
    let rest = back_bytes text p.front p.back p.parts bytes in
    (proper_name p.front i.module p.first (front_bytes text p.front p.back p.parts bytes), proper_name p.second.front i.name p.second.first (front_bytes p.back p.second.front p.second.back p.second.parts rest), import_kind_proper p.second.back i.kind p.second.second)

proper_global : IsProper SpellsGlobal ProperGlobal
proper_global text g p bytes = instrs_proper p.back g.init p.second

proper_export : IsProper SpellsExport ProperExport
proper_export text e p bytes = (proper_name p.front e.name p.first (front_bytes text p.front p.back p.parts bytes), u32_proper p.second.back e.index p.second.second)

proper_elem : IsProper SpellsElem ProperElem
proper_elem text e p bytes = (u32_proper p.front e.table p.first, instrs_proper p.second.front e.offset p.second.first, u32s_each p.second.second.back e.funcs p.second.second.second)

proper_run : IsProper SpellsRun (λ (r : LocalRun). IsU32 r.count)
proper_run text r p bytes = u32_proper p.front r.count p.first

proper_body : IsProper SpellsBody ProperBody
proper_body text b p bytes =
    (counted_proper SpellsRun (λ (r : LocalRun). IsU32 r.count) proper_run p.0.front b.locals p.0.first (front_bytes text p.0.front p.0.back p.0.parts bytes), p.1, instrs_proper p.0.back b.code p.0.second)

proper_entry : IsProper (Within SpellsBody) ProperBody
proper_entry text b p bytes = proper_body p.inner b p.spelled (proper_sized text p.inner p.sized bytes)

proper_segment : IsProper SpellsSegment ProperSegment
proper_segment text d p bytes =
    let rest = back_bytes text p.front p.back p.parts bytes in
    (u32_proper p.front d.memory p.first, instrs_proper p.second.front d.offset p.second.first, proper_sized p.second.back d.bytes p.second.second (back_bytes p.back p.second.front p.second.back p.second.parts rest))

-- ---- sections

frame_bytes : (text : List ℕ) (f : ℕ × List ℕ) → SpellsFrame text f → All IsU8 text → All IsU8 f.1
frame_bytes text f p bytes = proper_sized p.rest f.1 p.spelled (rest_bytes text p.rest f.0 p.parts bytes)

chosen_bytes : (b : Bool) (here : List ℕ) (rest : Option (List ℕ)) → All IsU8 here → IfSome rest (All IsU8) → IfSome (if b then Some here else rest) (All IsU8)
chosen_bytes true here rest p q = p
chosen_bytes false here rest p q = q

contents_bytes : (id : ℕ) (text : List ℕ) (fs : List (ℕ × List ℕ)) → Each SpellsFrame text fs → All IsU8 text → IfSome (contents_of id fs) (All IsU8)
contents_bytes id text [] s bytes = tt
contents_bytes id text (f ∷ fs) s bytes =
    chosen_bytes (f.0 == id) f.1 (contents_of id fs) (frame_bytes s.front f s.first (front_bytes text s.front s.back s.parts bytes)) (contents_bytes id s.back fs s.second (back_bytes text s.front s.back s.parts bytes))

later_bytes : (late early : Option (List ℕ)) → IfSome late (All IsU8) → IfSome early (All IsU8) → IfSome (later_of late early) (All IsU8)
later_bytes (Some late) early p q = p
later_bytes None early p q = q

payload_bytes : (contents : List ℕ) (c : Name × List ℕ) → SpellsCustom contents c → All IsU8 contents → IfSome (named_payload c) (All IsU8)
payload_bytes contents c p bytes =
    chosen_bytes (bytes_eq c.0.bytes (codes "name")) c.1 None (subst (All IsU8) p.second (back_bytes contents p.front p.back p.parts bytes)) tt

names_proper : (text : List ℕ) (fs : List (ℕ × List ℕ)) (names : Option (List ℕ)) → Each SpellsFrame text fs → NamesAre fs names → All IsU8 text
    → IfSome names (All IsU8)
names_proper text [] names s h bytes = subst (λ (n : Option (List ℕ)). IfSome n (All IsU8)) (sym h) tt
names_proper text (f ∷ fs) names s h bytes =
    let here = frame_bytes s.front f s.first (front_bytes text s.front s.back s.parts bytes) in
    let late = names_proper s.back fs h.0 s.second h.1 (back_bytes text s.front s.back s.parts bytes) in
    elim h.2 [
      | inl a ↦ subst (λ (n : Option (List ℕ)). IfSome n (All IsU8)) (sym a.1) late
      | inr a ↦ subst (λ (n : Option (List ℕ)). IfSome n (All IsU8)) (sym a.3) (later_bytes h.0 (named_payload a.1) late (payload_bytes f.1 a.1 a.2 here))
    ]

-- ---- the module

list_proper : {A : Type 0} (P : List ℕ → A → Type 0) (Q : A → Type 0) → IsProper P Q → (xs : List A) (o : Option (List ℕ)) → ListIs (Counted P) xs o
    → IfSome o (All IsU8) → All Q xs
list_proper {A} P Q law xs None p bytes = subst (All Q) (sym p) (All-nil Q)
list_proper P Q law xs (Some contents) p bytes = counted_proper P Q law contents xs p bytes

start_proper : (start : Option ℕ) (o : Option (List ℕ)) → OptionIs SpellsU32 start o → IfSome start IsU32
start_proper start None p = subst (λ (s : Option ℕ). IfSome s IsU32) (sym p) tt
start_proper None (Some contents) p = absurd p
start_proper (Some func) (Some contents) p = u32_proper contents func p

pub spelled_well_formed : (bytes : List ℕ) (m : Module) → Spells bytes m → All IsU8 bytes → IsWellFormed m
spelled_well_formed bytes m p all =
    let rest = back_bytes bytes header p.rest p.begun all in
    let at : (id : ℕ) → IfSome (contents_of id p.frames) (All IsU8) = λ id. contents_bytes id p.rest p.frames p.framed.0 rest in
    record {
      imports = list_proper SpellsImport ProperImport proper_import m.imports (contents_of 2 p.frames) p.imports (at 2);
      funcs = list_proper SpellsU32 IsU32 proper_u32 m.funcs (contents_of 3 p.frames) p.funcs (at 3);
      tables = list_proper SpellsTableType ProperLimits proper_table_type m.tables (contents_of 4 p.frames) p.tables (at 4);
      mems = list_proper SpellsLimits ProperLimits proper_limits m.mems (contents_of 5 p.frames) p.mems (at 5);
      globals = list_proper SpellsGlobal ProperGlobal proper_global m.globals (contents_of 6 p.frames) p.globals (at 6);
      exports = list_proper SpellsExport ProperExport proper_export m.exports (contents_of 7 p.frames) p.exports (at 7);
      start = start_proper m.start (contents_of 8 p.frames) p.start;
      elems = list_proper SpellsElem ProperElem proper_elem m.elems (contents_of 9 p.frames) p.elems (at 9);
      bodies = list_proper (Within SpellsBody) ProperBody proper_entry m.bodies (contents_of 10 p.frames) p.bodies (at 10);
      segments = list_proper SpellsSegment ProperSegment proper_segment m.segments (contents_of 11 p.frames) p.segments (at 11);
      names = names_proper p.rest p.frames m.names p.framed.0 p.names rest;
      same = p.same;
    }
