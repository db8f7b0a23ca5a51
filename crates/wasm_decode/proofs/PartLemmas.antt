-- The parts of a module, one inside another.
use Rattle.std.proofs.Common.{◌≡◌, ℕ, ◌+◌, ◌-◌, ◌<◌, ◌≤◌, List, ◌∷◌, ◌++◌, length, get_or, take, drop, length-drop, length-append, Option, Some, None, Ok, Err, refl, sym, ap, subst, ◌∙◌, append_assoc, arith}
use Rattle.std.specs.Prelude.{slice_range, IsUtf8}
use Rattle.std.proofs.lemmas.List.{take-append-drop, drop-drop, length-take-le}
use Rattle.wasm_types.specs.declared.module.ImportKind.TheVariants as import
use Rattle.wasm_types.specs.Standing.{Stands, NoneStands, Reads}
use Rattle.wasm_types.specs.Numbers.{SpellsU32}
use Rattle.wasm_types.specs.Parts.{Behind, Both, Sized, Within}
use Rattle.wasm_types.specs.Types.{SpellsLimits, SpellsTableType, SpellsGlobalType}
use Rattle.wasm_types.specs.Sections.{SpellsName, SpellsImportKind}
use Rattle.text_laws.proofs.Once.{IsOnce, once_u32}
use Rattle.text_laws.proofs.SectionLemmas.{once_sized}
use Rattle.text_laws.proofs.ModuleLemmas.{not_whole, none_whole}
use Rattle.text_laws.proofs.StandingLemmas.{next, behind_first, both_stands, none_both_second}
use Rattle.code_decode.specs.declared.outcome.Stop.{Stop}
use Rattle.code_decode.specs.declared.outcome.Stop.TheVariants as stop
use Rattle.wasm_decode.specs.Entries.{Rule, IsEntry, ReadsEntry, both_of}

-- ---- texts of a stated size

pub part_here : (bytes : List ℕ) (start end : ℕ) → start ≤ end → drop start bytes ≡ slice_range bytes start end ++ drop end bytes
part_here bytes start end le = sym (take-append-drop (end - start) (drop start bytes)) ∙ ap (λ (t : List ℕ). take (end - start) (drop start bytes) ++ t)
    (drop-drop (end - start) start bytes ∙ ap (λ (n : ℕ). drop n bytes) (omega arith))

pub part_length : (bytes : List ℕ) (start end : ℕ) → start ≤ end → end ≤ length bytes → length (slice_range bytes start end) ≡ end - start
part_length bytes start end le within = length-take-le (end - start) (drop start bytes) (omega (arith, length-drop start bytes))

pub range_stands : (bytes : List ℕ) (at start size end : ℕ) → Stands SpellsU32 bytes at start size → end ≡ start + size → end ≤ length bytes
    → Stands Sized bytes at end (slice_range bytes start end)
range_stands bytes at start size end p e within =
    let long : length (slice_range bytes start end) ≡ size = part_length bytes start end (omega arith) within ∙ (let h : end - start ≡ size = omega arith in
    h) in
    record {
      text = p.text ++ slice_range bytes start end;
      spelled = record {
        front = p.text;
        back = slice_range bytes start end;
        parts = refl;
        first = subst (λ (n : ℕ). SpellsU32 p.text n) (sym long) p.spelled;
        second = refl;
      };
      here = p.here ∙ ap (λ (t : List ℕ). p.text ++ t) (part_here bytes start end (omega arith))
          ∙ sym (append_assoc p.text (slice_range bytes start end) (drop end bytes));
      within = within;
    }

pub range_past : (bytes : List ℕ) (at start size : ℕ) → Stands SpellsU32 bytes at start size → length bytes < start + size → NoneStands Sized bytes at
range_past bytes at start size p long text rest v here s =
    let r = behind_first SpellsU32 bytes at start size (length v) text s.front s.back rest once_u32 p here s.parts s.first in
    omega (arith, ap length r.1, length-drop start bytes, length-append s.back rest, ap length s.second, r.0, p.within)

pub framed_none : {A : Type 0} (P : Rule A) (bytes : List ℕ) (at : ℕ) → NoneStands Sized bytes at → NoneStands (Within P) bytes at
framed_none P bytes at none text rest v here s = none text rest s.inner here s.sized

framed_bad : {A : Type 0} (P : Rule A) (bytes : List ℕ) (at end : ℕ) (part : List ℕ) → Stands Sized bytes at end part → ((v : A) → P part v → ⊥)
    → NoneStands (Within P) bytes at
framed_bad {A} P bytes at end part s bad text rest v here t =
    let same = once_sized s.text text (drop end bytes) rest part t.inner s.spelled t.sized (sym s.here ∙ here) in
    bad v (subst (λ (u : List ℕ). P u v) (sym same.1) t.spelled)

pub framed_short : {A : Type 0} (P : Rule A) (S : A → Type 0) (bytes : List ℕ) (at end last : ℕ) (part : List ℕ) (entry : Option A) → IsOnce P
    → Stands Sized bytes at end part
    → ReadsEntry P S part 0 (Ok (entry, last)) → last < length part → NoneStands (Within P) bytes at
framed_short {A} P S bytes at end last part entry once s r lt = framed_bad P bytes at end part s (λ v p. not_whole P part last r.0 v once r.1 lt p)

pub framed_stops : {A : Type 0} (P : Rule A) (S : A → Type 0) (bytes : List ℕ) (at end : ℕ) (part : List ℕ) (e : Stop) → Stands Sized bytes at end part
    → ReadsEntry P S part 0 (Err e) → ReadsEntry (Within P) S bytes at (Err e)
framed_stops P S bytes at end part stop.No s none = framed_bad P bytes at end part s (λ v p. none_whole P part v none p)
framed_stops P S bytes at end part stop.Memory s none = tt

-- ---- one after another

both_entry : {A B : Type 0} (S : A → Type 0) (T : B → Type 0) (first : Option A) (second : Option B) (v : A) (w : B) → IsEntry S first v → IsEntry T second w
    → IsEntry (λ (u : A × B). S u.0 × T u.1) (both_of first second) (v, w)
both_entry S T (Some x) (Some y) v w p q = (cc (p.0, q.0), (p.1, q.1))
both_entry S T (Some x) None v w p q = λ h. q h.1
both_entry S T None second v w p q = λ h. p h.0

pub both_read : {A B : Type 0} (P : Rule A) (S : A → Type 0) (Q : Rule B) (T : B → Type 0) (bytes : List ℕ) (at middle end : ℕ) (first : Option A)
    (second : Option B)
    → ReadsEntry P S bytes at (Ok (first, middle)) → ReadsEntry Q T bytes middle (Ok (second, end)) → ReadsEntry (Both P Q) (λ (u : A × B). S u.0 × T u.1)
    bytes at (Ok (both_of first second, end))
both_read P S Q T bytes at middle end first second p q = (
  (p.0, q.0),
  both_stands P Q bytes at middle end p.0 q.0 p.1 q.1,
  both_entry S T first second p.0 q.0 p.2 q.2,
)

pub both_stops : {A B : Type 0} (P : Rule A) (S : A → Type 0) (Q : Rule B) (T : B → Type 0) (bytes : List ℕ) (at middle : ℕ) (first : Option A) (e : Stop)
    → IsOnce P
    → ReadsEntry P S bytes at (Ok (first, middle)) → ReadsEntry Q T bytes middle (Err e) → ReadsEntry (Both P Q) (λ (u : A × B). S u.0 × T u.1) bytes at
    (Err e)
both_stops P S Q T bytes at middle first stop.No once p q = none_both_second P Q bytes at middle p.0 once p.1 q
both_stops P S Q T bytes at middle first stop.Memory once p q = tt

-- ---- behind a byte

pub behind_stands : {A B : Type 0} (P : Rule A) (Q : Rule B) (byte : ℕ) (bytes : List ℕ) (at end : ℕ) (v : A) (w : B) → at < length bytes
    → get_or bytes at 0 ≡ byte
    → ((text : List ℕ) → Behind byte (λ rest. P rest v) text → Q text w) → Stands P bytes (at + 1) end v → Stands Q bytes at end w
behind_stands P Q byte bytes at end v w lt is whole_text s = record {
  text = byte ∷ s.text;
  spelled = whole_text (byte ∷ s.text) (record { rest = s.text; parts = refl; spelled = s.spelled });
  here = next bytes at lt ∙ ap (λ (b : ℕ). b ∷ drop (at + 1) bytes) is ∙ ap (λ (t : List ℕ). byte ∷ t) s.here;
  within = s.within;
}

pub behind_both : {A B C : Type 0} (P : Rule A) (Q : Rule B) (R : Rule C) (byte : ℕ) (bytes : List ℕ) (at mid end : ℕ) (v : A) (w : B) (u : C) → at < length bytes
    → get_or bytes at 0 ≡ byte → ((text : List ℕ) → Behind byte (λ rest. Both P Q rest (v, w)) text → R text u)
    → Stands P bytes (at + 1) mid v → Stands Q bytes mid end w → Stands R bytes at end u
behind_both P Q R byte bytes at mid end v w u lt is whole_text s t =
    behind_stands (Both P Q) R byte bytes at end (v, w) u lt is whole_text (both_stands P Q bytes (at + 1) mid end v w s t)

pub behind_opened : (R : List ℕ → Type 0) (byte : ℕ) (bytes : List ℕ) (at : ℕ) (text rest : List ℕ) → at < length bytes → drop at bytes ≡ text ++ rest
    → (s : Behind byte R text) → (get_or bytes at 0 ≡ byte) × (drop (at + 1) bytes ≡ s.rest ++ rest)
behind_opened R byte bytes at text rest lt here s =
    let e : get_or bytes at 0 ∷ drop (at + 1) bytes ≡ byte ∷ (s.rest ++ rest) = sym (next bytes at lt) ∙ here ∙ ap (λ (t : List ℕ). t ++ rest) s.parts in
    (cc, cc)

pub behind_reads : {A : Type 0} (P : Rule A) (byte : ℕ) (bytes : List ℕ) (at : ℕ) (r : Option (A × ℕ)) → at < length bytes → get_or bytes at 0 ≡ byte
    → Reads P bytes (at + 1) r → Reads (λ text v. Behind byte (λ rest. P rest v) text) bytes at r
behind_reads {A} P byte bytes at (Some found) lt is h =
    let Q : Rule A = λ text v. Behind byte (λ rest. P rest v) text in
    behind_stands P Q byte bytes at found.1 found.0 found.0 lt is (λ text p. p) h
behind_reads P byte bytes at None lt is none = λ text rest v here s. none s.rest rest v (behind_opened (λ t. P t v) byte bytes at text rest lt here s).1
    s.spelled

-- ---- types

limits_none_at : (bytes : List ℕ) (at min mid : ℕ) → at < length bytes → get_or bytes at 0 ≡ 1 → Stands SpellsU32 bytes (at + 1) mid min
    → NoneStands SpellsU32 bytes mid → (text rest : List ℕ) (m : ℕ) (x : Option ℕ) → drop at bytes ≡ text ++ rest
    → SpellsLimits text (record { min = m; max = x }) → ⊥
limits_none_at bytes at min mid lt is p none text rest m None here s = omega (
  arith,
  is,
  (behind_opened (λ t. SpellsU32 t m) 0 bytes at text rest lt here s).0,
)
limits_none_at bytes at min mid lt is p none text rest m (Some x) here s =
    none_both_second SpellsU32 SpellsU32 bytes (at + 1) mid min once_u32 p none s.rest rest (m, x) (behind_opened (λ t. Both SpellsU32 SpellsU32 t (m, x)) 1
    bytes at text rest lt here s).1 s.spelled

pub limits_none : (bytes : List ℕ) (at min mid : ℕ) → at < length bytes → get_or bytes at 0 ≡ 1 → Stands SpellsU32 bytes (at + 1) mid min
    → NoneStands SpellsU32 bytes mid → NoneStands SpellsLimits bytes at
limits_none bytes at min mid lt is p none text rest v here s = limits_none_at bytes at min mid lt is p none text rest v.min v.max here s

-- ---- names and imports

pub name_none : (bytes : List ℕ) (at : ℕ) → NoneStands Sized bytes at → NoneStands SpellsName bytes at
name_none bytes at none text rest n here s = none text rest n.bytes here s.0

pub name_bad : (bytes : List ℕ) (at end : ℕ) (part : List ℕ) → Stands Sized bytes at end part → (IsUtf8 part → ⊥) → NoneStands SpellsName bytes at
name_bad bytes at end part s bad text rest n here t =
    let same = once_sized s.text text (drop end bytes) rest part n.bytes s.spelled t.0 (sym s.here ∙ here) in
    bad (subst IsUtf8 (sym same.1) t.1)

pub import_table_none : (bytes : List ℕ) (at : ℕ) → at < length bytes → get_or bytes at 0 ≡ 1 → NoneStands SpellsTableType bytes (at + 1)
    → NoneStands SpellsImportKind bytes at
import_table_none bytes at lt is none text rest (import.Table l) here s = none s.rest rest l (behind_opened (λ t. SpellsTableType t l) 1 bytes at text rest lt
    here s).1 s.spelled
import_table_none bytes at lt is none text rest (import.Func n) here s = omega (
  arith,
  is,
  (behind_opened (λ t. SpellsU32 t n) 0 bytes at text rest lt here s).0,
)
import_table_none bytes at lt is none text rest (import.Memory l) here s = omega (
  arith,
  is,
  (behind_opened (λ t. SpellsLimits t l) 2 bytes at text rest lt here s).0,
)
import_table_none bytes at lt is none text rest (import.Global g) here s = omega (
  arith,
  is,
  (behind_opened (λ t. SpellsGlobalType t g) 3 bytes at text rest lt here s).0,
)

pub import_global_none : (bytes : List ℕ) (at : ℕ) → at < length bytes → get_or bytes at 0 ≡ 3 → NoneStands SpellsGlobalType bytes (at + 1)
    → NoneStands SpellsImportKind bytes at
import_global_none bytes at lt is none text rest (import.Global g) here s = none s.rest rest g (behind_opened (λ t. SpellsGlobalType t g) 3 bytes at text rest
    lt here s).1 s.spelled
import_global_none bytes at lt is none text rest (import.Func n) here s = omega (
  arith,
  is,
  (behind_opened (λ t. SpellsU32 t n) 0 bytes at text rest lt here s).0,
)
import_global_none bytes at lt is none text rest (import.Memory l) here s = omega (
  arith,
  is,
  (behind_opened (λ t. SpellsLimits t l) 2 bytes at text rest lt here s).0,
)
import_global_none bytes at lt is none text rest (import.Table l) here s = omega (
  arith,
  is,
  (behind_opened (λ t. SpellsTableType t l) 1 bytes at text rest lt here s).0,
)
