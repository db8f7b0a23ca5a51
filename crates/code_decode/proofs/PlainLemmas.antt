-- The steps of the reader of plain instructions.
use Rattle.std.proofs.Common.{◌≡◌, ℕ, ◌+◌, ◌*◌, ◌<◌, ◌≤◌, ◌⊎◌, ◌≢◌, ◌^◌, ℤ, Err, Option, Some, None, inl, inr, true, false, List, [], ◌∷◌, ◌++◌, length, get_or, drop, length-drop, refl, sym, ap, subst, ◌∙◌, arith, append_assoc}
use Rattle.std.specs.Int.{w32, w64, cast_signed, cast_unsigned}
use Rattle.std.proofs.lemmas.Bool.{cases_eq}
use Rattle.std.proofs.lemmas.Bool.Decides.{nat_tests}
use Rattle.std.proofs.lemmas.Int.{of_z-to_z}
use Rattle.wasm_types.specs.declared.instr.MemArg.{MemArg}
use Rattle.wasm_types.specs.declared.instr.Instr.{Instr, BrTable}
use Rattle.wasm_types.specs.Standing.{Stands, NoneStands}
use Rattle.wasm_types.specs.Numbers.{SpellsU32, SpellsS32, SpellsS64, SpellsI32, SpellsI64}
use Rattle.wasm_types.specs.Parts.{Both, Counted}
use Rattle.wasm_types.specs.Plain.{Immediates, nothing, number, labels, signature, address, memory, signed_32, signed_64, raw_32, raw_64, bulk, never, memories_of, opcode, immediates, SpellsRaw32, SpellsRaw64, SpellsBulk, SpellsImmediates, SpellsPlain, SpellsAddress, SpellsSignature}
use Rattle.text_laws.proofs.NumberLemmas.{signed_below, one_signed}
use Rattle.text_laws.proofs.Once.{IsOnce, once_u32, once_both, once_counted}
use Rattle.text_laws.proofs.OpcodeLemmas.{once_raw32, once_raw64, once_bulk}
use Rattle.text_laws.proofs.StandingLemmas.{next, behind_first, both_stands, none_both_first, none_both_second}
use Rattle.code_decode.specs.declared.outcome.Stop.{Stop}
use Rattle.code_decode.specs.declared.outcome.Stop.TheVariants as stop
use Rattle.opcode_table.specs.declared.instructions.Following.{Following}
use Rattle.opcode_table.specs.declared.instructions.Following.TheVariants as kind
use Rattle.opcode_table.specs.Table.{IsMade, kind_of, Follows}
use Rattle.code_decode.specs.Reading.{NoZero, ReadsOr, Skips}

-- ---- an instruction, by its opcode and what follows

-- one kind of text that follows an opcode: what it spells, and the immediates that this is
pub record IsKind {A : Type 0} (P : List ℕ → A → Type 0) (tag : A → Immediates) (k : Following) : Type 0 where
  pub to : (text : List ℕ) (v : A) → P text v → SpellsImmediates text (tag v)
  pub from : (t : Immediates) (text : List ℕ) → kind_of t ≡ Some k → SpellsImmediates text t → (v : A) × (t ≡ tag v) × P text v
  pub once : (a b x y : List ℕ) (v w : A) → P a v → P b w → a ++ x ≡ b ++ y → tag v ≡ tag w

-- the instruction stands where what follows its opcode does
behind : (bytes : List ℕ) (at end : ℕ) (i : Instr) (text : List ℕ) → at < length bytes → opcode i ≡ get_or bytes at 0
    → SpellsImmediates text (immediates i) → drop (at + 1) bytes ≡ text ++ drop end bytes → end ≤ length bytes → Stands SpellsPlain bytes at end i
behind bytes at end i text lt op p here within = record {
  text = get_or bytes at 0 ∷ text;
  spelled = record { rest = text; parts = ap (λ (b : ℕ). b ∷ text) (sym op); spelled = p };
  here = next bytes at lt ∙ ap (λ (t : List ℕ). get_or bytes at 0 ∷ t) here;
  within = within;
}

pub made : {A : Type 0} (P : List ℕ → A → Type 0) (tag : A → Immediates) (k : Following) (bytes : List ℕ) (at end : ℕ) (i : Instr) (v : A) → IsKind P tag k
    → at < length bytes → IsMade i (get_or bytes at 0) (tag v) → Stands P bytes (at + 1) end v → Stands SpellsPlain bytes at end i
made P tag k bytes at end i v kind lt is s =
    let text = subst (λ (t : Immediates). SpellsImmediates s.text t) (sym is.1) (kind.to s.text v s.spelled) in
    behind bytes at end i s.text lt is.0 text s.here s.within

pub bare_stands : (bytes : List ℕ) (at : ℕ) (i : Instr) → at < length bytes → IsMade i (get_or bytes at 0) nothing → Stands SpellsPlain bytes at (at + 1) i
bare_stands bytes at i lt is =
    behind bytes at (at + 1) i [] lt is.0 (subst (λ (t : Immediates). SpellsImmediates [] t) (sym is.1) refl) refl (omega arith)

-- what a plain text at a place tells
opened : (bytes : List ℕ) (at : ℕ) (text rest : List ℕ) (i : Instr) → at < length bytes → drop at bytes ≡ text ++ rest → (s : SpellsPlain text i)
    → (opcode i ≡ get_or bytes at 0) × (drop (at + 1) bytes ≡ s.rest ++ rest)
opened bytes at text rest i lt here s =
    let e : get_or bytes at 0 ∷ drop (at + 1) bytes ≡ opcode i ∷ (s.rest ++ rest) = sym (next bytes at lt) ∙ here ∙ ap (λ (t : List ℕ). t ++ rest) s.parts in
    (cc, cc)

-- the kind that follows, by its name
pub at_kind : (byte : ℕ) (f k : Following) → f ≡ k → Follows byte (Some f) → Follows byte (Some k)
at_kind byte f k e h = subst (λ (z : Following). Follows byte (Some z)) e h

-- nothing of the kind stands behind the opcode
pub not_read : {A : Type 0} (P : List ℕ → A → Type 0) (tag : A → Immediates) (k : Following) (bytes : List ℕ) (at : ℕ) → IsKind P tag k
    → at < length bytes → Follows (get_or bytes at 0) (Some k) → NoneStands P bytes (at + 1) → NoneStands SpellsPlain bytes at
not_read P tag k bytes at kind lt is none text rest i here s =
    let o = opened bytes at text rest i lt here s in
    let f = kind.from (immediates i) s.rest (is i s.rest o.0 s.spelled) s.spelled in
    none s.rest rest f.0 o.1 f.2

-- no instruction has the opcode with that behind it
pub not_made : {A : Type 0} (P : List ℕ → A → Type 0) (tag : A → Immediates) (k : Following) (bytes : List ℕ) (at end : ℕ) (v : A) → IsKind P tag k
    → at < length bytes → Follows (get_or bytes at 0) (Some k) → Stands P bytes (at + 1) end v → ((i : Instr) → IsMade i (get_or bytes at 0) (tag v) → ⊥)
    → NoneStands SpellsPlain bytes at
not_made P tag k bytes at end v kind lt is p none text rest i here s =
    let o = opened bytes at text rest i lt here s in
    let f = kind.from (immediates i) s.rest (is i s.rest o.0 s.spelled) s.spelled in
    let same = kind.once p.text s.rest (drop end bytes) rest v f.0 p.spelled f.2 (sym p.here ∙ o.1) in
    none i (o.0, f.1 ∙ sym same)

kind_nothing : (t : Immediates) → kind_of t ≡ Some kind.Nothing → t ≡ nothing
kind_nothing nothing e = refl
kind_nothing _ e = absurd cc

pub not_bare : (bytes : List ℕ) (at : ℕ) → at < length bytes → Follows (get_or bytes at 0) (Some kind.Nothing)
    → ((i : Instr) → IsMade i (get_or bytes at 0) nothing → ⊥)
    → NoneStands SpellsPlain bytes at
not_bare bytes at lt is none text rest i here s =
    let o = opened bytes at text rest i lt here s in
    none i (o.0, kind_nothing (immediates i) (is i s.rest o.0 s.spelled))

kind_none : (t : Immediates) (text : List ℕ) → kind_of t ≡ None → SpellsImmediates text t → ⊥
kind_none never text e p = p
kind_none _ text e p = absurd cc

pub not_opcode : (bytes : List ℕ) (at : ℕ) → at < length bytes → Follows (get_or bytes at 0) None → NoneStands SpellsPlain bytes at
not_opcode bytes at lt is text rest i here s =
    let o = opened bytes at text rest i lt here s in
    kind_none (immediates i) s.rest (is i s.rest o.0 s.spelled) s.spelled

-- ---- the kinds, each for itself

from_number : (t : Immediates) (text : List ℕ) → kind_of t ≡ Some kind.Number → SpellsImmediates text t → (v : ℕ) × (t ≡ number v) × SpellsU32 text v
from_number (number n) text e p = (n, refl, p)
from_number _ text e p = absurd cc

pub number_kind : IsKind SpellsU32 number kind.Number
number_kind = record { to = λ text v p. p; from = from_number; once = λ a b x y v w p q e. ap number (once_u32 a b x y v w p q e).1 }

abbrev pub labels_tag : List ℕ × ℕ → Immediates
labels_tag v = labels v.0 v.1

from_labels : (t : Immediates) (text : List ℕ) → kind_of t ≡ Some kind.Labels → SpellsImmediates text t
    → (v : List ℕ × ℕ) × (t ≡ labels_tag v) × Both (Counted SpellsU32) SpellsU32 text v
from_labels (labels some label) text e p = ((some, label), refl, p)
from_labels _ text e p = absurd cc

pub labels_kind : IsKind (Both (Counted SpellsU32) SpellsU32) labels_tag kind.Labels
labels_kind = record {
  to = λ text v p. p;
  from = from_labels;
  once = λ a b x y v w p q e. ap labels_tag (once_both (Counted SpellsU32) SpellsU32 (once_counted SpellsU32 once_u32) once_u32 a b x y v w p q e).1;
}

from_signature : (t : Immediates) (text : List ℕ) → kind_of t ≡ Some kind.Signature → SpellsImmediates text t
    → (v : ℕ) × (t ≡ signature v) × SpellsSignature text v
from_signature (signature n) text e p = (n, refl, p)
from_signature _ text e p = absurd cc

pub signature_kind : IsKind SpellsSignature signature kind.Signature
signature_kind = record {
  to = λ text v p. p;
  from = from_signature;
  once = λ a b x y v w p q e. ap (λ (z : ℕ × ℕ). signature z.0) (once_both SpellsU32 SpellsU32 once_u32 once_u32 a b x y (v, 0) (w, 0) p q e).1;
}

abbrev pub address_tag : MemArg → Immediates
address_tag m = address m.align m.offset

from_address : (t : Immediates) (text : List ℕ) → kind_of t ≡ Some kind.Address → SpellsImmediates text t
    → (v : MemArg) × (t ≡ address_tag v) × SpellsAddress text v
from_address (address a o) text e p = (record { align = a; offset = o }, refl, p)
from_address _ text e p = absurd cc

pub address_kind : IsKind SpellsAddress address_tag kind.Address
address_kind = record {
  to = λ text v p. p;
  from = from_address;
  once = λ a b x y v w p q e.
      ap (λ (z : ℕ × ℕ). address z.0 z.1) (once_both SpellsU32 SpellsU32 once_u32 once_u32 a b x y (v.align, v.offset) (w.align, w.offset) p q e).1;
}

from_raw_32 : (t : Immediates) (text : List ℕ) → kind_of t ≡ Some kind.Raw32 → SpellsImmediates text t → (v : ℕ) × (t ≡ raw_32 v) × SpellsRaw32 text v
from_raw_32 (raw_32 n) text e p = (n, refl, p)
from_raw_32 _ text e p = absurd cc

pub raw_32_kind : IsKind SpellsRaw32 raw_32 kind.Raw32
raw_32_kind = record { to = λ text v p. p; from = from_raw_32; once = λ a b x y v w p q e. ap raw_32 (once_raw32 a b x y v w p q e).1 }

from_raw_64 : (t : Immediates) (text : List ℕ) → kind_of t ≡ Some kind.Raw64 → SpellsImmediates text t → (v : ℕ) × (t ≡ raw_64 v) × SpellsRaw64 text v
from_raw_64 (raw_64 n) text e p = (n, refl, p)
from_raw_64 _ text e p = absurd cc

pub raw_64_kind : IsKind SpellsRaw64 raw_64 kind.Raw64
raw_64_kind = record { to = λ text v p. p; from = from_raw_64; once = λ a b x y v w p q e. ap raw_64 (once_raw64 a b x y v w p q e).1 }

from_bulk : (t : Immediates) (text : List ℕ) → kind_of t ≡ Some kind.Bulk → SpellsImmediates text t → (v : ℕ) × (t ≡ bulk v) × SpellsBulk text v
from_bulk (bulk n) text e p = (n, refl, p)
from_bulk _ text e p = absurd cc

pub bulk_kind : IsKind SpellsBulk bulk kind.Bulk
bulk_kind = record { to = λ text v p. p; from = from_bulk; once = λ a b x y v w p q e. ap bulk (once_bulk a b x y v w p q e).1 }

-- signed numbers are read as such
abbrev pub tag_32 : ℤ → Immediates
tag_32 z = signed_32 (cast_unsigned w32 z)

from_signed_32 : (t : Immediates) (text : List ℕ) → kind_of t ≡ Some kind.Signed32 → SpellsImmediates text t → (v : ℤ) × (t ≡ tag_32 v) × SpellsI32 text v
from_signed_32 (signed_32 n) text e p =
    let below : n < 2 ^ 32 = signed_below 2147483648 text n p in
    let same : cast_unsigned w32 (cast_signed w32 n) ≡ n = of_z-to_z w32 n below in
    (cast_signed w32 n, ap signed_32 (sym same), subst (λ (m : ℕ). SpellsS32 text m) (sym same) p)
from_signed_32 _ text e p = absurd cc

pub signed_32_kind : IsKind SpellsI32 tag_32 kind.Signed32
signed_32_kind = record {
  to = λ text v p. p;
  from = from_signed_32;
  once = λ a b x y v w p q e. ap signed_32 (one_signed 2147483648 a b x y (cast_unsigned w32 v) (cast_unsigned w32 w) p q e).1;
}

abbrev pub tag_64 : ℤ → Immediates
tag_64 z = signed_64 (cast_unsigned w64 z)

from_signed_64 : (t : Immediates) (text : List ℕ) → kind_of t ≡ Some kind.Signed64 → SpellsImmediates text t → (v : ℤ) × (t ≡ tag_64 v) × SpellsI64 text v
from_signed_64 (signed_64 n) text e p =
    let below : n < 2 ^ 64 = signed_below 9223372036854775808 text n p in
    let same : cast_unsigned w64 (cast_signed w64 n) ≡ n = of_z-to_z w64 n below in
    (cast_signed w64 n, ap signed_64 (sym same), subst (λ (m : ℕ). SpellsS64 text m) (sym same) p)
from_signed_64 _ text e p = absurd cc

pub signed_64_kind : IsKind SpellsI64 tag_64 kind.Signed64
signed_64_kind = record {
  to = λ text v p. p;
  from = from_signed_64;
  once = λ a b x y v w p q e. ap signed_64 (one_signed 9223372036854775808 a b x y (cast_unsigned w64 v) (cast_unsigned w64 w) p q e).1;
}

-- the byte of a memory
from_memory : (t : Immediates) (text : List ℕ) → kind_of t ≡ Some kind.Memory → SpellsImmediates text t → (t ≡ memory) × (text ≡ 0 ∷ [])
from_memory memory text e p = (refl, p)
from_memory _ text e p = absurd cc

zero_here : (bytes : List ℕ) (at end : ℕ) → (end ≡ at + 1) × (at < length bytes) × (get_or bytes at 0 ≡ 0)
    → (drop at bytes ≡ 0 ∷ drop end bytes) × (end ≤ length bytes)
zero_here bytes at end z =
    (next bytes at z.1 ∙ ap (λ (b : ℕ). b ∷ drop (at + 1) bytes) z.2 ∙ ap (λ (n : ℕ). 0 ∷ drop n bytes) (sym z.0), omega (arith, z.0, z.1))

pub memory_stands : (bytes : List ℕ) (at end : ℕ) (i : Instr) → at < length bytes → IsMade i (get_or bytes at 0) memory
    → (end ≡ at + 1 + 1) × (at + 1 < length bytes) × (get_or bytes (at + 1) 0 ≡ 0) → Stands SpellsPlain bytes at end i
memory_stands bytes at end i lt is z =
    let here = zero_here bytes (at + 1) end z in
    behind bytes at end i (0 ∷ []) lt is.0 (subst (λ (t : Immediates). SpellsImmediates (0 ∷ []) t) (sym is.1) refl) here.0 here.1

pub not_memory : (bytes : List ℕ) (at : ℕ) → at < length bytes → Follows (get_or bytes at 0) (Some kind.Memory) → NoZero bytes (at + 1)
    → NoneStands SpellsPlain bytes at
not_memory bytes at lt is none text rest i here s =
    let o = opened bytes at text rest i lt here s in
    none rest (o.1 ∙ ap (λ (t : List ℕ). t ++ rest) (from_memory (immediates i) s.rest (is i s.rest o.0 s.spelled) s.spelled).1)

pub not_of_memory : (bytes : List ℕ) (at : ℕ) → at < length bytes → Follows (get_or bytes at 0) (Some kind.Memory)
    → ((i : Instr) → IsMade i (get_or bytes at 0) memory → ⊥)
    → NoneStands SpellsPlain bytes at
not_of_memory bytes at lt is none text rest i here s =
    let o = opened bytes at text rest i lt here s in
    none i (o.0, (from_memory (immediates i) s.rest (is i s.rest o.0 s.spelled) s.spelled).0)

-- ---- an instruction on ranges of memory

pub bulk_two : (n : ℕ) → n ≡ 10 → memories_of n ≡ 0 ∷ 0 ∷ []
bulk_two n e = grind (arith, nat_tests)

pub bulk_one : (n : ℕ) → n ≢ 10 → memories_of n ≡ 0 ∷ []
bulk_one n e = grind (arith, nat_tests)

bulk_some : (n : ℕ) → (more : List ℕ) × (memories_of n ≡ 0 ∷ more)
bulk_some n = elim (cases_eq n 10) [ inl e ↦ (0 ∷ [], bulk_two n e) | inr e ↦ ([], bulk_one n e) ]

bulk_stands : (bytes : List ℕ) (at mid end n : ℕ) → Stands SpellsU32 bytes at mid n → drop mid bytes ≡ memories_of n ++ drop end bytes → end ≤ length bytes
    → Stands SpellsBulk bytes at end n
bulk_stands bytes at mid end n p here within = record {
  text = p.text ++ memories_of n;
  spelled = record { front = p.text; back = memories_of n; parts = refl; first = p.spelled; second = refl };
  here = p.here ∙ ap (λ (t : List ℕ). p.text ++ t) here ∙ sym (append_assoc p.text (memories_of n) (drop end bytes));
  within = within;
}

pub bulk_one_stands : (bytes : List ℕ) (at mid end n : ℕ) → n ≢ 10 → Stands SpellsU32 bytes at mid n
    → (end ≡ mid + 1) × (mid < length bytes) × (get_or bytes mid 0 ≡ 0) → Stands SpellsBulk bytes at end n
bulk_one_stands bytes at mid end n other p z =
    let here = zero_here bytes mid end z in
    bulk_stands bytes at mid end n p (here.0 ∙ ap (λ (t : List ℕ). t ++ drop end bytes) (sym (bulk_one n other))) here.1

pub bulk_two_stands : (bytes : List ℕ) (at mid next end n : ℕ) → n ≡ 10 → Stands SpellsU32 bytes at mid n
    → (next ≡ mid + 1) × (mid < length bytes) × (get_or bytes mid 0 ≡ 0) → (end ≡ next + 1) × (next < length bytes) × (get_or bytes next 0 ≡ 0)
    → Stands SpellsBulk bytes at end n
bulk_two_stands bytes at mid next end n two p y z =
    let first = zero_here bytes mid next y in
    let second = zero_here bytes next end z in
    bulk_stands bytes at mid end n p
    (first.0 ∙ ap (λ (t : List ℕ). 0 ∷ t) second.0 ∙ ap (λ (t : List ℕ). t ++ drop end bytes) (sym (bulk_two n two))) second.1

pub no_bulk_number : (bytes : List ℕ) (at : ℕ) → NoneStands SpellsU32 bytes at → NoneStands SpellsBulk bytes at
no_bulk_number bytes at none text rest n here s =
    none s.front (s.back ++ rest) n (here ∙ ap (λ (t : List ℕ). t ++ rest) s.parts ∙ append_assoc s.front s.back rest) s.first

-- what stands behind the number is no byte for each memory
no_bulk : (bytes : List ℕ) (at mid n : ℕ) → Stands SpellsU32 bytes at mid n → ((rest : List ℕ) → drop mid bytes ≡ memories_of n ++ rest → ⊥)
    → NoneStands SpellsBulk bytes at
no_bulk bytes at mid n p none text rest m here s =
    let r = behind_first SpellsU32 bytes at mid n m text s.front s.back rest once_u32 p here s.parts s.first in
    none rest (r.1 ∙ ap (λ (t : List ℕ). t ++ rest) (s.second ∙ ap memories_of (sym r.0)))

pub no_bulk_first : (bytes : List ℕ) (at mid n : ℕ) → Stands SpellsU32 bytes at mid n → NoZero bytes mid → NoneStands SpellsBulk bytes at
no_bulk_first bytes at mid n p none =
    let some = bulk_some n in
    no_bulk bytes at mid n p (λ rest e. none (some.0 ++ rest) (e ∙ ap (λ (t : List ℕ). t ++ rest) some.1))

pub no_bulk_second : (bytes : List ℕ) (at mid next n : ℕ) → n ≡ 10 → Stands SpellsU32 bytes at mid n
    → (next ≡ mid + 1) × (mid < length bytes) × (get_or bytes mid 0 ≡ 0) → NoZero bytes next → NoneStands SpellsBulk bytes at
no_bulk_second bytes at mid next n two p y none =
    let first = zero_here bytes mid next y in
    no_bulk bytes at mid n p (λ rest e. let f : 0 ∷ drop next bytes ≡ 0 ∷ 0 ∷ rest = sym first.0 ∙ e ∙ ap (λ (t : List ℕ). t ++ rest) (bulk_two n two) in none rest cc)

-- ---- what the kinds are made of

pub not_zero_table : (bytes : List ℕ) (at mid end type table : ℕ) → Stands SpellsU32 bytes at mid type → Stands SpellsU32 bytes mid end table
    → table ≢ 0 → NoneStands SpellsSignature bytes at
not_zero_table bytes at mid end type table p q ne text rest v here s =
    let r = behind_first SpellsU32 bytes at mid type v text s.front s.back rest once_u32 p here s.parts s.first in
    ne (once_u32 q.text s.back (drop end bytes) rest table 0 q.spelled s.second (sym q.here ∙ r.1)).1

pub no_table : (bytes : List ℕ) (at mid type : ℕ) → Stands SpellsU32 bytes at mid type → NoneStands SpellsU32 bytes mid → NoneStands SpellsSignature bytes at
no_table bytes at mid type p none text rest v here s =
    none s.back rest 0 (behind_first SpellsU32 bytes at mid type v text s.front s.back rest once_u32 p here s.parts s.first).1 s.second

pub no_offset : (bytes : List ℕ) (at mid align : ℕ) → Stands SpellsU32 bytes at mid align → NoneStands SpellsU32 bytes mid → NoneStands SpellsAddress bytes at
no_offset bytes at mid align p none text rest m here s =
    none s.back rest m.offset (behind_first SpellsU32 bytes at mid align m.align text s.front s.back rest once_u32 p here s.parts s.first).1 s.second

pub next_four : (bytes : List ℕ) (at : ℕ) → at + 4 ≤ length bytes
    → drop at bytes ≡ get_or bytes at 0 ∷ get_or bytes (at + 1) 0 ∷ get_or bytes (at + 2) 0 ∷ get_or bytes (at + 3) 0 ∷ drop (at + 4) bytes
next_four bytes at le =
    let a : drop at bytes ≡ get_or bytes at 0 ∷ drop (at + 1) bytes = next bytes at (omega arith) in
    let b : drop (at + 1) bytes ≡ get_or bytes (at + 1) 0 ∷ drop (at + 2) bytes = next bytes (at + 1) (omega arith) ∙ ap (λ (k : ℕ). get_or bytes (at + 1) 0 ∷ drop k bytes) (omega arith) in
    let c : drop (at + 2) bytes ≡ get_or bytes (at + 2) 0 ∷ drop (at + 3) bytes = next bytes (at + 2) (omega arith) ∙ ap (λ (k : ℕ). get_or bytes (at + 2) 0 ∷ drop k bytes) (omega arith) in
    let d : drop (at + 3) bytes ≡ get_or bytes (at + 3) 0 ∷ drop (at + 4) bytes = next bytes (at + 3) (omega arith) ∙ ap (λ (k : ℕ). get_or bytes (at + 3) 0 ∷ drop k bytes) (omega arith) in
    cc

pub raw_stands : (bytes : List ℕ) (at n : ℕ) → at + 4 ≤ length bytes → ((k : ℕ) → get_or bytes k 0 < 256)
    → n ≡ get_or bytes at 0 + 256 * get_or bytes (at + 1) 0 + 65536 * get_or bytes (at + 2) 0 + 16777216 * get_or bytes (at + 3) 0
    → Stands SpellsRaw32 bytes at (at + 4) n
raw_stands bytes at n le small is = record {
  text = get_or bytes at 0 ∷ get_or bytes (at + 1) 0 ∷ get_or bytes (at + 2) 0 ∷ get_or bytes (at + 3) 0 ∷ [];
  spelled = (small at, small (at + 1), small (at + 2), small (at + 3), is);
  here = next_four bytes at le;
  within = le;
}

pub no_raw : (bytes : List ℕ) (at : ℕ) → length bytes < at + 4 → NoneStands SpellsRaw32 bytes at
no_raw bytes at lt (a ∷ b ∷ c ∷ d ∷ []) rest n here s = omega (arith, ap length here, length-drop at bytes)
no_raw bytes at lt _ rest n here s = s

pub raw_64_stands : (bytes : List ℕ) (at mid end low high n : ℕ) → n ≡ low + 4294967296 * high → Stands SpellsRaw32 bytes at mid low
    → Stands SpellsRaw32 bytes mid end high → Stands SpellsRaw64 bytes at end n
raw_64_stands bytes at mid end low high n is p q = record {
  text = p.text ++ q.text;
  spelled = (low, high, record { front = p.text; back = q.text; parts = refl; first = p.spelled; second = q.spelled }, is);
  here = p.here ∙ ap (λ (t : List ℕ). p.text ++ t) q.here ∙ sym (append_assoc p.text q.text (drop end bytes));
  within = q.within;
}

-- what was refused behind the opcode
pub stops_behind : (bytes : List ℕ) (at : ℕ) (s : Stop) → at < length bytes → Follows (get_or bytes at 0) (Some kind.Labels)
    → ReadsOr (Both (Counted SpellsU32) SpellsU32) bytes (at + 1) (Err s) → ReadsOr SpellsPlain bytes at (Err s)
stops_behind bytes at stop.No lt is h = not_read (Both (Counted SpellsU32) SpellsU32) labels_tag kind.Labels bytes at labels_kind lt is h
stops_behind bytes at stop.Memory lt is h = tt

pub stop_first : {A B : Type 0} (P : List ℕ → A → Type 0) (Q : List ℕ → B → Type 0) (bytes : List ℕ) (start : ℕ) (s : Stop)
    → ReadsOr P bytes start (Err s) → ReadsOr (Both P Q) bytes start (Err s)
stop_first P Q bytes start stop.No h = none_both_first P Q bytes start h
stop_first P Q bytes start stop.Memory h = tt

-- ---- places after what stands

pub skips_both : {A B : Type 0} (P : List ℕ → A → Type 0) (Q : List ℕ → B → Type 0) (bytes : List ℕ) (start mid : ℕ) (v : A) (end : Option ℕ)
    → IsOnce P → Stands P bytes start mid v → Skips Q bytes mid end → Skips (Both P Q) bytes start end
skips_both P Q bytes start mid v (Some end) once p q = ((v, q.0), both_stands P Q bytes start mid end v q.0 p q.1)
skips_both P Q bytes start mid v None once p q = none_both_second P Q bytes start mid v once p q

pub skips_branches : (bytes : List ℕ) (at : ℕ) (end : Option ℕ) → at < length bytes → Follows (get_or bytes at 0) (Some kind.Labels) → 0x0E ≡ get_or bytes at 0
    → Skips (Both (Counted SpellsU32) SpellsU32) bytes (at + 1) end → Skips SpellsPlain bytes at end
skips_branches bytes at (Some end) lt is op q =
    (BrTable q.0.0 q.0.1, made (Both (Counted SpellsU32) SpellsU32) labels_tag kind.Labels bytes at end (BrTable q.0.0 q.0.1) q.0 labels_kind lt (op, refl) q.1)
skips_branches bytes at None lt is op q = not_read (Both (Counted SpellsU32) SpellsU32) labels_tag kind.Labels bytes at labels_kind lt is q
