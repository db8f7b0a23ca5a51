-- What the readers of vectors answer, where an entry may nest blocks too deep.
use Rattle.std.specs.Prelude.{◌≡◌, ℕ, ◌<◌, ◌≤◌, slice_range, ◌^◌, IsUtf8, List, [], ◌∷◌, ◌++◌, All, slice_get, Option, Some, None, Result, Ok, Err}
use Rattle.wasm_types.specs.declared.module.LocalRun.{LocalRun}
use Rattle.wasm_types.specs.Standing.{Stands, NoneStands}
use Rattle.wasm_types.specs.Sections.{SpellsName, SpellsRun, local_count}
use Rattle.wasm_types.specs.Parts.{Counted, Sized}
use Rattle.code_decode.specs.declared.outcome.Stop.{Stop}
use Rattle.code_decode.specs.declared.outcome.Stop.TheVariants as stop
use Rattle.wasm_decode.specs.declared.list.Entries.{Entries}

-- which texts spell which values
abbrev pub Rule : Type 0 → Type 1
Rule A = List ℕ → A → Type 0

-- the entry itself, or none for one that nests too deep
abbrev pub IsEntry : {A : Type 0} → (A → Type 0) → Option A → A → Type 0
IsEntry Shallow (Some x) v = (x ≡ v) × Shallow v
IsEntry Shallow None v = Shallow v → ⊥

abbrev pub ReadsEntry : {A : Type 0} → Rule A → (A → Type 0) → List ℕ → ℕ → Result (Option A × ℕ) Stop → Type 0
ReadsEntry {A} Spelled Shallow bytes start (Ok found) = (v : A) × Stands Spelled bytes start found.1 v × IsEntry Shallow found.0 v
ReadsEntry Spelled Shallow bytes start (Err stop.No) = NoneStands Spelled bytes start
ReadsEntry Spelled Shallow bytes start (Err stop.Memory) = Unit {0}

-- a byte, as it stands
abbrev pub IsByte : List ℕ → ℕ → Type 0
IsByte text byte = text ≡ byte ∷ []

-- no code in it
abbrev pub Any : {A : Type 0} → A → Type 0
Any v = Unit {0}

-- A value that is made of others has their texts, and nests too deep where they do.
pub record Makes {A B : Type 0} (P : Rule A) (S : A → Type 0) (Q : Rule B) (T : B → Type 0) (MadeOf : A → B → Type 0) : Type 0 where
  pub on : (text : List ℕ) (v : A) (w : B) → MadeOf v w → P text v → Q text w
  pub back : (text : List ℕ) (w : B) → Q text w → (v : A) × MadeOf v w × P text v
  pub shallow : (v : A) (w : B) → MadeOf v w → S v → T w
  pub deep : (v : A) → (S v → ⊥) → (w : B) × MadeOf v w × (T w → ⊥)

-- both, if both are there
abbrev pub both_of : {A B : Type 0} → Option A → Option B → Option (A × B)
both_of (Some v) (Some w) = Some (v, w)
both_of (Some v) None = None
both_of None second = None

-- the entry with the number is the first that doesn't have the property
pub record FirstNot {A : Type 0} (P : A → Type 0) (xs : List A) (at : ℕ) : Type 0 where
  pub entry : A
  pub there : slice_get xs at ≡ Some entry
  pub not_so : P entry → ⊥
  pub before : (j : ℕ) (x : A) → j < at → slice_get xs j ≡ Some x → P x

-- all entries, or how many there are before the first that nests too deep
abbrev pub AreEntries : {A : Type 0} → (A → Type 0) → List A → Option ℕ → List A → Type 0
AreEntries Shallow items None xs = (items ≡ xs) × All Shallow xs
AreEntries Shallow items (Some at) xs = FirstNot Shallow xs at

-- what is kept after one more entry, by whether one nested too deep before, and whether this one does
abbrev pub AddsEntry : {A : Type 0} → Option ℕ → Option A → List A → ℕ → Entries A → Type 0
AddsEntry (Some at) entry items number new = (new.items ≡ items) × (new.deep ≡ Some at)
AddsEntry None (Some x) items number new = (new.items ≡ items ++ x ∷ []) × (new.deep ≡ None)
AddsEntry None None items number new = (new.items ≡ items) × (new.deep ≡ Some number)

abbrev pub ReadsEntries : {A : Type 0} → Rule A → (A → Type 0) → List ℕ → ℕ → Result (Entries A × ℕ) Stop → Type 0
ReadsEntries {A} Spelled Shallow bytes start (Ok found) = (xs : List A) × Stands (Counted Spelled) bytes start found.1 xs × AreEntries Shallow found.0.items
    found.0.deep xs
ReadsEntries Spelled Shallow bytes start (Err stop.No) = NoneStands (Counted Spelled) bytes start
ReadsEntries Spelled Shallow bytes start (Err stop.Memory) = Unit {0}

-- where the bytes of a text of a stated size stand
abbrev pub ReadsRange : List ℕ → ℕ → Option (ℕ × ℕ) → Type 0
ReadsRange bytes start (Some found) = Stands Sized bytes start found.1 (slice_range bytes found.0 found.1) × (found.0 ≤ found.1)
ReadsRange bytes start None = NoneStands Sized bytes start

-- where the bytes of a name stand
abbrev pub ReadsName : List ℕ → ℕ → Option (ℕ × ℕ) → Type 0
ReadsName bytes start (Some found) = Stands Sized bytes start found.1 (slice_range bytes found.0 found.1) × (found.0 ≤ found.1) × IsUtf8
    (slice_range bytes found.0 found.1)
ReadsName bytes start None = NoneStands SpellsName bytes start

-- the locals of a function: runs whose counts add up to less than 2 to the 32 (WebAssembly Core Specification 1.0, section 5.5.13)
abbrev pub SpellsLocals : List ℕ → List LocalRun → Type 0
SpellsLocals text runs = Counted SpellsRun text runs × (local_count runs < 2 ^ 32)
