-- The rows of an imported function by what it sees: marked globals, and the memory or not.
use Rattle.std.specs.Prelude.{◌≡◌, ℕ, ◌<◌, List, Bool, true, false, slice_index_or}
use Rattle.wasm_types.specs.declared.place.Loc.{Loc}
use Rattle.wasm_types.specs.declared.place.Loc.TheVariants.{Local, Global, Mem, Size, Host}
use Rattle.worklist.specs.Search.{IsMarked}
use Rattle.flow_domain.specs.Rows.{Output, Ret, Final, Done}

-- it is this location, if anything
abbrev pub IsIf : Bool → Loc → Loc → Type 0
IsIf does y x = (does ≡ true) × (x ≡ y)

abbrev pub IsParam : ℕ → Loc → Type 0
IsParam params (Local k) = k < params
IsParam params _ = ⊥

abbrev pub IsSeenGlobal : List Bool → Loc → Type 0
IsSeenGlobal seen (Global k) = IsMarked seen k
IsSeenGlobal seen _ = ⊥

-- the memory and its size, where it sees them, and the host
abbrev pub IsSeenOther : Bool → Loc → Type 0
IsSeenOther memory Mem = memory ≡ true
IsSeenOther memory Size = memory ≡ true
IsSeenOther memory Host = Unit {0}
IsSeenOther memory _ = ⊥

-- what it uses: its parameters and what it sees
abbrev pub Uses : List Bool → Bool → ℕ → Loc → Type 0
Uses seen memory params (Local k) = k < params
Uses seen memory params (Global k) = IsMarked seen k
Uses seen memory params Mem = memory ≡ true
Uses seen memory params Size = memory ≡ true
Uses seen memory params Host = Unit {0}

-- of a location that it changes what it uses, of another the location itself
abbrev pub RowBy : List Bool → Bool → ℕ → Bool → Loc → Loc → Type 0
RowBy seen memory params true y x = Uses seen memory params x
RowBy seen memory params false y x = x ≡ y

-- it changes the marked globals, the memory that it sees, and the host
abbrev pub changes : List Bool → Bool → Loc → Bool
changes seen memory (Local k) = false
changes seen memory (Global k) = slice_index_or seen k false
changes seen memory Mem = memory
changes seen memory Size = false
changes seen memory Host = true

abbrev pub ImportRow : List Bool → Bool → ℕ → Output → Loc → Type 0
ImportRow seen memory params Ret x = Uses seen memory params x
ImportRow seen memory params (Final y) x = RowBy seen memory params (changes seen memory y) y x
ImportRow seen memory params Done x = Uses seen memory params x

-- of one of the first so many globals
abbrev pub GlobalRow : List Bool → Bool → ℕ → ℕ → Output → Loc → Type 0
GlobalRow seen memory params count o x =
    (k : ℕ) × ((k < count) × ((o ≡ Final (Global k)) × RowBy seen memory params (slice_index_or seen k false) (Global k) x))
