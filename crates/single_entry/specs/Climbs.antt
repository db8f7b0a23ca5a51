-- From a point up through entries where nothing is written (docs/ANALYSES.md, "Entries").
use Rattle.std.specs.Prelude.{◌≡◌, ℕ, ◌+◌, ◌<◌, List, Option, Some, None, slice_get}
use Rattle.wasm_types.specs.declared.place.Node.{Node}
use Rattle.block_cfg.specs.Graph.{Graph, number}
use Rattle.single_entry.specs.declared.entry.Entry.{Entry}
use Rattle.single_entry.specs.declared.entry.Hop.{Hop}
use Rattle.single_entry.specs.declared.skips.Skips.{Skips}
use Rattle.single_entry.specs.Last.{HasNoneOf}
use Rattle.single_entry.specs.Entries.{IsEntry}

abbrev pub hop_in : Option (Option Hop) → Option Hop
hop_in None = None
hop_in (Some hop) = hop

abbrev pub near_in : Option Hop → Option Entry
near_in None = None
near_in (Some hop) = Some hop.near

-- the entry of a point, by its number
abbrev pub entry_of : Skips → Node → Option Entry
entry_of s n = near_in (hop_in (slice_get s (number n)))

-- no position that an entry covers is among the writers
abbrev pub IsQuiet : List ℕ → Entry → Type 0
IsQuiet writers e = HasNoneOf writers e.low (e.high + 1)

-- from a point up through entries where nothing is written
pub data Climbs (s : Skips) (writers : List ℕ) : Node → Node → Type 0 where
  stays : {n : Node} → Climbs s writers n n
  climbs : {n a : Node} → (e : Entry) (from : Node) → entry_of s n ≡ Some e → number from ≡ e.through → IsQuiet writers e
      → Climbs s writers from a → Climbs s writers n a

-- as far as that goes
pub record Tops (s : Skips) (writers : List ℕ) (n a : Node) : Type 0 where
  pub climbs : Climbs s writers n a
  pub top : (e : Entry) → entry_of s a ≡ Some e → IsQuiet writers e → ⊥

abbrev pub AreEntries : Graph → Skips → Type 0
AreEntries g s = (n : Node) (e : Entry) → entry_of s n ≡ Some e → IsEntry g n e

-- ---- far entries

-- both entries of a point lead to points of smaller numbers, and the far one leads on through near ones
pub record IsHop (s : Skips) (k : ℕ) (hop : Hop) : Type 0 where
  pub near : hop.near.through < k
  pub far : hop.far.through < k
  pub leads : (writers : List ℕ) (n a : Node) → number n ≡ k → number a ≡ hop.far.through → IsQuiet writers hop.far → Climbs s writers n a

abbrev pub AreHops : Skips → Type 0
AreHops s = (k : ℕ) (hop : Hop) → hop_in (slice_get s k) ≡ Some hop → IsHop s k hop

-- a step up, through one entry or several
pub record IsStep (s : Skips) (writers : List ℕ) (n a : Node) : Type 0 where
  pub climbs : Climbs s writers n a
  pub smaller : number a < number n

-- no step is left
abbrev pub IsTop : Skips → List ℕ → Node → Type 0
IsTop s writers n = (e : Entry) → entry_of s n ≡ Some e → IsQuiet writers e → ⊥
