-- Far entries: those that go on through the entries of several points.
use Rattle.std.specs.Prelude.{◌≡◌, ◌≤◌, ◌++◌, ◌∷◌, ℕ, List, [], Option, length}
use Rattle.wasm_types.specs.declared.place.Node.{Node}
use Rattle.block_cfg.specs.Graph.{Graph, number}
use Rattle.single_entry.specs.declared.entry.Entry.{Entry}
use Rattle.single_entry.specs.declared.entry.Hop.{Hop}
use Rattle.single_entry.specs.declared.skips.Skips.{Skips}
use Rattle.single_entry.specs.Climbs.{Climbs, IsQuiet, AreHops, AreEntries, near_in}

-- it covers what both cover, and leads through the second
pub record IsJoined (one two both : Entry) : Type 0 where
  pub through : both.through ≡ two.through
  pub low_one : both.low ≤ one.low
  pub low_two : both.low ≤ two.low
  pub high_one : one.high ≤ both.high
  pub high_two : two.high ≤ both.high

-- it covers what the near entry covers, and goes on from where that leads through others
pub record IsFar (s : Skips) (near far : Entry) : Type 0 where
  pub through : far.through ≤ near.through
  pub low : far.low ≤ near.low
  pub high : near.high ≤ far.high
  pub leads : (writers : List ℕ) (m a : Node) → number m ≡ near.through → number a ≡ far.through → IsQuiet writers far → Climbs s writers m a

-- the table has one point more, with this near entry
abbrev pub IsPushed : List (Option Hop) → List (Option Hop) → Option Entry → Type 0
IsPushed old new near = (hop : Option Hop) × ((near_in hop ≡ near) × (new ≡ old ++ hop ∷ []))

-- the table so far
pub record IsTable (g : Graph) (count : ℕ) (table : List (Option Hop)) : Type 0 where
  pub size : length table ≡ count
  pub hops : AreHops table
  pub entries : AreEntries g table
