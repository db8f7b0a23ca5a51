-- Runs: a location that is needed at a point comes from the last position of its run that writes it, or it is needed where the run begins, and from there it
-- may be taken up past whole regions.
use Rattle.std.specs.Prelude.{◌≡◌, ℕ, zero, suc, ◌<◌, ◌≤◌, ◌⊎◌, List, [], ◌∷◌, Bool, true, false, None, slice_get, slice_index_or}
use Rattle.std.specs.List.{AllPairs, Contains}
use Rattle.wasm_types.specs.declared.place.Loc.{Loc}
use Rattle.wasm_types.specs.declared.place.Loc.TheVariants.{Local}
use Rattle.wasm_types.specs.declared.place.Node.{Node}
use Rattle.wasm_types.specs.declared.place.Node.TheVariants as node
use Rattle.wasm_types.specs.Nodes.{At}
use Rattle.wasm_types.specs.Reaching.{Writes}
use Rattle.wasm_types.specs.Takers.{is_among}
use Rattle.block_cfg.specs.Graph.{Graph, number, row_of}
use Rattle.flow_domain.specs.LocTables.{WritesIn}
use Rattle.single_entry.specs.Climbs.{Climbs, Tops, AreEntries}
use Rattle.single_entry.specs.Last.{IsLastOf, HasNoneOf}
use Rattle.def_use.specs.Places.{AreWriters}
use Rattle.def_use.specs.Writers.{writers_of}
use Rattle.func_flow.specs.declared.items.Item.{Item}
use Rattle.func_flow.specs.declared.items.Item.TheVariants.{Needed, Written}
use Rattle.func_flow.specs.declared.runs.Runs.{Runs}
use Rattle.func_flow.specs.declared.steps.Step.{Step}
use Rattle.func_flow.specs.declared.tables.Tables.{Tables}
use Rattle.func_flow.specs.Next.{FromEach, whom_at, WrittenAt, Next}
use Rattle.func_flow.specs.Steps.{whom_of}

-- ---- runs

-- just point b leads to a point
abbrev pub IsLone : Graph → Node → Node → Type 0
IsLone g n b = Contains g.points n × (row_of g.before n ≡ b ∷ [])

-- just position q leads to the position after it; where runs don't go past calls, it calls nothing
abbrev pub GoesOn : Tables → Bool → ℕ → Type 0
GoesOn t past_calls q = IsLone t.cfg.now (At (suc q)) (At q) × (past_calls ≡ false → whom_at t q ≡ None)

-- from each position from h on a run goes on to the next one, up to p
pub record IsRun (t : Tables) (past_calls : Bool) (h p : ℕ) : Type 0 where
  pub up : h ≤ p
  pub goes : (q : ℕ) → h ≤ q → q < p → GoesOn t past_calls q

abbrev pub start_of : List ℕ → ℕ → ℕ
start_of starts p = slice_index_or starts p p

abbrev pub AreStarts : Tables → Bool → List ℕ → Type 0
AreStarts t past_calls starts = (p : ℕ) → IsRun t past_calls (start_of starts p) p

-- for locals runs go past calls
abbrev pub is_inner : Loc → Bool
is_inner (Local k) = true
is_inner _ = false

abbrev pub starts_for : Runs → Loc → List ℕ
starts_for r (Local k) = r.inner.items
starts_for r _ = r.outer.items

abbrev pub writers_in : Runs → Loc → List ℕ
writers_in r x = writers_of r.writers.rows.items x

abbrev pub AreRising : Runs → Type 0
AreRising r = (x : Loc) → AllPairs (λ a b. a ≤ b) (writers_in r x)

-- none of the positions calls
abbrev pub IsCalm : List Step → Type 0
IsCalm steps = (p : ℕ) → whom_of (slice_get steps p) ≡ None

-- runs begin no later than where they are, and what is further up has no larger number
pub record IsInOrder (r : Runs) : Type 0 where
  pub upward : (x : Loc) (p : ℕ) → start_of (starts_for r x) p ≤ p
  pub rising : AreRising r
  pub falls : (writers : List ℕ) (n a : Node) → Climbs r.skips writers n a → number a ≤ number n

pub record AreRuns (t : Tables) (r : Runs) : Type 0 where
  pub inner : AreStarts t true r.inner.items
  pub outer : AreStarts t false r.outer.items
  pub writers : (x : Loc) → AreWriters t.locs.now x (writers_in r x)
  pub skips : AreEntries t.cfg.now r.skips
  pub calm : r.calm ≡ true → IsCalm t.steps.now

-- the table of locations tells of what calls nothing, and calls write no locals
pub record AreQuiet (t : Tables) : Type 0 where
  pub plain : (p : ℕ) (x : Loc) → WritesIn t.locs.now p x → whom_at t p ≡ None
  pub locals : (p k : ℕ) → WrittenAt t p (Local k) → WritesIn t.locs.now p (Local k)

-- ---- steps

-- the join that alone leads to a point, and else the point itself
abbrev pub join_only : Bool → List Node → Node → Node
join_only true (node.Join b ∷ []) n = node.Join b
join_only point row n = n

-- where a run comes from that begins at position h
abbrev pub entry_at : Graph → ℕ → Node
entry_at g zero = At zero
entry_at g (suc h) = join_only (is_among (At (suc h)) g.points) (row_of g.before (At (suc h))) (At (suc h))

abbrev pub SettledFrom : Tables → Runs → Loc → ℕ → ℕ → Item → Type 0
SettledFrom t r x h p j =
    ((w : ℕ) × (IsLastOf (writers_in r x) h p w × (j ≡ Written x (At w)))) ⊎ (HasNoneOf (writers_in r x) h p × (j ≡ Needed x (entry_at t.cfg.now h)))

-- where a location comes from that is needed at a point
abbrev pub Settled : Tables → Runs → Loc → Node → Item → Type 0
Settled t r x (node.At p) j = SettledFrom t r x (start_of (starts_for r x) p.0) p.0 j
Settled t r x n j = j ≡ Needed x n

-- on to a point before one at which a location is needed
abbrev pub Lands : Tables → Runs → Loc → Node → Item → Type 0
Lands t r x b j = (Writes (WrittenAt t) x b × (j ≡ Written x b)) ⊎ ((Writes (WrittenAt t) x b → ⊥) × Settled t r x b j)

-- ---- up past regions

-- a location may be taken up past regions that no call writes: a local, and all where the body calls nothing
abbrev pub may_rise : Bool → Loc → Bool
may_rise calm (Local k) = true
may_rise calm _ = calm

abbrev pub IsTopBy : Runs → Loc → Node → Bool → Node → Type 0
IsTopBy r x n true a = Tops r.skips (writers_in r x) n a
IsTopBy r x n false a = a ≡ n

-- the point furthest up that a location comes from which is needed at a point
abbrev pub IsTopFor : Runs → Loc → Node → Node → Type 0
IsTopFor r x n a = IsTopBy r x n (may_rise r.calm x) a

abbrev pub Raises : Runs → Item → Item → Type 0
Raises r (Needed x n) j = (a : Node) × (IsTopFor r x n a × (j ≡ Needed x a))
Raises r i j = j ≡ i

-- on to a point before one at which a location is needed, and up from where that comes from
abbrev pub Arrives : Tables → Runs → Loc → Node → Item → Type 0
Arrives t r x b j = (k : Item) × (Lands t r x b k × Raises r k j)

-- from an item
abbrev pub Short : Tables → Runs → Item → Item → Type 0
Short t r (Needed x a) j = Contains t.cfg.now.points a × FromEach (row_of t.cfg.now.before a) (Arrives t r x) j
Short t r i j = Next t i j
