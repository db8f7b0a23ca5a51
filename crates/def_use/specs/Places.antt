-- The points of a graph by their places in its list, and how a search goes backwards over them.
use Rattle.std.specs.Prelude.{◌≡◌, ℕ, ◌<◌, ◌≤◌, ◌⊎◌, List, [], length, slice_index_or}
use Rattle.std.specs.List.{All, AllPairs, Contains}
use Rattle.wasm_types.specs.declared.place.Loc.{Loc}
use Rattle.wasm_types.specs.declared.place.Node.{Node}
use Rattle.wasm_types.specs.declared.place.Node.TheVariants.{Exit}
use Rattle.wasm_types.specs.Nodes.{At}
use Rattle.wasm_types.specs.Reaching.{Writes}
use Rattle.block_cfg.specs.Graph.{Graph, number, row_of}
use Rattle.flow_domain.specs.LocTables.{Rows, WritesIn}
use Rattle.single_entry.specs.declared.skips.Skips.{Skips}
use Rattle.single_entry.specs.Climbs.{Tops}

abbrev pub point_at : List Node → ℕ → Node
point_at points k = slice_index_or points k Exit

-- the place of a point, by the list of places by number
abbrev pub place_of : List ℕ → Node → ℕ
place_of places point = slice_index_or places (number point) 0

-- the list has the place of each point
pub record IsPlaces (g : Graph) (places : List ℕ) : Type 0 where
  pub length_is : length places ≡ length g.before
  pub fits : All (λ (point : Node). number point < length places) g.points
  pub placed : (k : ℕ) → k < length g.points → place_of places (point_at g.points k) ≡ k

-- a point has a place
abbrev pub IsPlaced : Graph → List ℕ → Node → Type 0
IsPlaced g places a = (number a < length places) × (place_of places a < length g.points)

-- all that leads to a point has one
abbrev pub AllPlaced : Graph → List ℕ → Type 0
AllPlaced g places = (n : ℕ) → All (IsPlaced g places) (slice_index_or g.before n [])

-- the tops of points that have places have places too
abbrev pub TopsPlaced : Graph → Skips → (places writers : List ℕ) → Type 0
TopsPlaced g s places writers = (a b : Node) → Tops s writers a b → IsPlaced g places a → IsPlaced g places b

-- ---- steps

-- what leads to the point at place k, each as far up as it climbs through regions where no writer stands
abbrev pub IsEarlier : Graph → Skips → (places writers : List ℕ) → ℕ → ℕ → Type 0
IsEarlier g s places writers k y =
    (a : Node) × (Contains (row_of g.before (point_at g.points k)) a × ((b : Node) × (Tops s writers a b × (y ≡ place_of places b))))

-- the entry, which stands behind the last place, where the first point is at place k
abbrev pub IsEntry : Graph → ℕ → ℕ → Type 0
IsEntry g k y = (k ≡ 0) × (y ≡ length g.points)

-- where a search goes on before the point at place k
abbrev pub Steps : Graph → Skips → (places writers : List ℕ) → ℕ → ℕ → Type 0
Steps g s places writers k y = IsEntry g k y ⊎ IsEarlier g s places writers k y

-- it goes on before a point that doesn't write the location
abbrev pub GoesBack : Graph → Rows → Skips → (places writers : List ℕ) → Loc → ℕ → ℕ → Type 0
GoesBack g T s places writers x k y = (k < length g.points) × ((Writes (WritesIn T) x (point_at g.points k) → ⊥) × Steps g s places writers k y)

-- position p writes the location, and has this place
abbrev pub IsWriter : Graph → Rows → Loc → ℕ → ℕ → Type 0
IsWriter g T x k p = (k < length g.points) × ((point_at g.points k ≡ At p) × WritesIn T p x)

-- the writers of a location, in order
pub record AreWriters (T : Rows) (x : Loc) (writers : List ℕ) : Type 0 where
  pub rising : AllPairs (λ a b. a ≤ b) writers
  pub exact : (v : ℕ) → (Contains writers v → WritesIn T v x) × (WritesIn T v x → Contains writers v)
