-- What is proved of kept sets: each is the least of the closed sets.
use Rattle.std.specs.Prelude.{◌≡◌, List, Bool, true}
use Rattle.wasm_types.specs.declared.module.Module.{Module}
use Rattle.wasm_types.specs.declared.place.Loc.{Loc}
use Rattle.wasm_types.specs.Actions.{Callee}
use Rattle.wasm_types.specs.Sites.{Sites, EndAt}
use Rattle.flow_domain.specs.Bounds.{Bounds, Cover, bounds}
use Rattle.flow_domain.specs.Kept.{KeptItem, IsClosed}
use Rattle.flow_domain.specs.Rows.{CallRows, Item, Output}
use Rattle.flow_domain.specs.Sliced.{rows_in}

-- by these rows the kept set lies in every closed set
abbrev pub IsLeastBy : Bounds → CallRows → Type 0
IsLeastBy B R = (S : Sites) (ends : List EndAt) (K : Item → Bool) → IsClosed B R S ends K → (x : Item) → KeptItem B R S ends x → K x ≡ true

-- and is one itself
abbrev pub IsClosedBy : Bounds → CallRows → Type 0
IsClosedBy B R =
    (S : Sites) (ends : List EndAt) (K : Item → Bool) → ((x : Item) → (K x ≡ true → KeptItem B R S ends x) × (KeptItem B R S ends x → K x ≡ true))
    → IsClosed B R S ends K

-- the rows that a test tells, since a law ranges over no properties
abbrev pub rows_by : (Callee → Output → Loc → Bool) → CallRows
rows_by row g out x = row g out x ≡ true

-- the kept set, whatever the rows are
abbrev pub KeptIsLeast : Type 0
KeptIsLeast = (B : Bounds) (row : Callee → Output → Loc → Bool) → IsLeastBy B (rows_by row)

abbrev pub KeptIsClosed : Type 0
KeptIsClosed = (B : Bounds) (row : Callee → Output → Loc → Bool) → IsClosedBy B (rows_by row)

-- the kept sets of a module, which slices are made by
abbrev pub SlicedKeptIsLeast : Type 0
SlicedKeptIsLeast = (m : Module) (W : Cover) → IsLeastBy (bounds m W) (rows_in m W)

abbrev pub SlicedKeptIsClosed : Type 0
SlicedKeptIsClosed = (m : Module) (W : Cover) → IsClosedBy (bounds m W) (rows_in m W)
