-- What a table of locations says, and which is the table of a body (docs/ANALYSES.md, "Locations").
use Rattle.std.specs.Prelude.{◌≡◌, ◌↔◌, ℕ, List, [], Bool, true, Option, Some, slice_get}
use Rattle.std.specs.List.{Contains}
use Rattle.wasm_types.specs.declared.place.Loc.{Loc}
use Rattle.wasm_types.specs.Actions.{Callees}
use Rattle.wasm_types.specs.Reaching.{Table, HeadReads, HeadChecks, WritesAt}
use Rattle.wasm_types.specs.Sites.{Site, Sites, IsSite}
use Rattle.flow_domain.specs.declared.loc_table.LocUse.{LocUse}
use Rattle.flow_domain.specs.Sliced.{no_calls}

-- for each position what it uses, where it is live
abbrev pub Rows : Type 0
Rows = List (Option (List LocUse))

-- the position is live, and uses these
abbrev pub HasRow : Rows → ℕ → List LocUse → Type 0
HasRow T p uses = slice_get T p ≡ Some (Some uses)

-- what a position uses, nothing where it is dead
abbrev pub row_in : Option (Option (List LocUse)) → List LocUse
row_in (Some (Some uses)) = uses
row_in _ = []

abbrev pub IsRowAt : Rows → ℕ → List LocUse → Type 0
IsRowAt T p uses = uses ≡ row_in (slice_get T p)

-- one of the uses is of the location, in this way
pub record HasUse (way : LocUse → Bool) (uses : List LocUse) (x : Loc) : Type 0 where
  pub found : LocUse
  pub there : Contains uses found
  pub same : found.loc ≡ x
  pub so : way found ≡ true

-- what a live position uses in this way
abbrev pub Used : (LocUse → Bool) → Rows → Table
Used way T p x = (uses : List LocUse) × (HasRow T p uses × HasUse way uses x)

abbrev pub ReadsIn : Rows → Table
ReadsIn T = Used (λ u. u.reads) T

abbrev pub ChecksIn : Rows → Table
ChecksIn T = Used (λ u. u.checks) T

abbrev pub WritesIn : Rows → Table
WritesIn T = Used (λ u. u.writes) T

-- what the live positions read, and what they check where calls check nothing
abbrev pub ReadsAt : Callees → Sites → Table
ReadsAt cs S p x = (s : Site) × (IsSite S p s × HeadReads cs s.head x)

abbrev pub ChecksAt : Callees → Sites → Table
ChecksAt cs S p x = (s : Site) × (IsSite S p s × HeadChecks cs no_calls s.head x)

-- The table has the live positions of these sites, and tells what each of them does. A call does nothing.
pub record IsPlainTable (cs : Callees) (S : Sites) (T : Rows) : Type 0 where
  pub live : (p : ℕ) → ((uses : List LocUse) × HasRow T p uses) ↔ ((s : Site) × IsSite S p s)
  pub reads : (p : ℕ) (x : Loc) → ReadsIn T p x ↔ ReadsAt cs S p x
  pub checks : (p : ℕ) (x : Loc) → ChecksIn T p x ↔ ChecksAt cs S p x
  pub writes : (p : ℕ) (x : Loc) → WritesIn T p x ↔ WritesAt cs no_calls S p x
