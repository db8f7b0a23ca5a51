-- The numbers of locations, by which they are marked.
use Rattle.std.specs.Prelude.{◌≡◌, ℕ, ◌+◌, ◌<◌, List, Bool, true, false, slice_index_or}
use Rattle.wasm_types.specs.declared.place.Loc.{Loc}
use Rattle.wasm_types.specs.declared.place.Loc.TheVariants as loc

-- the memory, its size, the host, the globals, and then the locals
abbrev pub loc_number : ℕ → Loc → ℕ
loc_number globals loc.Mem = 0
loc_number globals loc.Size = 1
loc_number globals loc.Host = 2
loc_number globals (loc.Global k) = k + 3
loc_number globals (loc.Local k) = k + globals + 3

-- which of its kind a location is, and how many there are
abbrev pub index_of : Loc → ℕ
index_of (loc.Global k) = k
index_of (loc.Local k) = k
index_of _ = 0

abbrev pub limit_of : ℕ → ℕ → Loc → ℕ
limit_of globals locals (loc.Global k) = globals
limit_of globals locals (loc.Local k) = locals
limit_of globals locals _ = 1

-- the module has the global, or the body the local
abbrev pub IsLoc : ℕ → ℕ → Loc → Type 0
IsLoc globals locals x = index_of x < limit_of globals locals x

-- a mark stands at the number of the location
abbrev pub IsMarkedAt : ℕ → List Bool → Loc → Type 0
IsMarkedAt globals marks x = slice_index_or marks (loc_number globals x) false ≡ true
