-- The definitions that reach a point, as an answer in order (docs/ANALYSES.md, "Reaching").
use Rattle.std.specs.Prelude.{◌↔◌, ℕ, ◌+◌, ◌<◌, List, [], ◌∷◌, ◌++◌, map, Bool, if◌then◌else◌}
use Rattle.std.specs.List.{AllPairs, Contains}
use Rattle.wasm_types.specs.declared.place.Loc.{Loc}
use Rattle.wasm_types.specs.declared.place.Def.{Def}
use Rattle.wasm_types.specs.declared.place.Def.TheVariants as def
use Rattle.wasm_types.specs.declared.place.Node.{Node}
use Rattle.wasm_types.specs.Reaching.{Reaches}
use Rattle.wasm_types.specs.Sites.{Sites}
use Rattle.block_cfg.specs.Graph.{Graph}
use Rattle.block_cfg.specs.Points.{IsGraphOf}
use Rattle.flow_domain.specs.LocTables.{Rows, WritesIn}

-- the entry stands first, then positions rise
abbrev pub rank : Def → ℕ
rank def.Entry = 0
rank (def.At p) = p.0 + 1

abbrev pub IsSorted : List Def → Type 0
IsSorted = AllPairs (λ a b. rank a < rank b)

-- These are all definitions of x that reach q, each once and in order, where positions write what the table says, and paths lead along the graph.
pub record IsAnswer (g : Graph) (T : Rows) (x : Loc) (q : Node) (defs : List Def) : Type 0 where
  pub sorted : IsSorted defs
  pub exact : (S : Sites) (start : Node) → IsGraphOf S start g → (d : Def) → Contains defs d ↔ Reaches (WritesIn T) S start x q d

-- the entry, where it is one, and then these positions
abbrev pub defs_of : Bool → List ℕ → List Def
defs_of entry positions = (if entry then def.Entry ∷ [] else []) ++ map (λ p. def.At (record { 0 = p })) positions
