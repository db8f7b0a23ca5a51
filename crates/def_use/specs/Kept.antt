-- What the answers that are kept hold.
use Rattle.std.specs.Prelude.{◌≡◌, ℕ, ◌+◌, ◌&&◌, ◌⊎◌, Bool, IsSome, List, Option, Some, Vec, length, nat_eq}
use Rattle.std.specs.Global.{Global}
use Rattle.wasm_types.specs.declared.place.Def.{Def}
use Rattle.wasm_types.specs.declared.place.Loc.{Loc}
use Rattle.wasm_types.specs.declared.place.Node.{Node}
use Rattle.block_cfg.specs.Graph.{Graph}
use Rattle.flow_domain.specs.LocTables.{Rows}
use Rattle.indexmap.specs.IndexMap.{get}
use Rattle.def_use.specs.declared.kept.Reach.{Reach}
use Rattle.def_use.specs.Answers.{IsAnswer}
use Rattle.def_use.specs.Places.{IsPlaces, point_at}
use Rattle.def_use.specs.Tables.{AreTables}
use Rattle.def_use.specs.Writers.{loc_number}

-- it is made for this graph
pub record IsMadeFor (g : Graph) (r : Reach) : Type 0 where
  pub places : IsPlaces g r.tables.places.items
  pub size : r.searcher ≡ length g.points + 1

abbrev pub same_question : (ℕ × ℕ) → (ℕ × ℕ) → Bool
same_question a b = nat_eq a.0 b.0 && nat_eq a.1 b.1

-- the answer that is kept for a place and a location, where one is
abbrev pub answer_at : Reach → ℕ → Loc → Option (Vec Def Global)
answer_at r k x = get same_question r.found (k, loc_number x)

abbrev pub IsKept : Reach → ℕ → Loc → Type 0
IsKept r k x = IsSome (answer_at r k x)

-- an answer is put in for one place and location, and the others are as they were
abbrev pub Puts : (old new : Reach) → ℕ → Loc → Vec Def Global → Type 0
Puts old new k0 x0 row = (k : ℕ) (x : Loc) → ((k ≡ k0) × (x ≡ x0) × (answer_at new k x ≡ Some row)) ⊎ (answer_at new k x ≡ answer_at old k x)

-- it is made for this table of locations, and all answers that are kept are right
pub record AreRight (g : Graph) (T : Rows) (r : Reach) : Type 0 where
  pub tables : AreTables g T r.tables
  pub answers : (k : ℕ) (x : Loc) (row : Vec Def Global) → answer_at r k x ≡ Some row → IsAnswer g T x (point_at g.points k) row.items

-- what was made and right is so still, and what was kept is kept
pub record Keeps (g : Graph) (T : Rows) (old new : Reach) : Type 0 where
  pub made : IsMadeFor g new
  pub right : AreRight g T new
  pub tables : new.tables ≡ old.tables
  pub kept : (k : ℕ) (x : Loc) → IsKept old k x → IsKept new k x

-- each answer for one point is one for another
abbrev pub Serves : Graph → Rows → Loc → (top point : Node) → Type 0
Serves g T x top point = (defs : List Def) → IsAnswer g T x top defs → IsAnswer g T x point defs
