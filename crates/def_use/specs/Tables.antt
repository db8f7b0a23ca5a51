-- What searches over the points of a body use.
use Rattle.wasm_types.specs.declared.place.Loc.{Loc}
use Rattle.block_cfg.specs.Graph.{Graph}
use Rattle.flow_domain.specs.LocTables.{Rows}
use Rattle.single_entry.specs.Climbs.{AreEntries}
use Rattle.def_use.specs.declared.tables.Tables.{Tables}
use Rattle.def_use.specs.Places.{IsPlaces, AreWriters}
use Rattle.def_use.specs.Writers.{writers_of}

pub record AreTables (g : Graph) (T : Rows) (t : Tables) : Type 0 where
  pub places : IsPlaces g t.places.items
  pub skips : AreEntries g t.skips
  pub writers : (x : Loc) → AreWriters T x (writers_of t.writers.rows.items x)
