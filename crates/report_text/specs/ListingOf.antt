-- What the names of a body tell of it.
use Rattle.std.specs.Prelude.{if◌then◌else◌, map, Some, None}
use Rattle.wasm_types.specs.declared.place.Node.{Node}
use Rattle.stack_names.specs.declared.place.Place.{Place}
use Rattle.stack_names.specs.Named.{Named, is_live_in, of_node, operands_in}
use Rattle.report_text.specs.Listing.{Told}

abbrev pub maker_of : Place → Node
maker_of pl = pl.maker

abbrev pub told_by : Named → Told
told_by n = record { operands = λ p. if is_live_in n.positions p then Some (map maker_of (operands_in n.positions p)) else None; takers = λ k. of_node n.takers k }
