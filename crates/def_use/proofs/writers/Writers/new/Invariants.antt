use Rattle.wasm_types.specs.declared.place.Loc.{Loc}
use Rattle.def_use.specs.Writers.{loc_number, row_at}
use Rattle.def_use.proofs.Indexing.{UpTo}
use Rattle.def_use.proofs.writers.Writers.new.Given as goal

abbrev pub invariant-loop-at : goal.invariant-loop-at
invariant-loop-at l = (x : Loc) → UpTo l.locs x l.at (row_at l.rows.items (loc_number x))
