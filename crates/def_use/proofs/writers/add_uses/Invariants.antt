use Rattle.std.proofs.Common.{take}
use Rattle.wasm_types.specs.declared.place.Loc.{Loc}
use Rattle.flow_domain.specs.LocTables.{HasUse}
use Rattle.def_use.specs.Writers.{loc_number, row_at, RowAdds}
use Rattle.def_use.proofs.writers.add_uses.Given as goal

abbrev pub invariant-loop-one : goal.invariant-loop-one
invariant-loop-one l =
    (x : Loc) → RowAdds l.at (HasUse (λ u. u.writes) (take l.one-index l.uses) x) (row_at l.initial.rows.items (loc_number x))
    (row_at l.rows.items (loc_number x))
