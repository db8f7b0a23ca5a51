use Rattle.std.proofs.Common.{refl}
use Rattle.flow_domain.proofs.LocLemmas.{row_past, row_here}
use Rattle.flow_domain.proofs.loc_table.LocTable.uses.Goals as goal

pub returns-in_default : goal.returns-in_default
returns-in_default c =
    row_past c.args.self.now c.self.inside.rows.items c.deref.result.now c.args.at c.self.view_is c.deref.ensures.value c.in_default.ensures.lookup.3

pub returns-in-Some-row : goal.returns-in-Some-row
returns-in-Some-row c =
    row_here c.args.self.now c.self.inside.rows.items c.deref.result.now c.args.at c.self.view_is c.deref.ensures.value c.in-Some.row.now
    c.as_slice.result.now
    c.in-Some.ensures.lookup.3.0 c.in-Some.ensures.lookup.1 (rw c.in-Some-row.is c.as_slice.ensures.value)

pub returns-in-None : goal.returns-in-None
returns-in-None c =
    row_here c.args.self.now c.self.inside.rows.items c.deref.result.now c.args.at c.self.view_is c.deref.ensures.value c.in-Some.row.now _
    c.in-Some.ensures.lookup.3.0 c.in-Some.ensures.lookup.1 (rw c.in-None.is refl)
