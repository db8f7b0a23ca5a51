use Rattle.slice_whole.proofs.KeptRows.{kept_told}
use Rattle.slice_whole.proofs.keeping.kept_named.Goals as goal

pub returns : goal.returns
returns c =
    let told = c.in_ok-table.ensures in
    kept_told c.args.m.now c.requires.sealed c.in_ok-table.table told.table told.cover c.args.func c.requires.own told.exact c.args.at.0 c.in_ok-kept.kept
    c.in_ok-kept.ensures.kept c.in_ok-kept.ensures.made
