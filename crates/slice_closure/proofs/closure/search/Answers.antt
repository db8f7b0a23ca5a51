use Rattle.std.proofs.Common.{arith}
use Rattle.slice_closure.proofs.Searching.{first_below, search_exact, values_told, rows_enough}
use Rattle.sparse_reach.specs.Flags.{flags}
use Rattle.slice_closure.proofs.closure.search.Goals as goal

pub reach_few-requires : goal.reach_few-requires
reach_few-requires c =
    let g = c.args.closing.now in
    first_below g.numbering.nodes g.numbering.locs g.tables c.args.at g.fits c.requires c.in_ok-list.list.items c.deref.result.now c.in_ok-list.ensures
    c.deref.ensures.value

pub kept_of-requires-clause-marked : goal.kept_of-requires-clause-marked
kept_of-requires-clause-marked c =
    omega (arith, c.in_ok-met.ensures.enough, rows_enough c.args.closing.now.numbering.locs c.args.closing.now.numbering.nodes)

pub returns-clause-made : goal.returns-clause-made
returns-clause-made c =
    let g = c.args.closing.now in
    values_told g.numbering.nodes g.numbering.locs g.tables c.args.at g.fits c.requires c.in_ok-list.list.items c.deref.result.now
    c.in_ok-list.ensures c.deref.ensures.value (flags c.in_ok-met.met.words) c.in_ok-met.ensures.exact

pub returns-clause-kept : goal.returns-clause-kept
returns-clause-kept c =
    let g = c.args.closing.now in
    λ n.
    let kept = c.in_ok-kept.ensures n in
    let met = search_exact g.numbering.nodes g.numbering.locs g.tables c.args.at g.fits c.requires c.in_ok-list.list.items c.deref.result.now
    c.in_ok-list.ensures c.deref.ensures.value (flags c.in_ok-met.met.words) c.in_ok-met.ensures.exact n in
    (λ h. met.0 (kept.0 h), λ r. kept.1 (met.1 r))
