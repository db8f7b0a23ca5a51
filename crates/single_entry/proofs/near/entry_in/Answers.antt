use Rattle.std.proofs.Common.{sym, refl, arith}
use Rattle.wasm_types.specs.Nodes.{At}
use Rattle.single_entry.proofs.Entering.{entry_made, outside}
use Rattle.single_entry.proofs.near.entry_in.Goals as goal

pub returns : goal.returns
returns c =
    let g = c.args.cfg.now in
    let first = c.args.first in
    let last = c.args.last in
    entry_made g c.requires.graph first last c.args.through c.requires.through
    (outside g c.points.result.now (At 0) first last c.points.ensures
    (λ inside. let there = c.is_in-2.ensures.1 inside in let not = c.if-is_in.false in absurd cc))
    c.args.point (record { through = c.point_number-2.result; low = c.low_of.result; high = _ }) (sym c.point_number-2.ensures)
    (omega (arith, c.point_number.ensures, c.if-point_number-first.false)) (c.is_in.ensures.0 c.if-not-is_in.false)
    c.low_of.ensures.region c.low_of.ensures.through refl
