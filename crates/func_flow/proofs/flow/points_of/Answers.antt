use Rattle.std.proofs.Common.{◌<◌, List, Bool, set, true, ap, sym, subst}
use Rattle.std.specs.List.{All}
use Rattle.std.proofs.Math.ListN.{length-set}
use Rattle.wasm_types.specs.declared.place.Node.{Node}
use Rattle.wasm_types.specs.declared.place.Node.TheVariants as node
use Rattle.block_cfg.specs.Graph.{number}
use Rattle.func_flow.proofs.Marking.{mark_more}
use Rattle.func_flow.proofs.flow.points_of.Goals as goal

pub loop-point-preserved : goal.loop-point-preserved
loop-point-preserved c =
    let d : Node = node.At (record { 0 = 0 }) in
    let points : List Node = c.points-point-items.result.now in
    let marks : List Bool = c.loop-point.marks.items in
    let i = c.loop-point.point-index in
    let fits : All (λ (n : Node). number n < c.args.nodes) points =
    subst (λ (ps : List Node). All (λ (n : Node). number n < c.args.nodes) ps) (sym c.points-point-items.ensures) c.requires in
    record {
      long = simp length-set c.loop-point.invariant.long;
      marked = mark_more points i d c.args.nodes marks (set marks c.point_number.result true) c.loop-point-test.true c.loop-point.invariant.long
          (fits i d c.loop-point-test.true) (ap (λ k. set marks k true) c.point_number.ensures) c.loop-point.invariant.marked;
    }
