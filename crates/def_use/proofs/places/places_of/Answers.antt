use Rattle.std.proofs.Common.{◌≡◌, ◌<◌, ◌∙◌, sym, length, get_or}
use Rattle.std.proofs.Math.ListN.{length-set}
use Rattle.wasm_types.specs.declared.place.Node.{Node}
use Rattle.wasm_types.specs.declared.place.Node.TheVariants as node
use Rattle.block_cfg.specs.Graph.{number}
use Rattle.def_use.specs.Places.{point_at}
use Rattle.def_use.proofs.Backwards.{point_same}
use Rattle.def_use.proofs.Placing.{placed_more}
use Rattle.def_use.proofs.places.places_of.Goals as goal

pub loop-place-preserved : goal.loop-place-preserved
loop-place-preserved c =
    let points = c.args.cfg.now.points in
    let i = c.loop-place.place in
    let d : Node = node.At (record { 0 = 0 }) in
    let lt : i < length points = rw c.points-point-items.ensures at c.loop-place-test.true in
    let is : get_or points i d ≡ point_at points i = point_same points i d lt in
    let below = c.numbers.ensures.below i d lt in
    let count : length c.loop-place.places.items ≡ c.numbers.result = c.loop-place.invariant.length_is ∙ sym c.numbers.ensures.before in
    let fits : number (get_or points i d) < length c.loop-place.places.items = rw count below in
    let at : c.point_number.result ≡ number (get_or points i d) = rw c.points-point-items.ensures at c.point_number.ensures in
    rw at (record {
      length_is = length-set c.loop-place.places.items (number (get_or points i d)) i ∙ c.loop-place.invariant.length_is;
      placed = placed_more points c.requires c.loop-place.places.items i (get_or points i d) lt is fits c.loop-place.invariant.placed;
    })
