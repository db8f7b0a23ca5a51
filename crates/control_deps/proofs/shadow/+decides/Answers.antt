use Rattle.std.proofs.Common.{◌≡◌, ◌-◌, suc, arith}
use Rattle.control_deps.proofs.ShadowLemmas.{around_within, body_decides, innermost, here_decides, last_decides, outer_decides}
use Rattle.control_deps.proofs.shadow.+decides.Goals as goal

pub returns-in_default : goal.returns-in_default
returns-in_default t c = body_decides c.args.spots.now c.args.after c.args.around c.args.label c.args.node c.is_of_body.result c.in_default.is c.is_of_body.ensures

pub returns-then-is_of_block : goal.returns-then-is_of_block
returns-then-is_of_block t c =
    let nest = c.args.spots.now in
    let at = c.spot_at-spot.ensures in
    λ ctx chain lt. here_decides nest c.args.after c.in-Some.block _ ctx c.args.label c.args.node c.is_of_block.result (innermost nest c.args.around c.in-Some.block _ ctx c.in-Some.is at chain) c.if-is_of_block.true c.is_of_block.ensures

pub returns-then-label-eq0 : goal.returns-then-label-eq0
returns-then-label-eq0 t c =
    let nest = c.args.spots.now in
    let at = c.spot_at-spot.ensures in
    λ ctx chain lt. last_decides nest c.args.after c.in-Some.block _ ctx c.args.label c.args.node c.is_of_block.result c.is_inside.result (innermost nest c.args.around c.in-Some.block _ ctx c.in-Some.is at chain) c.if-is_of_block.false c.is_of_block.ensures c.if-label-eq0.true c.is_inside.ensures

pub decides-requires : goal.decides-requires
decides-requires t c =
    let nest = c.args.spots.now in
    let at = c.spot_at-spot.ensures in
    (omega arith, (c.requires.nested, around_within nest c.in-Some.block.0 _ c.requires.nested at))

pub returns : goal.returns
returns t c =
    let nest = c.args.spots.now in
    let more : c.args.label ≡ suc (c.args.label - 1) = omega arith in
    let at = c.spot_at-spot.ensures in
    λ ctx chain lt. outer_decides nest c.args.after c.in-Some.block _ ctx c.args.label (c.args.label - 1) c.args.node c.is_of_block.result c.decides.result (innermost nest c.args.around c.in-Some.block _ ctx c.in-Some.is at chain) c.if-is_of_block.false c.is_of_block.ensures more lt c.decides.ensures
