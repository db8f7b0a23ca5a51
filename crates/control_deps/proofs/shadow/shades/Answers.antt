use Rattle.std.proofs.lemmas.Option.{slice_get_past}
use Rattle.control_deps.proofs.ShadowLemmas.{around_within, tells_no_spot, tells_dead, tells_other, tells_if, tells_branch, other_form, not_off, not_on}
use Rattle.control_deps.proofs.shadow.shades.Goals as goal

pub returns-then-branch-spots : goal.returns-then-branch-spots
returns-then-branch-spots c = tells_no_spot c.args.spots.now c.args.branch.0 c.args.node (slice_get_past c.args.spots.now c.args.branch.0 c.if-branch-spots.true)

pub returns-then-not-spot : goal.returns-then-not-spot
returns-then-not-spot c =
    tells_dead c.args.spots.now c.args.branch.0 c.args.node _ c.spot_at-spot.ensures (not_on _ c.if-not-spot.true)

pub returns-in-If : goal.returns-in-If
returns-in-If c =
    tells_if c.args.spots.now c.args.branch.0 c.args.node _ c.is_of_if.result c.spot_at-spot.ensures (not_off _ c.if-not-spot.false) c.in-If.is c.is_of_if.ensures

pub returns-in-Branch : goal.returns-in-Branch
returns-in-Branch c =
    tells_branch c.args.spots.now c.args.branch.0 c.args.node _ c.in-Branch.label c.decides.result c.spot_at-spot.ensures (not_off _ c.if-not-spot.false) c.in-Branch.is c.decides.ensures

pub returns-in_default : goal.returns-in_default
returns-in_default c =
    tells_other c.args.spots.now c.args.branch.0 c.args.node _ c.spot_at-spot.ensures (other_form _ c.in_default.not-If c.in_default.not-Branch) c.in_default.not-If

pub decides-requires-clause-within : goal.decides-requires-clause-within
decides-requires-clause-within c = around_within c.args.spots.now c.args.branch.0 _ c.requires c.spot_at-spot.ensures
