use Rattle.std.proofs.Common.{◌≡◌, ◌+◌, ◌-◌, ◌<◌, Some, length, set, ap, arith}
use Rattle.control_deps.specs.Leaving.{number}
use Rattle.control_deps.proofs.ShadowLemmas.{around_within}
use Rattle.control_deps.proofs.LeaveLemmas.{zero_marks, none_marks, more_marks, number_within, length_marked}
use Rattle.control_deps.proofs.deciders.+mark.Goals as goal

pub returns-then-label-eq0 : goal.returns-then-label-eq0
returns-then-label-eq0 t c =
    let lt : number c.args.first < length c.args.exits.now = omega (arith, number_within c.args.spots.now c.args.first c.requires.within, c.requires.long) in
    zero_marks c.args.spots.now c.args.first c.args.label c.args.branch c.args.exits.now _ lt c.if-label-eq0.true
    (ap (λ k. set c.args.exits.now k (Some c.args.branch)) c.number-here.ensures)

pub returns-in_default : goal.returns-in_default
returns-in_default t c =
    let lt : number c.args.first < length c.args.exits.now = omega (arith, number_within c.args.spots.now c.args.first c.requires.within, c.requires.long) in
    none_marks c.args.spots.now c.args.first c.args.label c.args.branch c.args.exits.now _ lt c.in_default.is
    (ap (λ k. set c.args.exits.now k (Some c.args.branch)) c.number-here.ensures)

pub mark-requires : goal.mark-requires
mark-requires t c =
    let nest = c.args.spots.now in
    let at = c.spot_at-spot.ensures in (
      omega arith,
      (
        c.requires.nested,
        (
          around_within nest c.in-Some.block.0 _ c.requires.nested at,
          length_marked c.args.exits.now c.number-here.result
              (Some c.args.branch) (length nest + 1) c.requires.long,
        ),
      ),
    )

pub returns : goal.returns
returns t c =
    let nest = c.args.spots.now in
    let lt : number c.args.first < length c.args.exits.now = omega (arith, number_within nest c.args.first c.requires.within, c.requires.long) in
    let more : c.args.label ≡ (c.args.label - 1) + 1 = omega arith in
    let at = c.spot_at-spot.ensures in
    more_marks nest c.args.first c.args.label (c.args.label - 1) c.args.branch c.in-Some.block _ c.args.exits.now _ c.mark.new.exits lt c.in-Some.is at more
    (ap (λ k. set c.args.exits.now k (Some c.args.branch)) c.number-here.ensures) c.mark.ensures
