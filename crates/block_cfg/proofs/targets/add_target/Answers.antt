use Rattle.std.proofs.Common.{false, ◌-◌, ◌<◌, ◌∷◌, ◌++◌, [], length, sym, ap, ◌∙◌, arith}
use Rattle.std.proofs.lemmas.List.{get_or_default}
use Rattle.wasm_types.specs.declared.place.Node.{Node}
use Rattle.wasm_types.specs.declared.place.Node.TheVariants.{Exit}
use Rattle.block_cfg.proofs.TargetLemmas.{one_more_mark, one_more, target_place}
use Rattle.block_cfg.proofs.targets.add_target.Goals as goal

pub returns-clause-marks : goal.returns-clause-marks
returns-clause-marks c =
    let place = length c.args.labels.now - 1 - c.args.label in
    let in_labels : length c.args.labels.now - 1 - c.args.label < length c.args.labels.now = omega arith in
    let in_seen : length c.args.labels.now - 1 - c.args.label < length c.args.seen.now.items = omega (arith, c.requires.marks.same) in
    one_more_mark c.args.labels.now c.args.seen.now.items c.args.row.now c.push.new.self place _ in_labels c.requires.once c.requires.marks
    (get_or_default c.args.seen.now.items place false c.index.result.now in_seen ∙ sym c.index.ensures ∙ c.if-index.false)
    (get_or_default c.args.labels.now place _ Exit in_labels) c.in_ok-push.ensures.ok

pub returns-clause-row : goal.returns-clause-row
returns-clause-row c =
    let in_labels : length c.args.labels.now - 1 - c.args.label < length c.args.labels.now = omega arith in
    one_more c.args.row.now c.push.new.self _ (c.in_ok-push.ensures.ok ∙ ap (λ (z : Node). c.args.row.now ++ z ∷ []) (get_or_default c.args.labels.now (length c.args.labels.now - 1 - c.args.label) _ Exit in_labels ∙ sym (target_place c.args.labels.now c.args.label c.requires.label)))
