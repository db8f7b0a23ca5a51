use Rattle.std.proofs.Common.{◌≡◌, ◌<◌, ◌+◌, ◌∷◌, ◌++◌, [], List, length, get_or, set, take, refl, sym, ap, ◌∙◌, subst, arith}
use Rattle.std.proofs.lemmas.List.{get_or_default, length-set}
use Rattle.std.proofs.lemmas.List.Elements.{Contains-get_or}
use Rattle.wasm_types.specs.declared.place.Node.{Node}
use Rattle.wasm_types.specs.declared.place.Node.TheVariants.{Exit}
use Rattle.block_cfg.specs.Graph.{EachOnce, number, row_of}
use Rattle.block_cfg.proofs.BeforeLemmas.{IsAdded, one_added, added_more, once_more, added_all}
use Rattle.block_cfg.proofs.before.add_before.Goals as goal

pub loop-to-preserved : goal.loop-to-preserved
loop-to-preserved c =
    let row = c.args.row.now in
    let j = c.loop-to.to-index in
    let to = get_or row j Exit in
    let mid = c.loop-to.before.items in
    let i = c.loop-to.invariant in
    let in_row : j < length row = omega arith in
    let at : c.point_number.result ≡ number to = c.point_number.ensures ∙ ap number (get_or_default row j _ Exit in_row) in
    let within : number to < length mid = omega (arith, i.same, c.requires.within to (Contains-get_or row j Exit in_row)) in
    let same : set mid c.point_number.result c.push.new.self ≡ set mid (number to) (row_of mid to ++ c.args.from ∷ []) =
    one_added mid c.args.from to c.point_number.result c.index_mut.result.now c.push.new.self at (omega (arith, at, within)) c.index_mut.ensures.value c.in_ok-push.ensures.ok in
    record {
      same = length-set mid c.point_number.result c.push.new.self ∙ i.same;
      once = subst (λ (z : List (List Node)). (b : Node) → EachOnce (row_of z b)) (sym same) (once_more c.args.before.now.items mid c.args.from row j to in_row refl within i.added c.requires.row c.requires.new i.once);
      added = subst (λ (z : List (List Node)). IsAdded c.args.before.now.items z c.args.from (take (j + 1) row)) (sym same) (added_more c.args.before.now.items mid c.args.from row j to in_row refl within i.added);
    }

pub returns-clause-exact : goal.returns-clause-exact
returns-clause-exact c = added_all c.args.before.now.items c.loop-to.before.items c.args.from c.args.row.now c.loop-to.to-index (omega arith) c.loop-to.invariant.added
