use Rattle.std.proofs.Common.{rules, ◌≡◌, ◌++◌, ◌∷◌, [], ap, ◌∙◌}
use Rattle.control_deps.specs.declared.deciders.Row.{Row}
use Rattle.control_deps.proofs.ShadowLemmas.{around_within}
use Rattle.control_deps.proofs.LeaveLemmas.{more_exits, more_rows}
use Rattle.control_deps.proofs.deciders.pass.Goals as goal

pub see-requires-clause-within : goal.see-requires-clause-within
see-requires-clause-within c =
    let nest = c.args.spots.now in
    around_within nest c.args.at.0 _ c.requires.nested c.spot_at-spot.ensures

pub returns-clause-exits : goal.returns-clause-exits
returns-clause-exits c =
    let nest = c.args.spots.now in
    more_exits nest c.args.at _ c.args.exits.now c.see.new.exits c.spot_at-spot.ensures c.see.ensures c.requires.exits

pub returns-clause-rows : goal.returns-clause-rows
returns-clause-rows c =
    let nest = c.args.spots.now in
    let pushed : c.push.new.self.items ≡ c.args.rows.now.items ++ c.of-row.result ∷ [] = search rules in
    more_rows nest c.args.at.0 _ c.args.exits.now c.args.rows.now.items c.push.new.self.items c.spot_at-spot.ensures
    c.requires.exits
    (pushed ∙ ap (λ (row : Row). c.args.rows.now.items ++ row ∷ []) (c.of-row.ensures ∙ c.row_of.ensures)) c.requires.rows
