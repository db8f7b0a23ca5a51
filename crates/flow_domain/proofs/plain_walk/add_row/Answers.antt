use Rattle.std.proofs.Common.{refl, rules, ◌≡◌, ◌++◌, ◌∷◌, []}
use Rattle.flow_domain.proofs.LocLemmas.{shown_push}
use Rattle.flow_domain.proofs.plain_walk.add_row.Goals as goal
use Rattle.flow_domain.proofs.plain_walk.add_row.Goals.{then-live+in_ok-plain_uses, else-live}

pub returns : goal.returns
returns c =
    let pushed : c.push.new.self.items ≡ c.args.rows.now.items ++ c.if-live.row ∷ [] = search rules in
    rw (pushed, shown_push c.args.rows.now.items c.if-live.row) (elim c.if-live.branch [
      | then-live+in_ok-plain_uses w ↦ let is = w.row-is in rw (is, w.if-live.true, w.in_ok-plain_uses.ensures) refl
      | else-live w ↦ let is = w.row-is in rw (is, w.if-live.false) refl
    ])
