use Rattle.std.proofs.Common.{sym, ap, ◌∙◌, inl, inr, ⊎_elim, arith}
use Rattle.block_cfg.specs.Graph.{number}
use Rattle.slice_closure.specs.declared.items.Item.TheVariants.{Needs}
use Rattle.slice_closure.specs.RunLaws.{back_below}
use Rattle.slice_closure.proofs.search.Closing.passed.Goals as goal

pub returns-then-writes-clause-exact : goal.returns-then-writes-clause-exact
returns-then-writes-clause-exact c =
    let w = c.writes.ensures.0 c.if-writes.true in
    λ j. (λ h. ⊎_elim (λ (written, e). e ∙ sym c.written.ensures.written) (λ (free, e). absurd (free w)) h, λ e. inl (w, e ∙ c.written.ensures.written))

pub returns-else-writes-clause-exact : goal.returns-else-writes-clause-exact
returns-else-writes-clause-exact c =
    λ j. (
      λ h. ⊎_elim (λ (written, e). let on = c.writes.ensures.1 written in let off = c.if-writes.false in absurd cc)
          (λ (free, e). e ∙ ap (λ z. Needs c.args.loc z) (sym c.settled.ensures)) h,
      λ e. inr (λ w. let on = c.writes.ensures.1 w in let off = c.if-writes.false in cc, e ∙ ap (λ z. Needs c.args.loc z) c.settled.ensures),
    )

pub returns-else-writes-clause-item : goal.returns-else-writes-clause-item
returns-else-writes-clause-item c =
    let le = back_below c.args.self.now.tables c.args.loc c.args.point in
    (c.requires.loc, omega (arith, ap number c.settled.ensures, le, c.requires.node))
