use Rattle.std.proofs.Common.{inl, inr, ⊎_elim, sym, subst}
use Rattle.func_flow.specs.RunLaws.{settled_item}
use Rattle.func_flow.specs.Runs.{Settled}
use Rattle.func_flow.proofs.RunLemmas.{settled_once}
use Rattle.func_flow.proofs.search.Flow.passed.Goals as goal

pub returns-then-writes-clause-exact : goal.returns-then-writes-clause-exact
returns-then-writes-clause-exact c =
    let w = c.writes.ensures.0 c.if-writes.true in λ j. (λ h. ⊎_elim (λ (written, e). e) (λ (free, s). absurd (free w)) h, λ e. inl (w, e))

pub returns-else-writes-clause-exact : goal.returns-else-writes-clause-exact
returns-else-writes-clause-exact c =
    let t = c.args.self.now.tables in
    let r = c.args.self.now.runs.now in
    let x = c.args.loc in
    let b = c.args.point in
    λ j. (
      λ h. ⊎_elim (λ (written, e). let on = c.writes.ensures.1 written in let off = c.if-writes.false in absurd cc)
          (λ (free, s). settled_once t r x b j c.settled.result s c.settled.ensures) h,
      λ e. inr (λ w. let on = c.writes.ensures.1 w in let off = c.if-writes.false in cc, subst (Settled t r x b) (sym e) c.settled.ensures),
    )

pub returns-else-writes-clause-item : goal.returns-else-writes-clause-item
returns-else-writes-clause-item c =
    let flow = c.args.self.now in
    settled_item flow.tables flow.runs.now flow.fits flow.order c.args.loc c.args.point c.settled.result c.requires.loc c.requires.node c.settled.ensures
