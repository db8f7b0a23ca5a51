use Rattle.std.proofs.Common.{refl, rules}
use Rattle.def_use.proofs.kept.Reach.of.Goals as goal

pub returns : goal.returns
returns c = (
  (refl, λ _. tt, (c.learn.ensures.made, c.learn.ensures.right)),
  record { answer = c.in-Some.ensures.answer c.args.locs.now c.in_ok-learn.ensures.right; again = tt },
)

pub returns-in_err-learn : goal.returns-in_err-learn
returns-in_err-learn c = (
  (refl, λ _. tt, (c.learn.ensures.made, c.learn.ensures.right)),
  record { answer = search rules; again = tt },
)
