use Rattle.std.proofs.Common.{◌<◌, ℕ, List, length, subst, sym}
use Rattle.std.specs.List.{All, Contains}
use Rattle.summary_fix.proofs.rounds.mark_callers.Goals as goal

pub mark_each-requires-clause-within : goal.mark_each-requires-clause-within
mark_each-requires-clause-within c =
    subst (λ (xs : List ℕ). All (λ f. f < length c.args.marks.now) xs) (sym c.deref.ensures.value)
    (λ k d lt. c.requires.length _ (c.in_ok-callers.ensures.within k d lt))

pub returns-clause-numbers : goal.returns-clause-numbers
returns-clause-numbers c = λ f calls want.
    c.mark_each.ensures.all f (subst (λ (xs : List ℕ). Contains xs f) (sym c.deref.ensures.value) (c.in_ok-callers.ensures.numbers f calls)) want

pub returns-clause-every : goal.returns-clause-every
returns-clause-every c = λ on f calls want.
    c.mark_each.ensures.all f (subst (λ (xs : List ℕ). Contains xs f) (sym c.deref.ensures.value) (c.in_ok-callers.ensures.every on f calls)) want
