use Rattle.std.proofs.Common.{◌≡◌, true, false, inl, inr, refl}
use Rattle.flow_domain.specs.Reach.{CallsFunc}
use Rattle.summary_fix.proofs.LiveSites.{number_calls}
use Rattle.summary_fix.proofs.Marking.{grows_then, not_on, nothing_apart}
use Rattle.summary_fix.proofs.rounds.fill_own.Goals as goal

pub returns-then-not-grew-clause-full : goal.returns-then-not-grew-clause-full
returns-then-not-grew-clause-full c =
    c.in_ok-grew.ensures.full
    (nothing_apart c.args.m.now c.in_ok-grew.grew c.args.func c.args.func (not_on c.in_ok-grew.grew.rows c.if-not-grew.true) c.in_ok-grew.ensures.within)

pub returns-then-not-calls-clause-full : goal.returns-then-not-calls-clause-full
returns-then-not-calls-clause-full c =
    let m = c.args.m.now in
    let func = c.args.func in
    let no : CallsFunc m func func → ⊥ = λ calls.
    let here : c.calls.result ≡ true = (c.calls.ensures m c.requires.graph c.requires.func).1 calls in
    let off : c.calls.result ≡ false = c.if-not-calls.true in absurd cc in
    c.in_ok-grew.ensures.full (λ on calls. no (number_calls m func func calls), λ on. no)

pub returns-clause-others : goal.returns-clause-others
returns-clause-others c = λ f full apart.
    let both = c.any.ensures in
    let number = apart.0 refl in
    c.in_ok-wide.ensures.others f (c.in_ok-grew.ensures.others f full (λ on. number, λ on. apart.1 (both.1 (inl on)))) number (λ on. apart.1 (both.1 (inr on)))

pub returns-clause-only : goal.returns-clause-only
returns-clause-only c =
    grows_then (λ f. f ≡ c.args.func) c.args.table.now c.add_rows.new.table c.add_all.new.table c.in_ok-grew.ensures.only c.in_ok-wide.ensures.only
