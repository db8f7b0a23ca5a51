use Rattle.std.proofs.Common.{◌≡◌, ◌<◌, ℕ, List, false, length, refl, subst, ⊎_elim}
use Rattle.std.specs.List.{Contains}
use Rattle.worklist.proofs.Pushing.{all_gained}
use Rattle.wasm_types.specs.Spaces.{func_types}
use Rattle.call_graph.specs.Graph.{TellsCaller, TellsNumber}
use Rattle.call_graph.proofs.Members.{none_in}
use Rattle.summary_fix.proofs.LiveSites.{number_calls}
use Rattle.summary_fix.proofs.rounds.callers_of.Goals as goal

pub returns-then-all-clause-within : goal.returns-then-all-clause-within
returns-then-all-clause-within c =
    all_gained (TellsCaller c.args.graph.now c.args.func) (length (func_types c.args.m.now)) c.new-callers.result.items c.push_callers.new.funcs.items
    c.push_callers.new.funcs.items c.new-callers.ensures.items refl c.in_ok-push_callers.ensures (λ f p. subst (λ n. f < n) c.requires.graph.count p.0)

pub returns-then-all-clause-numbers : goal.returns-then-all-clause-numbers
returns-then-all-clause-numbers c = λ f calls.
    c.in_ok-push_callers.ensures.all f ((c.requires.graph.callers c.args.func f c.requires.func).1 (number_calls c.args.m.now f c.args.func calls))

pub returns-then-all-clause-every : goal.returns-then-all-clause-every
returns-then-all-clause-every c = λ on f calls. c.in_ok-push_callers.ensures.all f ((c.requires.graph.callers c.args.func f c.requires.func).1 calls)

pub returns-clause-within : goal.returns-clause-within
returns-clause-within c =
    all_gained (TellsNumber c.args.graph.now c.args.func) (length (func_types c.args.m.now)) c.new-callers.result.items c.push_number_callers.new.funcs.items
    c.push_number_callers.new.funcs.items c.new-callers.ensures.items refl c.in_ok-push_number_callers.ensures
    (λ f p. subst (λ n. f < n) c.requires.graph.count p.0)

pub returns-clause-numbers : goal.returns-clause-numbers
returns-clause-numbers c = λ f calls.
    c.in_ok-push_number_callers.ensures.all f ((c.requires.graph.numbers c.args.func f c.requires.func).1 calls)

pub returns-clause-every : goal.returns-clause-every
returns-clause-every c = λ on. let off : c.args.all ≡ false = c.if-all.false in absurd cc

pub returns-then-all-clause-only : goal.returns-then-all-clause-only
returns-then-all-clause-only c = λ f here. ⊎_elim
    (λ old. absurd (none_in f (subst (λ (fs : List ℕ). Contains fs f) c.new-callers.ensures.items old)))
    (λ p. (c.requires.graph.callers c.args.func f c.requires.func).0 p)
    (c.in_ok-push_callers.ensures.only f here)

pub returns-clause-only : goal.returns-clause-only
returns-clause-only c = λ f here. ⊎_elim
    (λ old. absurd (none_in f (subst (λ (fs : List ℕ). Contains fs f) c.new-callers.ensures.items old)))
    (λ p. number_calls c.args.m.now f c.args.func ((c.requires.graph.numbers c.args.func f c.requires.func).0 p))
    (c.in_ok-push_number_callers.ensures.only f here)
