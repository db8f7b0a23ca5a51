use Rattle.std.proofs.Common.{◌≡◌, ◌∙◌, ℕ, List, All, Some, reverse, sym, ap, subst, refl, arith}
use Rattle.std.specs.List.{slice_get}
use Rattle.std.proofs.lemmas.List.{take_all}
use Rattle.std.proofs.lemmas.List.Elements.{All-more}
use Rattle.body_check.proofs.plain.all_carry.Goals as goal

pub loop-other-preserved : goal.loop-other-preserved
loop-other-preserved c =
    let same = c.is_same.ensures.0 c.if-not-is_same.false in
    All-more (λ k. slice_get (reverse c.args.labels.now) k ≡ Some c.args.kind) c.args.some.now c.loop-other.other-index 0 (omega arith) c.loop-other.invariant
    (sym c.in-Some.ensures ∙ ap Some same)

pub returns : goal.returns
returns c =
    let all = take_all c.loop-other.other-index c.args.some.now c.loop-other-test.false in
    (λ _. subst (λ (z : List ℕ). All (λ k. slice_get (reverse c.args.labels.now) k ≡ Some c.args.kind) z) all c.loop-other.invariant, λ _. refl)
