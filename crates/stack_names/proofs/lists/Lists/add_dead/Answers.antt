use Rattle.std.proofs.Common.{◌++◌, ◌∷◌, [], ◌≡◌, ◌∙◌, sym, ap, subst, length, None, arith}
use Rattle.stack_names.specs.Spans.{lists_of, extents, AreLaid}
use Rattle.stack_names.proofs.SpanLemmas.{laid_dead, dead_pushed}
use Rattle.stack_names.proofs.lists.Lists.add_dead.Goals as goal

pub invariant_of-self-2 : goal.invariant_of-self-2
invariant_of-self-2 c =
    let long : length c.as_slice-end.result.now ≡ length c.self.inside.places.items = ap length c.as_slice-end.ensures.value in
    subst (AreLaid (length c.self.inside.places.items)) (sym c.in_ok-push.ensures.ok)
    (laid_dead (length c.self.inside.places.items) c.self.inside.spans.items _ c.self.invariant (omega arith) (omega arith))

pub returns : goal.returns
returns c =
    let long : length c.as_slice-end.result.now ≡ length c.self.inside.places.items = ap length c.as_slice-end.ensures.value in
    ap (λ s. lists_of c.self.inside.places.items (extents 0 s)) c.in_ok-push.ensures.ok ∙ dead_pushed c.self.inside.places.items c.self.inside.spans.items _ (omega arith)
    ∙ ap (λ l. l ++ None ∷ []) c.self.view_is
