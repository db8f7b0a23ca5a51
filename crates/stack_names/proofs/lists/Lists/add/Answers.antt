use Rattle.std.proofs.Common.{◌≡◌, ◌+◌, ◌++◌, ◌∷◌, [], ◌∙◌, sym, ap, ap₂, subst, length, length-append, length-take-le, drop, Some, arith, List}
use Rattle.stack_names.specs.declared.place.Place.{Place}
use Rattle.stack_names.specs.declared.lists.Span.{Span}
use Rattle.stack_names.specs.Spans.{lists_of, extents, AreLaid}
use Rattle.stack_names.proofs.SpanLemmas.{laid_live, live_pushed}
use Rattle.stack_names.proofs.lists.Lists.add.Goals as goal

-- what was put is taken away again
pub invariant_of-self-in-Err : goal.invariant_of-self-in-Err
invariant_of-self-in-Err c =
    let start = length c.as_slice-start.result.now in
    let begin : start ≡ length c.self.inside.places.items = ap length c.as_slice-start.ensures.value in
    let back : length c.truncate.new.self.items ≡ length c.self.inside.places.items =
    ap length c.truncate.ensures.items ∙ length-take-le start c.append.new.places.items (omega (arith, c.append.ensures.longer)) ∙ begin in
    subst (λ n. AreLaid n c.append.new.spans.items) (sym back) (subst (AreLaid (length c.self.inside.places.items)) (sym c.in-Err.ensures.same) c.self.invariant)

pub invariant_of-self : goal.invariant_of-self
invariant_of-self c =
    let begin : length c.as_slice-start.result.now ≡ length c.self.inside.places.items = ap length c.as_slice-start.ensures.value in
    let long : length c.append.new.places.items ≡ length c.self.inside.places.items + length c.args.stack.now =
    ap length c.in-Ok.ensures.places ∙ length-append c.self.inside.places.items c.args.stack.now in
    subst (AreLaid (length c.append.new.places.items)) (sym c.in-Ok.ensures.spans)
    (laid_live (length c.self.inside.places.items) (length c.append.new.places.items) c.self.inside.spans.items _ c.self.invariant (omega arith) (omega arith) (omega arith))

pub returns-in-Ok : goal.returns-in-Ok
returns-in-Ok c =
    let begin : length c.as_slice-start.result.now ≡ length c.self.inside.places.items = ap length c.as_slice-start.ensures.value in
    ap₂ {A = List Place} {B = List Span} (λ p s. lists_of p (extents 0 s)) c.in-Ok.ensures.places c.in-Ok.ensures.spans
    ∙ live_pushed c.self.inside.places.items c.args.stack.now c.self.inside.spans.items c.args.from _ c.self.invariant (omega arith) (omega arith) c.requires
    ∙ ap (λ l. l ++ Some (record { operands = drop c.args.from c.args.stack.now; stack = c.args.stack.now }) ∷ []) c.self.view_is
