use Rattle.std.proofs.Common.{◌≡◌, ◌∙◌, sym, ap, Some}
use Rattle.std.specs.List.{slice_get}
use Rattle.stack_names.specs.Spans.{extent_from, extent_or}
use Rattle.stack_names.proofs.SpanLemmas.{extent_get, extent_none, start_is}
use Rattle.stack_names.proofs.lists.extent_at.Goals as goal

pub returns-in-Some : goal.returns-in-Some
returns-in-Some c =
    let at : slice_get c.args.spans.now c.args.pos ≡ Some c.in-Some.span = sym c.span_at.ensures ∙ c.in-Some.is in
    c.extent_of.ensures ∙ ap (λ n. extent_from n c.in-Some.span) (c.start_at.ensures ∙ start_is 0 c.args.spans.now c.args.pos c.in-Some.span at)
    ∙ sym (ap extent_or (extent_get 0 c.args.spans.now c.args.pos c.in-Some.span at))

pub returns-in-None : goal.returns-in-None
returns-in-None c = sym (ap extent_or (extent_none 0 c.args.spans.now c.args.pos (sym c.span_at.ensures ∙ c.in-None.is)))
