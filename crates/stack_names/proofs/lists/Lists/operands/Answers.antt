use Rattle.std.proofs.Common.{◌≡◌, ◌∙◌, sym, ap, length, arith, Some, None}
use Rattle.std.specs.List.{slice_get, slice_range}
use Rattle.stack_names.specs.Named.{operands_in}
use Rattle.stack_names.specs.Spans.{extents, extent_or}
use Rattle.stack_names.proofs.SpanLemmas.{within_at, at_some, at_none}
use Rattle.stack_names.proofs.lists.Lists.operands.Goals as goal

pub part-requires : goal.part-requires
part-requires c =
    let at : extent_or (slice_get (extents 0 c.self.inside.spans.items) c.args.pos) ≡ Some c.in-Some.extent = ap (λ s. extent_or (slice_get (extents 0 s) c.args.pos)) (sym c.as_slice.ensures.value) ∙ sym c.extent_at.ensures ∙ c.in-Some.is in
    let w = within_at (length c.self.inside.places.items) (extents 0 c.self.inside.spans.items) c.args.pos c.in-Some.extent c.self.invariant.0 at in
    let long : length c.as_slice-in-Some.result.now ≡ length c.self.inside.places.items = ap length c.as_slice-in-Some.ensures.value in
    record { order = omega (arith, w.0, w.1); within = omega (arith, w.2) }

pub returns-in-Some : goal.returns-in-Some
returns-in-Some c =
    let at : Some c.in-Some.extent ≡ extent_or (slice_get (extents 0 c.self.inside.spans.items) c.args.pos) = sym c.in-Some.is ∙ c.extent_at.ensures ∙ ap (λ s. extent_or (slice_get (extents 0 s) c.args.pos)) c.as_slice.ensures.value in
    c.part.ensures ∙ ap (λ l. slice_range l c.in-Some.extent.operands c.in-Some.extent.end) c.as_slice-in-Some.ensures.value ∙ (at_some c.self.inside.places.items (extents 0 c.self.inside.spans.items) c.args.pos c.in-Some.extent at).0 ∙ ap (λ l. operands_in l c.args.pos) c.self.view_is

pub returns-in-None : goal.returns-in-None
returns-in-None c =
    let at : None ≡ extent_or (slice_get (extents 0 c.self.inside.spans.items) c.args.pos) = sym c.in-None.is ∙ c.extent_at.ensures ∙ ap (λ s. extent_or (slice_get (extents 0 s) c.args.pos)) c.as_slice.ensures.value in
    sym (at_none c.self.inside.places.items (extents 0 c.self.inside.spans.items) c.args.pos at).0 ∙ ap (λ l. operands_in l c.args.pos) c.self.view_is
