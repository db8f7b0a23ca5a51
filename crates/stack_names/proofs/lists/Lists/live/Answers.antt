use Rattle.std.proofs.Common.{◌≡◌, ◌∙◌, ap}
use Rattle.std.specs.List.{slice_get}
use Rattle.stack_names.specs.Named.{is_live_in}
use Rattle.stack_names.specs.Spans.{extents, extent_or}
use Rattle.stack_names.proofs.SpanLemmas.{list_at}
use Rattle.stack_names.proofs.lists.Lists.live.Goals as goal

pub returns : goal.returns
returns c =
    let at : c.extent_at.result ≡ extent_or (slice_get (extents 0 c.self.inside.spans.items) c.args.pos) = c.extent_at.ensures ∙ ap (λ s. extent_or (slice_get (extents 0 s) c.args.pos)) c.as_slice.ensures.value in
    c.is_some.ensures ∙ list_at c.self.inside.places.items (extents 0 c.self.inside.spans.items) c.args.pos c.extent_at.result at ∙ ap (λ l. is_live_in l c.args.pos) c.self.view_is
