use Rattle.std.proofs.Common.{◌∙◌, sym, ap, length}
use Rattle.stack_names.specs.Spans.{extents}
use Rattle.stack_names.proofs.SpanLemmas.{length-lists, length-extents}
use Rattle.stack_names.proofs.lists.Lists.len.Goals as goal

pub returns : goal.returns
returns c =
    ap length c.as_slice.ensures.value ∙ sym (length-extents 0 c.self.inside.spans.items) ∙ sym (length-lists c.self.inside.places.items (extents 0 c.self.inside.spans.items))
    ∙ ap length c.self.view_is
