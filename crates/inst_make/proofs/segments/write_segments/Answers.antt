use Rattle.std.proofs.Common.{List, ℕ, ap, ap₂, ◌∙◌, arith}
use Rattle.typed_runs.specs.Start.{begins}
use Rattle.run_store.specs.Pages.{after_write}
use Rattle.inst_make.proofs.Writes.{written_more}
use Rattle.inst_make.proofs.segments.write_segments.Goals as goal

pub loop-segment-preserved : goal.loop-segment-preserved
loop-segment-preserved c =
    let begin = c.offset_of.ensures ∙ ap (begins c.args.globals.now) c.as_slice.ensures in
    written_more c.args.globals.now c.args.segments.now c.loop-segment.segment-index c.segment-item.result c.args.store.now c.loop-segment.store
    c.write.new.self (omega arith) c.segment-item.is c.requires.within c.loop-segment.invariant
    (c.write.ensures.after
    ∙ ap₂ {A = ℕ} {B = List ℕ} (after_write c.loop-segment.store) begin c.as_slice-in-loop-segment.ensures)
