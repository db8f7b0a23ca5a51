use Rattle.report_text.proofs.PlaceLemmas.{Placed-then}
use Rattle.report_text.proofs.front.place_beginning.Goals as goal

pub returns : goal.returns
returns c = Placed-then c.place_next-behind.ensures.placed (Placed-then c.place_byte-begun.ensures c.place_indent.ensures)
