use Rattle.report_text.proofs.ListingLemmas.{spaces}
use Rattle.report_text.proofs.place.place_indent.Goals as goal

pub returns : goal.returns
returns c = rw (spaces c.args.depth) c.place_spaces.ensures
