use Rattle.slice_whole.proofs.Follows.{slice_follows}
use Rattle.slice_whole.proofs.laws.law_slice_follows.Goals as goal

pub returns : goal.returns
returns c = slice_follows
