use Rattle.std.proofs.Common.{◌∙◌}
use Rattle.run_store.proofs.Ranges.{copied}
use Rattle.run_store.proofs.bytes.copy_range.Goals as goal

pub returns : goal.returns
returns c = c.copy_within.ensures.after ∙ copied c.args.to c.args.from c.args.count c.args.bytes.now c.requires.from c.requires.to
