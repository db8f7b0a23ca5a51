use Rattle.std.proofs.Common.{arith}
use Rattle.text_laws.proofs.SizeLemmas.{has_at_most, has_at_most_more}
use Rattle.wassail_top.specs.Answers.{most_bytes}
use Rattle.wassail_top.proofs.due.answer_module.Goals as goal

pub admit-requires-clause-entries : goal.admit-requires-clause-entries
admit-requires-clause-entries c = has_at_most_more most_bytes 0x7FFF_FFFF c.args.form (omega arith) (has_at_most c.args.form most_bytes c.requires.short)
